use Rattle.std.proofs.Common.{subst}
use Rattle.std.proofs.lemmas.Result.{on_ok_weaker}
use Rattle.std.specs.Prelude.{OnOk}
use Rattle.im_carried.specs.Hashed.{inclusion_strings, grown_strings, last_strings}
use Rattle.im_hashed.specs.Added.{AddsStrings}
use Rattle.im_hashed.proofs.DualLemmas.{three-added}
use Rattle.im_hashed.proofs.duals.add_trees.Goals as goal

pub returns : goal.returns
returns g c =
    on_ok_weaker c.add_last.result
    (three-added c.args.out.now.items c.add_inclusion.new.out.items c.add_consistency.new.out.items c.add_last.new.out.items
    (inclusion_strings (g.H.Hash32.digest c.args.hash.now) c.args.dual.now.source.id c.args.dual.now.target.bl_tx_id c.args.alh.now c.args.dual.now.inclusion)
    (grown_strings (g.H.Hash32.digest c.args.hash.now) c.args.dual.now.source.bl_tx_id c.args.dual.now.target.bl_tx_id c.args.dual.now.consistency)
    (last_strings (g.H.Hash32.digest c.args.hash.now) c.args.dual.now.target.bl_tx_id c.args.dual.now.target_bl_tx_alh c.args.dual.now.last_inclusion)
    (subst (λ l. AddsStrings c.args.out.now.items c.add_inclusion.new.out.items (inclusion_strings (g.H.Hash32.digest c.args.hash.now) c.args.dual.now.source.id c.args.dual.now.target.bl_tx_id c.args.alh.now l)) c.as_slice-inclusion.ensures c.in_ok-add_inclusion.ensures)
    (subst (λ l. AddsStrings c.add_inclusion.new.out.items c.add_consistency.new.out.items (grown_strings (g.H.Hash32.digest c.args.hash.now) c.args.dual.now.source.bl_tx_id c.args.dual.now.target.bl_tx_id l)) c.as_slice-list.ensures c.in_ok-add_consistency.ensures))
    (subst (λ l. OnOk c.add_last.result (AddsStrings c.add_consistency.new.out.items c.add_last.new.out.items (last_strings (g.H.Hash32.digest c.args.hash.now) c.args.dual.now.target.bl_tx_id c.args.dual.now.target_bl_tx_alh l))) c.as_slice-last.ensures c.add_last.ensures)
