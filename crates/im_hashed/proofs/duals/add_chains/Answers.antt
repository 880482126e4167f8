use Rattle.std.proofs.Common.{subst}
use Rattle.std.proofs.lemmas.Result.{on_ok_weaker}
use Rattle.std.specs.Prelude.{OnOk}
use Rattle.im_carried.specs.Hashed.{linear_strings, advance_strings}
use Rattle.im_hashed.specs.Added.{AddsStrings, terms_start}
use Rattle.im_hashed.proofs.AddLemmas.{adds-then}
use Rattle.im_hashed.proofs.duals.add_chains.Goals as goal

pub returns : goal.returns
returns g c =
    on_ok_weaker c.add_advance.result
    (adds-then c.args.out.now.items c.add_linear.new.out.items c.add_advance.new.out.items
    (linear_strings (g.H.Hash32.digest c.args.hash.now) (terms_start c.args.dual.now.source.id c.args.dual.now.target.bl_tx_id) c.args.dual.now.linear)
    (advance_strings (g.H.Hash32.digest c.args.hash.now) c.args.dual.now.source.bl_tx_id c.args.dual.now.target.bl_tx_id c.args.dual.now.linear_advance.terms c.args.dual.now.linear_advance.inclusions)
    (subst (λ k. AddsStrings c.args.out.now.items c.add_linear.new.out.items (linear_strings (g.H.Hash32.digest c.args.hash.now) k c.args.dual.now.linear)) c.start.ensures
    (subst (λ l. AddsStrings c.args.out.now.items c.add_linear.new.out.items (linear_strings (g.H.Hash32.digest c.args.hash.now) c.start.result l)) c.as_slice-linear.ensures c.in_ok-add_linear.ensures)))
    (subst (λ l. OnOk c.add_advance.result (AddsStrings c.add_linear.new.out.items c.add_advance.new.out.items (advance_strings (g.H.Hash32.digest c.args.hash.now) c.args.dual.now.source.bl_tx_id c.args.dual.now.target.bl_tx_id l c.args.dual.now.linear_advance.inclusions))) c.as_slice-terms.ensures
    (subst (λ ps. OnOk c.add_advance.result (AddsStrings c.add_linear.new.out.items c.add_advance.new.out.items (advance_strings (g.H.Hash32.digest c.args.hash.now) c.args.dual.now.source.bl_tx_id c.args.dual.now.target.bl_tx_id c.as_slice-terms.result.now ps))) c.as_slice-paths.ensures c.add_advance.ensures))
