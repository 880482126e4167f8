use Rattle.std.proofs.Common.{◌++◌, subst}
use Rattle.std.proofs.lemmas.Result.{on_ok_weaker}
use Rattle.im_carried.specs.Hashed.{inclusion_strings, grown_strings, last_strings}
use Rattle.im_hashed.specs.Added.{AddsStrings}
use Rattle.im_hashed.proofs.CountLemmas.{counted}
use Rattle.im_hashed.proofs.DualLemmas.{dual-added}
use Rattle.im_hashed.proofs.duals.add_dual.Goals as goal

pub add_chains-requires : goal.add_chains-requires
add_chains-requires g c = counted (g.H.Hash32.digest c.args.hash.now) c.args.dual.now c.number_fits.ensures c.requires

pub returns : goal.returns
returns g c =
    on_ok_weaker c.add_chains.result
    (dual-added (g.H.Hash32.digest c.args.hash.now) c.args.dual.now c.args.out.now.items c.add_header.new.out.items c.add_header-2.new.out.items c.add_trees.new.out.items c.add_chains.new.out.items
    c.in_ok-alh.ensures.strings c.in_ok-add_header.ensures.strings
    (subst (λ a. AddsStrings c.add_header-2.new.out.items c.add_trees.new.out.items (inclusion_strings (g.H.Hash32.digest c.args.hash.now) c.args.dual.now.source.id c.args.dual.now.target.bl_tx_id a c.args.dual.now.inclusion
    ++ (grown_strings (g.H.Hash32.digest c.args.hash.now) c.args.dual.now.source.bl_tx_id c.args.dual.now.target.bl_tx_id c.args.dual.now.consistency ++ last_strings (g.H.Hash32.digest c.args.hash.now) c.args.dual.now.target.bl_tx_id c.args.dual.now.target_bl_tx_alh c.args.dual.now.last_inclusion)))
    c.in_ok-alh.ensures.digest c.in_ok-add_trees.ensures))
    c.add_chains.ensures
