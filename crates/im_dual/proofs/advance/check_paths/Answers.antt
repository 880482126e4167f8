use Rattle.std.proofs.Common.{arith, ap, sym, ◌∙◌}
use Rattle.im_mtree.specs.Checks.{first_fail}
use Rattle.im_proof.specs.ChainChecks.{path_checks_of}
use Rattle.im_dual.proofs.AdvanceLemmas.{path_fails}
use Rattle.im_dual.proofs.advance.check_paths.Goals as goal

pub returns-in-Err-clause-first : goal.returns-in-Err-clause-first
returns-in-Err-clause-first g c =
    sym c.loop-i.invariant.checked
    ∙ path_fails (g.H.Hash32.digest c.args.hash.now) c.args.tree.size c.args.tree.root c.loop-i.k c.loop-i.alh c.args.inners.now c.args.paths.now c.loop-i.i c.index-paths-i.result c.in-Err.fault
    c.loop-i-test.true (omega arith) c.index-paths-i.is
    (ap (λ p. first_fail (path_checks_of (g.H.Hash32.digest c.args.hash.now) c.args.tree.size c.args.tree.root c.loop-i.k c.loop-i.alh p)) (sym c.as_slice.ensures) ∙ sym c.in-Err.ensures)
