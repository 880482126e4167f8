use Rattle.std.proofs.Common.{sym, ◌∙◌}
use Rattle.std.specs.Prelude.{option_copied}
use Rattle.im_mtree.proofs.CheckLemmas.{fail_append}
use Rattle.im_proof.specs.Duals.{as_faults, dual_checks}
use Rattle.im_client.specs.LineChecks.{anchor_checks}
use Rattle.im_client.specs.declared.faults.LineFault.TheVariants.{Dual}
use Rattle.im_client.proofs.checks.check_anchored.Goals as goal

pub returns : goal.returns
returns g c =
    let hash = g.H.Hash32.digest c.args.hash.now in
    c.check_anchor.ensures
    ∙ sym (fail_append (as_faults Dual (dual_checks hash c.args.dual.now)) (anchor_checks hash c.args.dual.now (option_copied c.args.anchor)) (sym c.in_ok-check_dual.ensures))
