use Rattle.std.proofs.Common.{sym}
use Rattle.im_proof.specs.Duals.{dual_checks}
use Rattle.im_client.specs.declared.faults.LineFault.TheVariants.{Anchor}
use Rattle.im_proof.proofs.NamedLemmas.{holds_named, fails_named}
use Rattle.im_client.proofs.checks.check_anchor_dual.Goals as goal

pub returns-in-Ok : goal.returns-in-Ok
returns-in-Ok g c = sym (holds_named Anchor (dual_checks (g.H.Hash32.digest c.args.hash.now) c.args.anchor.now) (sym c.in-Ok.ensures))

pub returns-in-Err : goal.returns-in-Err
returns-in-Err g c = sym (fails_named Anchor (dual_checks (g.H.Hash32.digest c.args.hash.now) c.args.anchor.now) c.in-Err.fault (sym c.in-Err.ensures))
