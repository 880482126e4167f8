use Rattle.std.proofs.Common.{refl}
use Rattle.im_disk.specs.Disk.{seen}
use Rattle.im_format.specs.Damages.{image_checks}
use Rattle.im_opening.specs.declared.errors.OpenError.TheVariants.{Memory}
use Rattle.im_opening.proofs.Finding.{cause-memory, tell-err}
use Rattle.im_opening.proofs.hashing.first_hashing.Goals as goal

-- there is no memory for the first plan
pub returns-in_err-plan-clause-unfit : goal.returns-in_err-plan-clause-unfit
returns-in_err-plan-clause-unfit g c t is =
    tell-err (image_checks (g.H.Hash32.digest c.args.hash.now) (seen t)) _ Memory c.from_residual.ensures.1 tt

pub returns-in_err-plan-clause-cause : goal.returns-in_err-plan-clause-cause
returns-in_err-plan-clause-cause g c = cause-memory _ _ _ refl c.from_residual.ensures.1
