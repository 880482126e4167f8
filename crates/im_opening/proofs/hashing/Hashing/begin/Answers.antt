use Rattle.std.proofs.Common.{sym, subst, refl}
use Rattle.im_disk.specs.Disk.{seen}
use Rattle.im_format.specs.Damages.{image_checks}
use Rattle.im_hash_ahead.specs.Facts.{IsKnown}
use Rattle.im_opening.specs.Answers.{of_disk}
use Rattle.im_opening.specs.declared.errors.OpenError.TheVariants.{Memory}
use Rattle.im_opening.proofs.Finding.{cause-disk, cause-err, cause-memory, cause-ok, disk-err, tell-err}
use Rattle.im_opening.proofs.hashing.Hashing.begin.Goals as goal

-- there is no memory for what is hashed first
pub returns-in_err-window-clause-unfit : goal.returns-in_err-window-clause-unfit
returns-in_err-window-clause-unfit g c t is =
    tell-err (image_checks (g.H.Hash32.digest c.args.hash.now) (seen t)) _ Memory c.from_residual.ensures.1 tt

pub returns-in_err-window-clause-cause : goal.returns-in_err-window-clause-cause
returns-in_err-window-clause-cause g c = cause-memory _ _ _ refl c.from_residual.ensures.1

-- nothing can be planned
pub returns-in_err-next-clause-unfit : goal.returns-in_err-next-clause-unfit
returns-in_err-next-clause-unfit g c t is =
    disk-err (image_checks (g.H.Hash32.digest c.args.hash.now) (seen t)) _ c.in_err-next.field-0.0 c.from_residual-in_err-next.ensures.1

pub returns-in_err-next-clause-cause : goal.returns-in_err-next-clause-cause
returns-in_err-next-clause-cause g c =
    let e = c.in_err-next.field-0.0 in
    cause-err _ _ (of_disk e) _ (cause-disk {U = Unit {0}} _ _ _ e refl c.in_err-next.ensures.cause) c.from_residual-in_err-next.ensures.1

pub returns-clause-known : goal.returns-clause-known
returns-clause-known g c = subst (IsKnown (g.H.Hash32.digest c.args.hash.now)) (sym c.replace.ensures.after) c.in_ok-window.ensures

pub returns-clause-cause : goal.returns-clause-cause
returns-clause-cause g c = cause-ok _ _ _ c.in_ok-next.ensures.cause.ok
