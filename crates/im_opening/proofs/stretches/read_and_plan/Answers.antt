use Rattle.std.proofs.Common.{◌∙◌}
use Rattle.im_clog.specs.Marks.{IsUncounted}
use Rattle.im_clog.specs.declared.marks.Uncounted.{Uncounted}
use Rattle.im_disk.specs.Disk.{seen}
use Rattle.im_format.specs.Batches.{Counts}
use Rattle.im_format.specs.Damages.{image_checks}
use Rattle.im_opening.specs.Answers.{of_disk}
use Rattle.im_opening.proofs.Finding.{at-some, cause-disk, cause-err, cause-ok, disk-err, ok-leaves, tell-err}
use Rattle.im_opening.proofs.stretches.read_and_plan.Goals as goal

-- the batches can't be read
pub returns-in_err-behind-clause-unfit : goal.returns-in_err-behind-clause-unfit
returns-in_err-behind-clause-unfit g c t is =
    tell-err (image_checks (g.H.Hash32.digest c.args.hash.now) (seen t)) _ c.in_err-behind.field-0.0 c.from_residual.ensures.1 (c.in_err-behind.ensures.unfit t is)

pub returns-in_err-behind-clause-cause : goal.returns-in_err-behind-clause-cause
returns-in_err-behind-clause-cause g c = cause-err _ _ c.in_err-behind.field-0.0 _ c.in_err-behind.ensures.cause c.from_residual.ensures.1

-- none counts behind them
pub returns-in-Some-clause-behind : goal.returns-in-Some-clause-behind
returns-in-Some-clause-behind g c =
    let P : Uncounted → Type 0 = λ why. IsUncounted c.args.commits.now c.read_stretch.new.reading.gate why in
    at-some P c.in_ok-behind.field-0 c.in-Some.behind c.in_ok-behind.ensures.behind c.in-Some.is

pub returns-in-Some-clause-last : goal.returns-in-Some-clause-last
returns-in-Some-clause-last g c =
    let P : Uncounted → Type 0 = λ why. Counts c.args.commits.now c.read_stretch.new.reading.gate → ⊥ in
    at-some P c.in_ok-behind.field-0 c.in-Some.behind c.in_ok-behind.ensures.last c.in-Some.is

pub returns-in-Some-clause-cause : goal.returns-in-Some-clause-cause
returns-in-Some-clause-cause g c = cause-ok _ _ _ (ok-leaves _ _ c.in_ok-behind.field-0 c.in_ok-behind.ensures.cause)

-- nothing can be planned
pub returns-in_err-planned-clause-unfit : goal.returns-in_err-planned-clause-unfit
returns-in_err-planned-clause-unfit g c t is =
    disk-err (image_checks (g.H.Hash32.digest c.args.hash.now) (seen t)) _ c.in_err-planned.field-0.0 c.from_residual-in_err-planned.ensures.1

pub returns-in_err-planned-clause-told : goal.returns-in_err-planned-clause-told
returns-in_err-planned-clause-told g c = c.in_err-planned.ensures.told ∙ c.in_ok-behind.ensures.told

pub returns-in_err-planned-clause-cause : goal.returns-in_err-planned-clause-cause
returns-in_err-planned-clause-cause g c =
    let e = c.in_err-planned.field-0.0 in
    cause-err _ _ (of_disk e) _
    (cause-disk {U = Unit {0}} _ _ _ e (ok-leaves _ _ c.in_ok-behind.field-0 c.in_ok-behind.ensures.cause) c.in_err-planned.ensures.cause)
    c.from_residual-in_err-planned.ensures.1

-- the next window is planned
pub returns-clause-reached : goal.returns-clause-reached
returns-clause-reached g c =
    let reached = c.in_ok-behind.ensures.reached in
    record {
      gate_is = reached.gate_is;
      within = reached.within;
      few = reached.few;
      begun = reached.begun;
      place = reached.place;
      fits = reached.fits;
      whole = reached.whole;
    }

pub returns-clause-left : goal.returns-clause-left
returns-clause-left g c = record { is = c.in_ok-behind.ensures.left.is }

pub returns-clause-told : goal.returns-clause-told
returns-clause-told g c = c.in_ok-planned.ensures.told ∙ c.in_ok-behind.ensures.told

pub returns-clause-cause : goal.returns-clause-cause
returns-clause-cause g c =
    cause-ok _ _ _ (c.in_ok-planned.ensures.cause.ok ∙ ok-leaves _ _ c.in_ok-behind.field-0 c.in_ok-behind.ensures.cause)
