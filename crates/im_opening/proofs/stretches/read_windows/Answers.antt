use Rattle.std.proofs.Common.{◌≡◌, sym, ◌∙◌, subst, ℕ, Option}
use Rattle.std.specs.Prelude.{IfSome, OnOk}
use Rattle.im_disk.specs.Disk.{Told, seen}
use Rattle.im_format.specs.Damages.{image_checks}
use Rattle.im_opening.specs.Answers.{HasOpenCause}
use Rattle.im_opening.specs.Parts.{Shows}
use Rattle.im_opening.specs.Stretches.{IsLeft}
use Rattle.im_opening.proofs.Finding.{cause-err, ok-leaves, tell-err}
use Rattle.im_opening.proofs.stretches.read_windows.Goals as goal

-- nothing can be hashed ahead
pub returns-in_err-hashing-clause-unfit : goal.returns-in_err-hashing-clause-unfit
returns-in_err-hashing-clause-unfit g c t is =
    tell-err (image_checks (g.H.Hash32.digest c.args.hash.now) (seen t)) _ c.in_err-hashing.field-0.0 c.from_residual.ensures.1 (c.in_err-hashing.ensures.unfit t is)

pub returns-in_err-hashing-clause-cause : goal.returns-in_err-hashing-clause-cause
returns-in_err-hashing-clause-cause g c = cause-err _ _ c.in_err-hashing.field-0.0 _ c.in_err-hashing.ensures.cause c.from_residual.ensures.1

-- what is said of the disk before holds behind what is hashed first
pub read_each-behind-requires-clause-shows : goal.read_each-behind-requires-clause-shows
read_each-behind-requires-clause-shows g c κs within =
    let S : Option Told → Type 0 = λ o. IfSome o (λ t. Shows (seen t) c.args.source.now.log.now c.args.source.now.lengths) in
    subst S (sym c.in_ok-hashing.ensures.told) c.requires.shows

pub read_each-behind-requires-clause-commits : goal.read_each-behind-requires-clause-commits
read_each-behind-requires-clause-commits g c κs within =
    let S : Option Told → Type 0 = λ o. IfSome o (λ t. c.args.commits.now ≡ seen t 1) in
    subst S (sym c.in_ok-hashing.ensures.told) c.requires.commits

pub read_each-behind-requires-clause-left : goal.read_each-behind-requires-clause-left
read_each-behind-requires-clause-left g c κs within =
    subst (λ o. IsLeft (g.H.Hash32.digest c.args.hash.now) o c.args.reading.now) (sym c.in_ok-hashing.ensures.told) c.requires.left

-- and what is said behind is said of the disk before
pub returns-clause-left : goal.returns-clause-left
returns-clause-left g c =
    let hash = g.H.Hash32.digest c.args.hash.now in
    subst (λ o. OnOk c.read_each-behind.result (IsLeft hash o c.read_each-behind.new.reading)) c.in_ok-hashing.ensures.told c.read_each-behind.ensures.left

pub returns-clause-unfit : goal.returns-clause-unfit
returns-clause-unfit g c t is = c.read_each-behind.ensures.unfit t (c.in_ok-hashing.ensures.told ∙ is)

pub returns-clause-told : goal.returns-clause-told
returns-clause-told g c = c.read_each-behind.ensures.told ∙ c.in_ok-hashing.ensures.told

pub returns-clause-cause : goal.returns-clause-cause
returns-clause-cause g c =
    let now = g.D.Disk.faults c.read_each-behind.new.disk in
    let N : ℕ → Type 0 = λ n. HasOpenCause n now c.read_each-behind.result in
    subst N (ok-leaves _ _ c.in_ok-hashing.hashing c.in_ok-hashing.ensures.cause) c.read_each-behind.ensures.cause
