use Rattle.std.proofs.Common.{◌≡◌, refl, sym, ◌∙◌, subst, ℕ, Ok, Err, Result, Option}
use Rattle.std.specs.Prelude.{IfErr, IfOk, IfSome, OnOk}
use Rattle.im_clog.specs.Marks.{IsUncounted}
use Rattle.im_clog.specs.declared.marks.Uncounted.{Uncounted}
use Rattle.im_disk.specs.Disk.{Told, seen}
use Rattle.im_format.specs.Batches.{Counts}
use Rattle.im_format.specs.Damages.{image_checks}
use Rattle.im_hash_ahead.specs.Facts.{IsKnown}
use Rattle.im_hash_ahead.specs.declared.windows.Window.{Window}
use Rattle.im_opening.specs.Answers.{HasOpenCause, Tells}
use Rattle.im_opening.specs.Parts.{Shows}
use Rattle.im_opening.specs.Stretches.{IsLeft, IsReadTo}
use Rattle.im_opening.specs.declared.errors.OpenError.{OpenError}
use Rattle.im_opening.proofs.Finding.{at-some, cause-err, cause-ok, ok-leaves}
use Rattle.im_opening.proofs.stretches.read_each.Goals as goal

pub stretches-init : goal.stretches-init
stretches-init g c = record {
  told = refl;
  faults = refl;
  reached = c.requires.reached;
  known = c.requires.known;
  left = c.requires.left;
}

pub stretches-preserved : goal.stretches-preserved
stretches-preserved g c =
    let hash = g.H.Hash32.digest c.args.hash.now in
    let inv = c.stretches.invariant in
    let ens = c.read_beside-filled.ensures in
    let ok : c.read_beside-filled.result.1 ≡ Ok c.in-Ok-None.field-0 = c.in-Ok-None.is in
    let filled : c.read_beside-filled.result.0 ≡ Ok c.in-Ok.filled = c.in-Ok.is in
    let r = c.read_beside-filled.new.reading in
    let C : Result (Option Uncounted) OpenError → Type 0 = λ x. HasOpenCause (g.D.Disk.faults c.stretches.disk) (g.D.Disk.faults c.read_beside-filled.new.disk) x in
    let R : Result (Option Uncounted) OpenError → Type 0 = λ x. OnOk x (IsReadTo hash c.args.commits.now c.args.source.now.log.now r) in
    let L : Result (Option Uncounted) OpenError → Type 0 = λ x. OnOk x (IsLeft hash (g.D.Disk.told c.stretches.disk) r) in
    let reached = subst R ok ens.reached in
    let left = subst (λ o. IsLeft hash o r) inv.told (subst L ok ens.left) in
    record {
      told = ens.told ∙ inv.told;
      faults = ok-leaves _ _ c.in-Ok-None.field-0 (subst C ok ens.cause) ∙ inv.faults;
      reached = record {
        gate_is = reached.gate_is;
        within = reached.within;
        few = reached.few;
        begun = reached.begun;
        place = reached.place;
        fits = reached.fits;
        whole = reached.whole;
      };
      known = c.go_on.ensures hash inv.known (subst (λ x. IfOk x (λ (w : Window). IsKnown hash w)) filled ens.known);
      left = record { is = left.is };
    }

pub returns-in-Ok-Some-clause-reached : goal.returns-in-Ok-Some-clause-reached
returns-in-Ok-Some-clause-reached g c =
    let R : Result (Option Uncounted) OpenError → Type 0 =
    λ x. OnOk x (IsReadTo (g.H.Hash32.digest c.args.hash.now) c.args.commits.now c.args.source.now.log.now c.read_beside-filled.new.reading) in
    subst R c.in-Ok-Some.is c.read_beside-filled.ensures.reached

pub returns-in-Ok-Some-clause-left : goal.returns-in-Ok-Some-clause-left
returns-in-Ok-Some-clause-left g c =
    let hash = g.H.Hash32.digest c.args.hash.now in
    let r = c.read_beside-filled.new.reading in
    let L : Result (Option Uncounted) OpenError → Type 0 = λ x. OnOk x (IsLeft hash (g.D.Disk.told c.stretches.disk) r) in
    subst (λ o. IsLeft hash o r) c.stretches.invariant.told (subst L c.in-Ok-Some.is c.read_beside-filled.ensures.left)

pub returns-in-Ok-Some-clause-behind : goal.returns-in-Ok-Some-clause-behind
returns-in-Ok-Some-clause-behind g c =
    let r = c.read_beside-filled.new.reading in
    let P : Uncounted → Type 0 = λ why. IsUncounted c.args.commits.now r.gate why in
    let W : Result (Option Uncounted) OpenError → Type 0 = λ x. IfOk x (λ behind. IfSome behind P) in
    at-some P c.in-Ok-Some.field-0 c.in-Ok-Some.behind (subst W c.in-Ok-Some.is c.read_beside-filled.ensures.behind) (rw c.in-Ok-Some.is at c.in-Ok-Some.field-0-is)

pub returns-in-Ok-Some-clause-last : goal.returns-in-Ok-Some-clause-last
returns-in-Ok-Some-clause-last g c =
    let r = c.read_beside-filled.new.reading in
    let P : Uncounted → Type 0 = λ why. Counts c.args.commits.now r.gate → ⊥ in
    let N : Result (Option Uncounted) OpenError → Type 0 = λ x. IfOk x (λ behind. IfSome behind P) in
    at-some P c.in-Ok-Some.field-0 c.in-Ok-Some.behind (subst N c.in-Ok-Some.is c.read_beside-filled.ensures.last) (rw c.in-Ok-Some.is at c.in-Ok-Some.field-0-is)

pub returns-in-Err-clause-unfit : goal.returns-in-Err-clause-unfit
returns-in-Err-clause-unfit g c t is =
    let U : Result (Option Uncounted) OpenError → Type 0 = λ x. IfErr x (Tells (image_checks (g.H.Hash32.digest c.args.hash.now) (seen t))) in
    subst U c.in-Err.is (c.read_beside-filled.ensures.unfit t (c.stretches.invariant.told ∙ is))

-- what is said of the disk before the call holds as a window is read
pub read_beside-filled-requires-clause-shows : goal.read_beside-filled-requires-clause-shows
read_beside-filled-requires-clause-shows g c κs within =
    let S : Option Told → Type 0 = λ o. IfSome o (λ t. Shows (seen t) c.args.source.now.log.now c.args.source.now.lengths) in
    subst S (sym c.stretches.invariant.told) c.requires.shows

pub read_beside-filled-requires-clause-commits : goal.read_beside-filled-requires-clause-commits
read_beside-filled-requires-clause-commits g c κs within =
    let S : Option Told → Type 0 = λ o. IfSome o (λ t. c.args.commits.now ≡ seen t 1) in
    subst S (sym c.stretches.invariant.told) c.requires.commits

pub read_beside-filled-requires-clause-left : goal.read_beside-filled-requires-clause-left
read_beside-filled-requires-clause-left g c κs within =
    subst (λ o. IsLeft (g.H.Hash32.digest c.args.hash.now) o c.stretches.reading) (sym c.stretches.invariant.told) c.stretches.invariant.left

pub returns-in-Ok-Some-clause-told : goal.returns-in-Ok-Some-clause-told
returns-in-Ok-Some-clause-told g c = c.read_beside-filled.ensures.told ∙ c.stretches.invariant.told

pub returns-in-Ok-Some-clause-cause : goal.returns-in-Ok-Some-clause-cause
returns-in-Ok-Some-clause-cause g c =
    let C : Result (Option Uncounted) OpenError → Type 0 = λ x. HasOpenCause (g.D.Disk.faults c.stretches.disk) (g.D.Disk.faults c.read_beside-filled.new.disk) x in
    cause-ok _ _ _ (ok-leaves _ _ c.in-Ok-Some.field-0 (subst C c.in-Ok-Some.is c.read_beside-filled.ensures.cause) ∙ c.stretches.invariant.faults)

pub returns-in-Err-clause-told : goal.returns-in-Err-clause-told
returns-in-Err-clause-told g c = c.read_beside-filled.ensures.told ∙ c.stretches.invariant.told

pub returns-in-Err-clause-cause : goal.returns-in-Err-clause-cause
returns-in-Err-clause-cause g c =
    let now = g.D.Disk.faults c.read_beside-filled.new.disk in
    let C : Result (Option Uncounted) OpenError → Type 0 = λ x. HasOpenCause (g.D.Disk.faults c.stretches.disk) now x in
    let N : ℕ → Type 0 = λ n. HasOpenCause {T = Option Uncounted} n now (Err c.in-Err.error) in
    cause-err _ _ c.in-Err.error _ (subst N c.stretches.invariant.faults (subst C c.in-Err.is c.read_beside-filled.ensures.cause)) refl
