-- The first check that fails, of lists that are put together.
use Rattle.std.proofs.Common.{arith, ◌≡◌, ℕ, List, [], ◌∷◌, ◌++◌, refl, ap, sym, ◌∙◌, subst, false, if◌then◌else◌, Result, Ok, Err, Option, Some, None}
use Rattle.std.specs.Prelude.{IfErr, IfSome, IsErrAnd, IsErrOf}
use Rattle.im_disk.specs.Causes.{HasCause}
use Rattle.im_disk.specs.Disk.{Told}
use Rattle.im_counts.specs.Counts.{Rose}
use Rattle.im_mtree.specs.Checks.{Check, first_fail}
use Rattle.im_format.specs.declared.damages.Damage.{Damage}
use Rattle.im_mtree.proofs.CheckLemmas.{then_check, fail_append, fail_both, fail_first}
use Rattle.im_disk.specs.declared.disk.DiskError.{DiskError}
use Rattle.im_disk.specs.declared.disk.DiskError.TheVariants as Disk
use Rattle.im_opening.specs.Answers.{HasOpenCause, Judges, Tells, of_disk}
use Rattle.im_opening.specs.declared.errors.OpenError.{OpenError}
use Rattle.im_opening.specs.declared.errors.OpenError.TheVariants.{DiskFault, Damaged, Memory}

-- others behind, of which the same is found
pub find-same : {F : Type 0} → (a b c : List (Check F)) → first_fail b ≡ first_fail c → first_fail (a ++ b) ≡ first_fail (a ++ c)
find-same a b c e = fail_both a b ∙ ap (λ r. then_check (first_fail a) r) e ∙ sym (fail_both a c)

-- what stands behind a check that doesn't hold isn't looked at
pub find-stop : {F : Type 0} → (a : List (Check F)) (c : Check F) (b : List (Check F)) → c.0 ≡ false → first_fail (a ++ (c ∷ b)) ≡ first_fail (a ++ (c ∷ []))
find-stop a c b e =
    find-same a (c ∷ b) (c ∷ [])
    (ap (λ t. if t then first_fail b else Err c.1) e ∙ sym (ap (λ t. if t then Ok tt else Err c.1) e))

-- what holds where a disk tells, and what was told
pub at-told : (P : Told → Type 0) (o : Option Told) (t : Told) → IfSome o P → o ≡ Some t → P t
at-told P o t h is = subst (λ (x : Option Told). IfSome x P) is h

pub at-some : {T : Type 0} (P : T → Type 0) (o : Option T) (x : T) → IfSome o P → o ≡ Some x → P x
at-some {T} P o x h is = subst (λ (y : Option T). IfSome y P) is h

pub if-told : (P : Told → Type 0) (o : Option Told) → ((t : Told) → o ≡ Some t → P t) → IfSome o P
if-told P None f = tt
if-told P (Some t) f = f t refl

-- an error that is passed on
pub judge-err : {T : Type 0} (checks : List (Check Damage)) (r : Result T OpenError) (x : OpenError) → IsErrAnd r (λ e. e ≡ x) → Tells checks x → Judges checks r
judge-err checks (Ok y) x h tells = absurd h
judge-err checks (Err e) x h tells = record { is = subst (Tells checks) (sym h) tells }

pub tell-err : {T : Type 0} (checks : List (Check Damage)) (r : Result T OpenError) (x : OpenError) → IsErrAnd r (λ e. e ≡ x) → Tells checks x → IfErr r (Tells checks)
tell-err checks (Ok y) x h tells = absurd h
tell-err checks (Err e) x h tells = subst (Tells checks) (sym h) tells

-- a call that is answered leaves the count of faults
pub ok-leaves : {T : Type 0} (before now : ℕ) (x : T) → HasOpenCause before now (Ok x) → now ≡ before
ok-leaves before now x h = h.others (λ e. absurd (cc))

-- what an error tells of the first checks, it tells of all
pub tells-first : (a b : List (Check Damage)) (e : OpenError) → Tells a e → Tells (a ++ b) e
tells-first a b DiskFault h = tt
tells-first a b (Damaged d) h = fail_first a b d h
tells-first a b Memory h = tt

-- and so with what it tells of the others, where the first hold
pub tells-behind : (a b : List (Check Damage)) (e : OpenError) → first_fail a ≡ Ok tt → Tells b e → Tells (a ++ b) e
tells-behind a b DiskFault fine h = tt
tells-behind a b (Damaged d) fine h = fail_append a b fine ∙ h
tells-behind a b Memory fine h = tt

-- an error of the disk tells nothing of checks
pub disk-unsaid : (checks : List (Check Damage)) (e : DiskError) → Tells checks (of_disk e)
disk-unsaid checks Disk.Failed = tt
disk-unsaid checks Disk.Memory = tt

pub disk-err : {T : Type 0} (checks : List (Check Damage)) (r : Result T OpenError) (e : DiskError) → IsErrAnd r (λ x. x ≡ of_disk e) → IfErr r (Tells checks)
disk-err checks (Ok y) e h = tt
disk-err checks (Err x) e h = subst (Tells checks) (sym h) (disk-unsaid checks e)

-- an error is one whatever the answer would have been
err-of : {T U E : Type 0} (e d : E) → IsErrOf {T = U} (Err e) d → IsErrOf {T = T} (Err e) d
err-of {T} {U} {E} e d f =
    let same : e ≡ d = cc in
    let F : E → Result T E = λ z. Err z in
    ap F same

-- the count of faults, by an error that is passed on, by one that isn't the disk's, by want of memory, and by no error
pub cause-err : {T U : Type 0} (before now : ℕ) (x : OpenError) (r : Result U OpenError) → HasOpenCause {T = T} before now (Err x) → IsErrAnd r (λ e. e ≡ x) → HasOpenCause before now r
cause-err {T} {U} before now x (Ok y) h is = absurd is
cause-err {T} {U} before now x (Err e) h is =
    let g : HasOpenCause {T = T} before now (Err e) = subst (λ (z : OpenError). HasOpenCause {T = T} before now (Err z)) (sym is) h in
    record {
      later = g.later;
      fault = λ f. g.fault (err-of {T = T} {U = U} e DiskFault f);
      others = λ other. g.others (λ f. other (err-of {T = U} {U = T} e DiskFault f));
    }

pub cause-other : {U : Type 0} (before now : ℕ) (x : OpenError) → now ≡ before → (x ≡ DiskFault → ⊥) → HasOpenCause {T = U} before now (Err x)
cause-other before now x same other = record {
  later = omega (arith, same);
  fault = λ f. (let e : x ≡ DiskFault = cc in absurd (other e));
  others = λ _. same;
}

pub cause-memory : {U : Type 0} (before now : ℕ) (r : Result U OpenError) → now ≡ before → IsErrAnd r (λ e. e ≡ Memory) → HasOpenCause before now r
cause-memory before now r same is =
    let no : Memory ≡ DiskFault → ⊥ = λ e. absurd (cc (e)) in
    cause-err before now Memory r (cause-other {U = Unit {0}} before now Memory same no) is

pub cause-ok : {U : Type 0} (before now : ℕ) (y : U) → now ≡ before → HasOpenCause before now (Ok y)
cause-ok before now y same = record { later = omega (arith, same); fault = λ f. absurd (cc (f)); others = λ _. same }

-- by an error of the disk, behind calls that were answered
pub cause-disk : {T U : Type 0} (before mid now : ℕ) (x : DiskError) → mid ≡ before → HasCause {T = T} mid now (Err x) → HasOpenCause {T = U} before now (Err (of_disk x))
cause-disk before mid now Disk.Failed same h = record {
  later = omega (arith, same, h.later);
  fault = λ f. subst (λ (n : ℕ). Rose n now) same (h.failed refl);
  others = λ other. absurd (other refl);
}
cause-disk before mid now Disk.Memory same h = record {
  later = omega (arith, same, h.later);
  fault = λ f. absurd (cc (f));
  others = λ other. h.memory refl ∙ same;
}

-- and of the disk's own answers
pub disk-cause-err : {T U : Type 0} (before mid now : ℕ) (x : DiskError) (r : Result U DiskError) → mid ≡ before → HasCause {T = T} mid now (Err x) → IsErrAnd r (λ e. e ≡ x)
    → HasCause before now r
disk-cause-err {T} {U} before mid now x (Ok y) same h is = absurd is
disk-cause-err {T} {U} before mid now x (Err e) same h is =
    let g : HasCause {T = T} before now (Err e) =
    subst (λ (z : DiskError). HasCause {T = T} before now (Err z)) (sym is) (subst (λ (n : ℕ). HasCause {T = T} n now (Err x)) same h) in
    record {
      later = g.later;
      failed = λ f. g.failed (err-of {T = T} {U = U} e Disk.Failed f);
      ok = tt;
      memory = λ f. g.memory (err-of {T = T} {U = U} e Disk.Memory f);
    }

pub disk-cause-ok : {U : Type 0} (before now : ℕ) (y : U) → now ≡ before → HasCause before now (Ok y)
disk-cause-ok before now y same = record { later = omega (arith, same); failed = λ f. absurd (cc (f)); ok = same; memory = λ f. absurd (cc (f)) }
