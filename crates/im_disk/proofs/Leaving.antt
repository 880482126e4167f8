-- How what a crash at any moment leaves goes on from call to call.
use Rattle.std.proofs.Common.{◌≡◌, inl, inr, ⊎_elim, refl, subst, sym}
use Rattle.std.specs.Prelude.{Option, Some, None, IfSome, Result, Ok, Err, OnOk, IsErrOf}
use Rattle.std.specs.Option.{option_map}
use Rattle.im_disk.specs.declared.calls.Call.{Call}
use Rattle.im_disk.specs.declared.disk.DiskError.{DiskError}
use Rattle.im_disk.specs.declared.disk.DiskError.TheVariants.{Failed, Memory}
use Rattle.im_disk.specs.Disk.{Files, Told, after}
use Rattle.im_disk.specs.Moments.{Adds, LeavesNow, LeavesOnly, Leaves}

-- no call leaves nothing new
pub leaves_nothing : (P : Files → Type 0) (now : Option Told) → LeavesOnly P now now
leaves_nothing P None = tt
leaves_nothing P (Some t) = record { was = t; is = refl; each = λ since image left. inl left }

-- one call more, after which each image has P
pub leaves_more : (P : Files → Type 0) (before now : Option Told) (call : Call) → LeavesOnly P before now
    → LeavesNow P (option_map (after call) now) → LeavesOnly P before (option_map (after call) now)
leaves_more P before None call so_far here = tt
leaves_more P before (Some t) call so_far here = record {
  was = so_far.was;
  is = so_far.is;
  each = λ since image left. ⊎_elim (λ now. inr (here image now.1)) (so_far.each since image) left;
}

-- some calls, and then some more
pub leaves_only_both : (P : Files → Type 0) (a b c : Option Told) → LeavesOnly P a b → LeavesOnly P b c → LeavesOnly P a c
leaves_only_both P a b None x y = tt
leaves_only_both P a b (Some t) x y =
    let first = subst (λ o. IfSome o (Adds P a)) y.is x in
    record { was = first.was; is = first.is; each = λ since image left. ⊎_elim (first.each since image) inr (y.each since image left) }

pub leaves_both : (P : Files → Type 0) (a b c : Option Told) → Leaves P a b → Leaves P b c → Leaves P a c
leaves_both P a b c x y = (leaves_only_both P a b c x.0 y.0, y.1)

-- where P gives Q, what leaves P leaves Q
pub leaves_weaker : (P Q : Files → Type 0) → ((image : Files) → P image → Q image) → (a b : Option Told) → Leaves P a b → Leaves Q a b
leaves_weaker P Q f a None l = (tt, tt)
leaves_weaker P Q f a (Some t) l = (
  record { was = l.0.was; is = l.0.is; each = λ since image left. ⊎_elim inl (λ p. inr (f image p)) (l.0.each since image left) },
  λ image now. f image (l.1 image now),
)

-- what holds of what a disk tells, where it tells
pub if_told : (P Q : Told → Type 0) → ((t : Told) → P t → Q t) → (o : Option Told) → IfSome o P → IfSome o Q
if_told P Q step None h = tt
if_told P Q step (Some t) h = step t h

-- two things that hold of it
pub if_told_both : (P Q R : Told → Type 0) → ((t : Told) → P t → Q t → R t) → (o : Option Told) → IfSome o P → IfSome o Q → IfSome o R
if_told_both P Q R step None p q = tt
if_told_both P Q R step (Some t) p q = step t p q

-- what holds after a changing call, by its three answers
pub by_answer : {T : Type 0} (Q : Option Told → Type 0) (good bad : Call) (before now : Option Told) (result : Result T DiskError)
    → OnOk result (now ≡ option_map (after good) before) → (IsErrOf result Failed → now ≡ option_map (after bad) before) → (IsErrOf result Memory → now ≡ before)
    → Q (option_map (after good) before) → Q (option_map (after bad) before) → Q before → Q now
by_answer Q good bad before now (Ok x) ok failed memory a b c = subst Q (sym ok) a
by_answer Q good bad before now (Err Failed) ok failed memory a b c = subst Q (sym (failed refl)) b
by_answer Q good bad before now (Err Memory) ok failed memory a b c = subst Q (sym (memory refl)) c

-- what holds after the call itself, where it succeeds
pub on_ok_after : {T : Type 0} (Q : Option Told → Type 0) (now expected : Option Told) (result : Result T DiskError) → OnOk result (now ≡ expected) → Q expected → OnOk result (Q now)
on_ok_after Q now expected (Ok x) ok h = subst Q (sym ok) h
on_ok_after Q now expected (Err e) ok h = tt

-- a changing call leaves only what has P, where each image has P before, after it and after its failure
pub leaves_by_answer : {T : Type 0} (P : Files → Type 0) (good bad : Call) (before now : Option Told) (result : Result T DiskError)
    → OnOk result (now ≡ option_map (after good) before) → (IsErrOf result Failed → now ≡ option_map (after bad) before) → (IsErrOf result Memory → now ≡ before)
    → LeavesNow P before → LeavesNow P (option_map (after good) before) → LeavesNow P (option_map (after bad) before)
    → Leaves P before now
leaves_by_answer P good bad before now result ok failed memory here then_good then_bad =
    by_answer (λ m. Leaves P before m) good bad before now result ok failed memory
    (leaves_more P before before good (leaves_nothing P before) then_good, then_good)
    (leaves_more P before before bad (leaves_nothing P before) then_bad, then_bad)
    (leaves_nothing P before, here)
