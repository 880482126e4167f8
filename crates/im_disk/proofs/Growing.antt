-- How what a disk tells of its calls grows.
use Rattle.std.proofs.Common.{◌≡◌, List, [], ◌∷◌, ◌++◌, refl, ap, sym, ◌∙◌}
use Rattle.std.specs.Prelude.{Option, Some, None, Result, OnOk, IsErrOf}
use Rattle.std.specs.Option.{option_map}
use Rattle.im_disk.specs.declared.calls.Call.{Call}
use Rattle.im_disk.specs.declared.disk.DiskError.{DiskError}
use Rattle.im_disk.specs.declared.disk.DiskError.TheVariants.{Failed, Memory}
use Rattle.im_disk.specs.Disk.{Told, after}
use Rattle.im_disk.specs.Grown.{Grows, after_all}
use Rattle.im_disk.proofs.Leaving.{by_answer}

-- some calls, and then others
pub after_both : (a b : List Call) (t : Told) → after_all (a ++ b) t ≡ after_all b (after_all a t)
after_both [] b t = refl
after_both (call ∷ a) b t = after_both a b (after call t)

pub told_both : (a b : List Call) (o : Option Told) → option_map (after_all b) (option_map (after_all a) o) ≡ option_map (after_all (a ++ b)) o
told_both a b None = refl
told_both a b (Some t) = ap (λ (x : Told). Some x) (sym (after_both a b t))

-- none
pub told_none : (o : Option Told) → o ≡ option_map (after_all []) o
told_none None = refl
told_none (Some t) = refl

-- one
pub told_one : (call : Call) (o : Option Told) → option_map (after call) o ≡ option_map (after_all (call ∷ [])) o
told_one call None = refl
told_one call (Some t) = refl

-- no call was made
pub grows_none : (x : Option Told) → Grows x x
grows_none x = ([], told_none x)

-- the same is told
pub grows_same : (before now : Option Told) → now ≡ before → Grows before now
grows_same before now same = ([], same ∙ told_none before)

-- some calls were made, and then others
pub grows_both : (a b c : Option Told) → Grows a b → Grows b c → Grows a c
grows_both a b c first then = (first.0 ++ then.0, then.1 ∙ ap (λ (o : Option Told). option_map (after_all then.0) o) first.1 ∙ told_both first.0 then.0 a)

-- one call was made
pub grows_one : (call : Call) (before now : Option Told) → now ≡ option_map (after call) before → Grows before now
grows_one call before now is = (call ∷ [], is ∙ told_one call before)

-- a changing call was made, whatever it answered
pub grows_by_answer : {T : Type 0} (good bad : Call) (before now : Option Told) (result : Result T DiskError)
    → OnOk result (now ≡ option_map (after good) before) → (IsErrOf result Failed → now ≡ option_map (after bad) before)
    → (IsErrOf result Memory → now ≡ before) → Grows before now
grows_by_answer good bad before now result ok failed memory =
    by_answer (λ o. Grows before o) good bad before now result ok failed memory
    (grows_one good before (option_map (after good) before) refl)
    (grows_one bad before (option_map (after bad) before) refl)
    (grows_none before)
