-- What a disk in memory tells after a changing call.
use Rattle.std.proofs.Common.{◌≡◌, ℕ, ◌+◌, List, ◌∷◌, ◌++◌, [], length, refl, ap, ◌∙◌, eq-eqb}
use Rattle.std.proofs.lemmas.List.{reverse-append}
use Rattle.std.proofs.lemmas.List.Folds.{list_any-append}
use Rattle.std.specs.List.{list_any}
use Rattle.std.specs.Prelude.{◌==◌, ◌||◌, Bool, true, false, Some, Result, Ok, Err, OnOk, IsErrOf}
use Rattle.im_disk.specs.declared.calls.Call.{Call}
use Rattle.im_disk.specs.declared.disk.DiskError.{DiskError}
use Rattle.im_disk.specs.declared.disk.DiskError.TheVariants.{Failed, Memory}
use Rattle.im_disk.specs.Disk.{Told, after}
use Rattle.im_disk.specs.Records.{files_of}
use Rattle.im_disk.specs.Recorded.{Recorded, Changes, failing_next, fails_next, told_by, with_call}

tells_more : (call : Call) (d : Recorded) → Some (told_by (with_call call d)) ≡ Some (after call (told_by d))
tells_more call d =
    ap (λ (calls : List Call). let told : Told = record { first = files_of d.first; calls = calls } in Some told)
    (reverse-append d.calls (call ∷ []))

pub tells_ok : {T : Type 0} (good bad : Call) (before now : Recorded) (result : Result T DiskError) → Changes good bad before now result
    → OnOk result (Some (told_by now) ≡ Some (after good (told_by before)))
tells_ok good bad before now (Ok x) c = ap (λ (d : Recorded). Some (told_by d)) c.ok.1 ∙ tells_more good before
tells_ok good bad before now (Err e) c = tt

pub tells_failed : {T : Type 0} (good bad : Call) (before now : Recorded) (result : Result T DiskError) → Changes good bad before now result
    → IsErrOf result Failed → Some (told_by now) ≡ Some (after bad (told_by before))
tells_failed good bad before now result c is =
    ap (λ (d : Recorded). Some (told_by d)) (c.failed is).1 ∙ tells_more bad before

pub tells_memory : {T : Type 0} (good bad : Call) (before now : Recorded) (result : Result T DiskError) → Changes good bad before now result
    → IsErrOf result Memory → Some (told_by now) ≡ Some (told_by before)
tells_memory good bad before now result c is = ap (λ (d : Recorded). Some (told_by d)) (c.memory is)

or_true : (b : Bool) → (b || true) ≡ true
or_true true = refl
or_true false = refl

-- a number that is added to others is among them
added : (numbers : List ℕ) (number : ℕ) → list_any (λ n. n == number) (numbers ++ number ∷ []) ≡ true
added numbers number =
    let is : ℕ → Bool = λ n. n == number in
    list_any-append is numbers (number ∷ []) ∙ ap (λ (b : Bool). list_any is numbers || (b || false)) (eq-eqb number number refl) ∙ or_true (list_any is numbers)

pub fails_then : (d : Recorded) → fails_next (failing_next d) ≡ true
fails_then d = added d.failing (length d.calls + 1)
