-- What opening leaves at every moment.
use Rattle.std.proofs.Common.{◌≡◌, ℕ, List, [], ◌∷◌, refl, sym, ◌∙◌, ap, subst, inl, inr, Option, Some, Result, Ok, Err}
use Rattle.std.specs.Prelude.{IfErr, IsErrOf}
use Rattle.std.specs.Option.{option_map}
use Rattle.im_digest.specs.Digests.{Hash}
use Rattle.im_disk.specs.Disk.{Files, Told, Images, after, seen}
use Rattle.im_disk.specs.Moments.{Leaves}
use Rattle.im_disk.specs.declared.calls.Call.TheVariants.{Wrote, Tore, Synced, Missed}
use Rattle.im_disk.specs.declared.disk.DiskError.{DiskError}
use Rattle.im_disk.specs.declared.disk.DiskError.TheVariants.{Failed, Memory}
use Rattle.im_disk.proofs.Leaving.{leaves_nothing}
use Rattle.im_format.specs.Reading.{history_in}
use Rattle.im_format.specs.Standing.{Stands}
use Rattle.im_model.specs.declared.transactions.Transaction.{Transaction}
use Rattle.im_opening.specs.Answers.{of_disk}
use Rattle.im_opening.specs.Cut.{IsHalfShut, StopsAtGate, WasLeft, WasOpened}
use Rattle.im_opening.specs.declared.errors.OpenError.{OpenError}
use Rattle.im_opening.specs.declared.errors.OpenError.TheVariants as opened
use Rattle.im_opening.proofs.GateLemmas.{stands-same}

-- what was told before a sync is told behind it
pub synced-told : (o n : Option Told) (t : Told) → n ≡ option_map (after Synced) o → o ≡ Some t → n ≡ Some (after Synced t)
synced-told o n t is at = is ∙ ap (λ (x : Option Told). option_map (after Synced) x) at

-- where the sync failed
pub failed-opened : (hash : Hash) (history : List Transaction) (t : Told) (o n : Option Told) (e : DiskError) → o ≡ Some t
    → (let r : Result (Unit {0}) DiskError = Err e in (IsErrOf r Failed → n ≡ option_map (after Missed) o) × (IsErrOf r Memory → n ≡ o))
    → WasOpened hash history t n
failed-opened hash history t o n Failed at h = inr (inl (h.0 refl ∙ ap (λ (x : Option Told). option_map (after Missed) x) at))
failed-opened hash history t o n Memory at h = inl (h.1 refl ∙ at)

pub failed-left : (hash : Hash) (t : Told) (o n : Option Told) (e : DiskError) → o ≡ Some t
    → (let r : Result (Unit {0}) DiskError = Err e in (IsErrOf r Failed → n ≡ option_map (after Missed) o) × (IsErrOf r Memory → n ≡ o))
    → WasLeft hash (of_disk e) t n
failed-left hash t o n Failed at h = inl (h.0 refl ∙ ap (λ (x : Option Told). option_map (after Missed) x) at)
failed-left hash t o n Memory at h = inl (h.1 refl ∙ at)

-- where the files weren't read
pub read-left : (hash : Hash) (error : OpenError) (t : Told) (n : Option Told) → n ≡ Some (after Synced t) → WasLeft hash error t n
read-left hash opened.DiskFault t n synced = inr (inl synced)
read-left hash opened.Memory t n synced = inr (inl synced)
read-left hash (opened.Damaged damage) t n synced = synced

-- where the gate wasn't repaired
pub stopped-left : (hash : Hash) (e : DiskError) (t : Told) (n : Option Told) → StopsAtGate hash e t n → WasLeft hash (of_disk e) t n
stopped-left hash Failed t n stopped = inr (inr stopped)
stopped-left hash Memory t n stopped = inr (inr stopped)

-- where the write that closes the gate failed
pub failed-write : (gate : ℕ) (t : Told) (o n : Option Told) (e : DiskError) → o ≡ Some t
    → (let r : Result (Unit {0}) DiskError = Err e in (IsErrOf r Failed → n ≡ option_map (after (Tore 1 gate 1)) o) × (IsErrOf r Memory → n ≡ o))
    → IsHalfShut e gate t n
failed-write gate t o n Failed at h = inl (h.0 refl ∙ ap (λ (x : Option Told). option_map (after (Tore 1 gate 1)) x) at)
failed-write gate t o n Memory at h = inl (h.1 refl ∙ at)

-- where the sync behind it failed
pub failed-sync : (gate : ℕ) (t : Told) (o n : Option Told) (r : Result (Unit {0}) DiskError) → o ≡ Some (after (Wrote 1 gate (0 ∷ [])) t)
    → (IsErrOf r Failed → n ≡ option_map (after Missed) o) → (IsErrOf r Memory → n ≡ o) → IfErr r (λ e. IsHalfShut e gate t n)
failed-sync gate t o n (Ok x) at failed memory = tt
failed-sync gate t o n (Err Failed) at failed memory = inr (failed refl ∙ ap (λ (x : Option Told). option_map (after Missed) x) at)
failed-sync gate t o n (Err Memory) at failed memory = inr (memory refl ∙ at)

-- where nothing was written behind the sync
pub rest-leaves : (hash : Hash) (history : List Transaction) (t : Told) (n : Option Told) → Stands hash (seen t) history → n ≡ Some (after Synced t)
    → Leaves (λ image. Stands hash image history) (Some (after Synced t)) n
rest-leaves hash history t n stands is =
    let P : Files → Type 0 = λ image. Stands hash image history in
    let Q : Option Told → Type 0 = λ o. Leaves P (Some (after Synced t)) o in
    let now : (image : Files) → Images (after Synced t) image → P image = λ image same. stands-same hash history (seen t) image same stands in
    subst Q (sym is) (leaves_nothing P (Some (after Synced t)), now)

-- behind the repair
pub repaired-leaves : (hash : Hash) (history : List Transaction) (t : Told) (o n : Option Told) → o ≡ Some (after Synced t) → history_in (seen t) ≡ history
    → Leaves (λ image. Stands hash image (history_in (seen t))) o n → Leaves (λ image. Stands hash image history) (Some (after Synced t)) n
repaired-leaves hash history t o n is same h =
    let A : Option Told → Type 0 = λ x. Leaves (λ image. Stands hash image (history_in (seen t))) x n in
    let B : List Transaction → Type 0 = λ l. Leaves (λ image. Stands hash image l) (Some (after Synced t)) n in
    subst B same (subst A is h)
