-- What opening a disk does: said once, for each call that opens one.
use Rattle.std.specs.Prelude.{◌≡◌, ℕ, List, length, Option, Some, Err, IfSome, Result, IfOk, IfErr}
use Rattle.std.specs.Option.{option_map}
use Rattle.im_digest.specs.Digests.{Hash}
use Rattle.im_disk.specs.Disk.{Told, after, seen}
use Rattle.im_disk.specs.Grown.{Grows}
use Rattle.im_disk.specs.Moments.{Leaves}
use Rattle.im_disk.specs.declared.calls.Call.TheVariants.{Synced}
use Rattle.im_counts.specs.Counts.{Rose}
use Rattle.im_format.specs.Batches.{gate_of}
use Rattle.im_format.specs.Damages.{image_checks}
use Rattle.im_format.specs.Standing.{Stands}
use Rattle.im_format.specs.declared.damages.Damage.{Damage}
use Rattle.im_model.specs.declared.transactions.Transaction.{Transaction}
use Rattle.im_mtree.specs.Checks.{first_fail}
use Rattle.im_opening.specs.Answers.{HasOpenCause, Judges}
use Rattle.im_opening.specs.Cut.{IsHeldThroughout, IsOpenedBy, SyncsAtMost, WasBegun, WasLeft, WasOpened, opened_by}
use Rattle.im_opening.specs.Opening.{IsGivenBy}
use Rattle.im_opening.specs.Parts.{batches_in}
use Rattle.im_opening.specs.declared.errors.OpenError.{OpenError}
use Rattle.im_opening.specs.declared.errors.OpenError.TheVariants.{DiskFault, Damaged}
use Rattle.im_opening.specs.declared.reading.Opened.{Opened}

-- The files of a disk are opened, which told this before and tells that now: reading gave what was opened, the calls
-- are a sync and the repair of the gate that the reason asks for, each image then has the batches that were read and a
-- closed gate behind them, and at every moment behind the sync each image stands for the history.
pub record AreOpened (hash : Hash) (was now : Option Told) (opened : Opened) : Type 0 where
  pub given : IsGivenBy hash was opened
  pub calls : now ≡ option_map (opened_by opened) was
  pub kept : (t : Told) → was ≡ Some t → IfSome now (IsHeldThroughout (batches_in (seen t)) opened.ends)
  pub moments : (t : Told) (history : List Transaction) → was ≡ Some t → Stands hash (seen t) history
      → Leaves (λ image. Stands hash image history) (Some (after Synced t)) now

-- what opening the files of a disk answers, by what the disk tells and counts before and then
pub record AreFilesOpened (hash : Hash) {D : Type 0} (told : D → Option Told) (faults : D → ℕ) (before now : D) (answer : Result Opened OpenError) : Type 0 where
  pub opened : IfOk answer (AreOpened hash (told before) (told now))
  pub first : (t : Told) → told before ≡ Some t → Judges (image_checks hash (seen t)) answer
  pub moments : (t : Told) (history : List Transaction) → told before ≡ Some t → Stands hash (seen t) history → WasOpened hash history t (told now)
  pub left : (t : Told) → told before ≡ Some t → IfErr answer (λ error. WasLeft hash error t (told now))
  pub grows : Grows (told before) (told now)
  pub cause : HasOpenCause (faults before) (faults now) answer

-- A disk is opened, with this gate behind the batches that count, and this history. Its image stands for the history, and
-- for no other. It got a sync, and a closed gate where none stood; at every moment behind the sync each image stands for
-- the history. None of its calls failed.
pub record Opens {D : Type 0} (told : D → Option Told) (faults : D → ℕ) (hash : Hash) (before now : D) (gate : ℕ) (history : List Transaction) : Type 0 where
  pub stands : (t : Told) → told before ≡ Some t → Stands hash (seen t) history
  pub one : (t : Told) (other : List Transaction) → told before ≡ Some t → Stands hash (seen t) other → history ≡ other
  pub moments : (t : Told) → told before ≡ Some t → Leaves (λ image. Stands hash image history) (Some (after Synced t)) (told now)
  pub calls : (t : Told) → told before ≡ Some t → IsOpenedBy gate t (told now)
  pub gate_is : (t : Told) (other : List Transaction) → told before ≡ Some t → (stands : Stands hash (seen t) other) → gate ≡ gate_of (length stands.batches)
  pub grows : Grows (told before) (told now)
  pub same : faults now ≡ faults before

-- A disk isn't opened, by this error. Where its image stands for a history, no damage is told, and no moment harms it;
-- where it stands for none, the disk is synced at most. Damage is the first in reading order, and nothing was written then.
-- A fault comes only where the disk counted one more, and every other error leaves its count.
pub record FailsToOpen {D : Type 0} (told : D → Option Told) (faults : D → ℕ) (hash : Hash) (before now : D) (error : OpenError) : Type 0 where
  pub off : (t : Told) (history : List Transaction) → told before ≡ Some t → Stands hash (seen t) history → WasOpened hash history t (told now)
  pub begun : (t : Told) (history : List Transaction) → told before ≡ Some t → (stands : Stands hash (seen t) history)
      → WasBegun error (gate_of (length stands.batches)) t (told now)
  pub sound : (t : Told) (history : List Transaction) (damage : Damage) → told before ≡ Some t → Stands hash (seen t) history → error ≡ Damaged damage → ⊥
  pub damaged : (t : Told) (damage : Damage) → told before ≡ Some t → error ≡ Damaged damage
      → (first_fail (image_checks hash (seen t)) ≡ Err damage) × (told now ≡ Some (after Synced t))
  pub unharmed : (t : Told) → told before ≡ Some t → ((history : List Transaction) → Stands hash (seen t) history → ⊥) → SyncsAtMost t (told now)
  pub grows : Grows (told before) (told now)
  pub device : error ≡ DiskFault → Rose (faults before) (faults now)
  pub others : (error ≡ DiskFault → ⊥) → faults now ≡ faults before
