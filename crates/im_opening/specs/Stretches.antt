-- How far batches are read, what all that count are read as, and what reading files gives.
use Rattle.std.specs.Prelude.{◌≡◌, ◌≤◌, ◌+◌, ◌*◌, ℕ, List, ◌++◌, length, Option, Some, Result, IfOk}
use Rattle.im_clog.specs.Marks.{IsUncounted}
use Rattle.im_clog.specs.declared.marks.Uncounted.{Uncounted}
use Rattle.im_digest.specs.Digests.{Hash}
use Rattle.im_disk.specs.Disk.{Files, Told, seen}
use Rattle.im_format.specs.Batches.{joined}
use Rattle.im_format.specs.Damages.{Reached, batches_checks, image_checks}
use Rattle.im_format.specs.declared.records.Record.{Record}
use Rattle.im_mtree.specs.Checks.{first_fail}
use Rattle.im_opening.specs.Answers.{HasOpenCause, Judges}
use Rattle.im_opening.specs.Opening.{AreBatches, AreGrouped, IsGivenBy, ends_behind}
use Rattle.im_opening.specs.Parts.{batches_from, batches_in, place_from, counted_end}
use Rattle.im_opening.specs.Reach.{Fits, IsWholeProgress, reached_of}
use Rattle.im_opening.specs.declared.errors.OpenError.{OpenError}
use Rattle.im_opening.specs.declared.reading.Opened.{Opened}
use Rattle.im_opening.specs.declared.stretches.Reading.{Reading}
use Rattle.im_opening.specs.declared.stretches.BatchesRead.{BatchesRead}

-- it gives 32 octets
pub record IsLong (hash : Hash) : Type 0 where
  pub size : (octets : List ℕ) → length (hash octets) ≡ 32

-- what is read of the batches, and what is left, make all
pub record BatchesLeft (hash : Hash) (image : Files) (gate batches : ℕ) (records : List Record) (r : Reached) : Type 0 where
  pub most : ℕ
  pub enough : length (image 1) ≤ gate + most
  pub records_are : records ++ joined (batches_from image most gate r.place) ≡ joined (batches_in image)
  pub batches_are : batches + length (batches_from image most gate r.place) ≡ length (batches_in image)
  pub place_is : place_from image most gate r.place ≡ counted_end image
  pub finds : first_fail (batches_checks hash image most gate r) ≡ first_fail (image_checks hash image)

-- so many batches of these logs were read, up to a gate: their records are those of a history
pub record IsReadTo (hash : Hash) (commits log : List ℕ) (r : Reading) : Type 0 where
  pub gate_is : r.gate ≡ 25 * r.batches
  pub within : r.gate ≤ length commits
  pub few : r.batches ≤ length r.progress.alhs.items
  pub begun : r.batches ≡ 0 → length r.progress.alhs.items ≡ 0
  pub place : r.progress.place ≤ length log
  pub fits : Fits hash r.progress
  pub whole : IsWholeProgress hash r.progress

-- what a disk that tells of itself has of batches is what was read and what is left
pub record IsLeft (hash : Hash) (told : Option Told) (r : Reading) : Type 0 where
  pub is : (t : Told) → told ≡ Some t → BatchesLeft hash (seen t) r.gate r.batches r.progress.records.items (reached_of r.progress)

-- all batches of these logs that count were read, and none counts behind them
pub record AreAllRead (hash : Hash) (told : Option Told) (commits log : List ℕ) (r : BatchesRead) : Type 0 where
  pub fits : Fits hash r.progress
  pub whole : IsWholeProgress hash r.progress
  pub grouped : AreGrouped r.progress.records.items r.batches
  pub gate : r.gate ≡ 25 * r.batches
  pub few : r.batches ≤ 1048576
  pub reaches : r.gate ≤ length commits
  pub within : r.progress.place ≤ length log
  pub behind : IsUncounted commits r.gate r.behind
  pub read : (t : Told) → told ≡ Some t → AreBatches (seen t) r.progress.records.items r.batches r.progress.place

-- all that was read, where none counts behind it
abbrev pub all_of : Reading → Uncounted → BatchesRead
all_of r behind = record { progress = r.progress; gate = r.gate; batches = r.batches; behind = behind }

-- the files, as they are read by all batches that count
abbrev pub opened_as : BatchesRead → Opened
opened_as read = record {
  found = record { records = read.progress.records; headers = read.progress.headers; alhs = read.progress.alhs; tree = read.progress.tree };
  batches = read.batches;
  ends = ends_behind read.progress.records.items read.batches;
  behind = read.behind;
}

-- what reading the files of a disk answers, by what the disk tells and counts before and then
pub record IsReading (hash : Hash) {D : Type 0} (told : D → Option Told) (faults : D → ℕ) (was now : D) (answer : Result Opened OpenError) : Type 0 where
  pub given : IfOk answer (IsGivenBy hash (told was))
  pub first : (t : Told) → told was ≡ Some t → Judges (image_checks hash (seen t)) answer
  pub told_is : told now ≡ told was
  pub cause : HasOpenCause (faults was) (faults now) answer
