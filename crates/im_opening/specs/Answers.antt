-- What an error of opening tells.
use Rattle.std.specs.Prelude.{◌≡◌, ◌≤◌, ℕ, List, Result, Ok, Err, MatchResult, IsErrOf}
use Rattle.im_disk.specs.declared.disk.DiskError.{DiskError}
use Rattle.im_disk.specs.declared.disk.DiskError.TheVariants as Disk
use Rattle.im_counts.specs.Counts.{Rose}
use Rattle.im_format.specs.declared.damages.Damage.{Damage}
use Rattle.im_mtree.specs.Checks.{Check, first_fail}
use Rattle.im_record.specs.declared.errors.SlotError.{SlotError}
use Rattle.im_record.specs.declared.errors.SlotError.TheVariants as Read
use Rattle.im_opening.specs.declared.errors.OpenError.{OpenError}
use Rattle.im_opening.specs.declared.errors.OpenError.TheVariants.{DiskFault, Damaged, Memory}

-- the error that a disk's error is
abbrev pub of_disk : DiskError → OpenError
of_disk Disk.Failed = DiskFault
of_disk Disk.Memory = Memory

-- the error that an error of reading a record is
abbrev pub of_record : SlotError → OpenError
of_record (Read.Damaged damage) = Damaged damage
of_record Read.Memory = Memory

-- what an error tells of checks: the damage is the first that fails; a fault of the disk or want of memory tells
-- nothing of them
abbrev pub Tells : List (Check Damage) → OpenError → Type 0
Tells checks DiskFault = Unit {0}
Tells checks (Damaged damage) = first_fail checks ≡ Err damage
Tells checks Memory = Unit {0}

-- the answer of reading is by these checks: Ok comes only where all hold, and damage is the first that fails
pub record Judges {T : Type 0} (checks : List (Check Damage)) (result : Result T OpenError) : Type 0 where
  pub is : MatchResult result (λ read. first_fail checks ≡ Ok tt) (Tells checks)

-- the disk's count of faults doesn't fall, a fault comes only where it rose, and every other answer leaves it
pub record HasOpenCause {T : Type 0} (before now : ℕ) (result : Result T OpenError) : Type 0 where
  pub later : before ≤ now
  pub fault : IsErrOf result DiskFault → Rose before now
  pub others : (IsErrOf result DiskFault → ⊥) → now ≡ before
