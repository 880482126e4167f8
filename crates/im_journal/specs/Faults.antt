-- What a call of the journal does to the count of failures.
use Rattle.std.specs.Prelude.{◌≡◌, ◌≤◌, ◌+◌, ◌-◌, ◌^◌, ℕ, min, Result, IsErrOf}
use Rattle.im_counts.specs.Counts.{Rose}
use Rattle.im_journal.specs.declared.errors.JournalError.{JournalError}
use Rattle.im_journal.specs.declared.errors.JournalError.TheVariants.{DiskFault}
use Rattle.im_vlog.specs.declared.showing.ValueError.{ValueError}
use Rattle.im_vlog.specs.declared.showing.ValueError.TheVariants as Read

-- The disk's count doesn't fall. `DiskFault` comes only where it rose, and is one failure more, until their number stands at its
-- end; every other answer leaves both counts as they were
pub record IsCounted {T : Type 0} (before now failures_before failures_now : ℕ) (result : Result T JournalError) : Type 0 where
  pub later : before ≤ now
  pub rose : IsErrOf result DiskFault → Rose before now
  pub more : IsErrOf result DiskFault → failures_now ≡ min (failures_before + 1) (2 ^ 64 - 1)
  pub faults : (IsErrOf result DiskFault → ⊥) → now ≡ before
  pub failures : (IsErrOf result DiskFault → ⊥) → failures_now ≡ failures_before

-- the same of a read's answers
pub record IsReadCounted {T : Type 0} (before now failures_before failures_now : ℕ) (result : Result T ValueError) : Type 0 where
  pub later : before ≤ now
  pub rose : IsErrOf result Read.DiskFault → Rose before now
  pub more : IsErrOf result Read.DiskFault → failures_now ≡ min (failures_before + 1) (2 ^ 64 - 1)
  pub faults : (IsErrOf result Read.DiskFault → ⊥) → now ≡ before
  pub failures : (IsErrOf result Read.DiskFault → ⊥) → failures_now ≡ failures_before
