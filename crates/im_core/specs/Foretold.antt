-- A call of a disk in memory that is told whether it fails.
use Rattle.std.specs.Prelude.{◌≡◌, Bool, true, false, Result, IsOk, IsErrOf}
use Rattle.im_disk.specs.Recorded.{told_by, Recorded}
use Rattle.im_journal.specs.Kept.{Kept}
use Rattle.im_journal.specs.declared.errors.JournalError.{JournalError}
use Rattle.im_journal.specs.declared.errors.JournalError.TheVariants.{DiskFault}
use Rattle.im_machine.specs.declared.outputs.Output.{Output}
use Rattle.im_machine.specs.declared.outputs.Output.TheVariants as says

-- two journals differ at most in which calls of their disks are to fail
pub record IsTheSame (before now : Kept Recorded) : Type 0 where
  pub disk : told_by now.disk ≡ told_by before.disk
  pub parts : now ≡ record { disk = now.disk; ends = before.ends; durable = before.durable; batch = before.batch; failures = before.failures }

-- what a call of the disk is answered, where it was to fail or not, and what is told of it
abbrev pub IsForetold : Bool → Result (Unit {0}) JournalError → Output → Type 0
IsForetold true answer output = IsErrOf answer DiskFault × (output ≡ says.Failed)
IsForetold false answer output = IsOk answer × (output ≡ says.Done)
