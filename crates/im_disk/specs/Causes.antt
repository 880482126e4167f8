-- What a call of a disk does to the count of its failures.
use Rattle.std.specs.Prelude.{◌≡◌, ℕ, ◌≤◌, Result, OnOk, IsErrOf}
use Rattle.im_counts.specs.Counts.{Rose}
use Rattle.im_disk.specs.declared.disk.DiskError.{DiskError}
use Rattle.im_disk.specs.declared.disk.DiskError.TheVariants.{Failed, Memory}

-- the count doesn't fall, `Failed` comes only where it rose, and every other answer leaves it as it was
pub record HasCause {T : Type 0} (before now : ℕ) (result : Result T DiskError) : Type 0 where
  pub later : before ≤ now
  pub failed : IsErrOf result Failed → Rose before now
  pub ok : OnOk result (now ≡ before)
  pub memory : IsErrOf result Memory → now ≡ before
