-- What a call of a keeper does to the count of its failures.
use Rattle.std.specs.Prelude.{◌≡◌, ℕ, ◌≤◌, ◌+◌, Result, OnOk, IsErrOf}
use Rattle.im_counts.specs.Counts.{Rose}
use Rattle.im_edge.specs.declared.keeper.KeeperError.{KeeperError}
use Rattle.im_edge.specs.declared.keeper.KeeperError.TheVariants.{Failed, Memory}

-- the count doesn't fall, `Failed` comes only where it rose, by one then, and every other answer leaves it as it was
pub record KeepCause {T : Type 0} (before now : ℕ) (result : Result T KeeperError) : Type 0 where
  pub later : before ≤ now
  pub failed : IsErrOf result Failed → Rose before now
  pub once : now ≤ before + 1
  pub ok : OnOk result (now ≡ before)
  pub memory : IsErrOf result Memory → now ≡ before
