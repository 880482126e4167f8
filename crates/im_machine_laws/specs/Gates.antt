-- Batches whose gate is closed.
use Rattle.std.specs.Prelude.{◌≤◌, ◌+◌, length, Option, Some, None}
use Rattle.im_machine.specs.Machines.{writes_due, Machine, Progress}

-- no batch is in progress, or its gate isn't written: its writes and the sync behind them are done at most
abbrev pub IsUngated : Machine → Option Progress → Type 0
IsUngated m None = Unit {0}
IsUngated m (Some p) = p.done ≤ length (writes_due m p) + 1
