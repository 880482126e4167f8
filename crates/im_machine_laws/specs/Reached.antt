-- Machines that runs lead to.
use Rattle.std.specs.Prelude.{List, All}
use Rattle.im_digest.specs.Digests.{Hash}
use Rattle.im_machine.specs.Machines.{start, Machine}
use Rattle.im_machine.specs.Runs.{Run}
use Rattle.im_machine.specs.declared.events.Event.{Event}
use Rattle.im_machine.specs.declared.outputs.Output.{Output}
use Rattle.im_machine_laws.specs.Events.{IsEvent}

-- some list of events leads from the start to this machine
pub record IsReached (hash : Hash) (m : Machine) : Type 0 where
  pub events : List Event
  pub outputs : List Output
  pub each : All IsEvent events
  pub run : Run hash start events outputs m
