use Rattle.std.proofs.Common.{take}
use Rattle.im_core.specs.Cores.{IsCore}
use Rattle.im_machine.specs.Machines.{Machine}
use Rattle.im_machine.specs.Runs.{Run}
use Rattle.im_core.proofs.run.run_on.Given as goal

abbrev pub invariant-loop-event : goal.invariant-loop-event
invariant-loop-event g l =
    (m : Machine) → IsCore (g.H.Hash32.digest l.hash) l.fn.core m
    → (end : Machine) × Run (g.H.Hash32.digest l.hash) m (take l.event-index l.events) l.outputs.items end × IsCore (g.H.Hash32.digest l.hash) l.core end
