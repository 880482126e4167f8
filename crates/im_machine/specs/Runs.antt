-- Whole runs of the machine.
use Rattle.std.specs.Prelude.{◌≡◌, List, [], ◌∷◌}
use Rattle.im_machine.specs.Machines.{Machine}
use Rattle.im_machine.specs.Steps.{Steps}
use Rattle.im_machine.specs.declared.events.Event.{Event}
use Rattle.im_machine.specs.declared.outputs.Output.{Output}
use Rattle.im_digest.specs.Digests.{Hash}

-- from one machine these events lead to another, and are answered so: one output for each event, in order
abbrev pub Run : Hash → Machine → List Event → List Output → Machine → Type 0
Run hash m [] [] end = end ≡ m
Run hash m (event ∷ events) (output ∷ outputs) end =
    (next : Machine) × Steps hash m event output next × Run hash next events outputs end
-- no event is left out, and no output comes without one
Run hash m [] (output ∷ outputs) end = ⊥
Run hash m (event ∷ events) [] end = ⊥
