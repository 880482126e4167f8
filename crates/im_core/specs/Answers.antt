-- What is answered where a condition holds, and where it doesn't.
use Rattle.std.specs.Prelude.{◌≡◌, ◌⊎◌}
use Rattle.im_machine.specs.declared.outputs.Output.{Output}
use Rattle.im_machine.specs.declared.outputs.Output.TheVariants as says

-- this, where the condition holds, and else that the event isn't allowed
abbrev pub Gives : Type 0 → Output → Output → Type 0
Gives P told output = (P × (output ≡ told)) ⊎ ((P → ⊥) × (output ≡ says.NotAllowed))
