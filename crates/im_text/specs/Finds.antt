-- The answer of a search.
use Rattle.std.specs.Prelude.{Option, Some, None}

-- what is found has the property, or nothing has it where nothing is found
abbrev pub Finds : {X : Type 0} → Option X → (X → Type 0) → Type 0
Finds (Some x) P = P x
Finds None P = (x : _) → P x → ⊥
