-- How many octets references put into a value log.
use Rattle.std.specs.Prelude.{◌+◌, ◌==◌, ℕ, List, [], ◌∷◌, if◌then◌else◌}
use Rattle.im_format.specs.declared.references.ValueRef.{ValueRef}

-- the lengths of those in the log, added up
abbrev pub octets_in : ℕ → List ValueRef → ℕ
octets_in number [] = 0
octets_in number (ref ∷ refs) = (if ref.log == number then ref.len else 0) + octets_in number refs
