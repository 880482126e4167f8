-- Strings by their places.
use Rattle.std.specs.Prelude.{ℕ, List, [], get_or}

-- the string at a place, from 0
abbrev pub string_at : List (List ℕ) → ℕ → List ℕ
string_at strings i = get_or strings i []
