-- Numbers in lists.
use Rattle.std.specs.Prelude.{ℕ, ◌+◌, ◌==◌, List, [], ◌∷◌, cond, Option, Some, None}

-- how often a number stands in a list
abbrev pub times : ℕ → List ℕ → ℕ
times n [] = 0
times n (x ∷ xs) = cond (x == n) 1 0 + times n xs

-- none or one
abbrev pub number_or_none : Option ℕ → List ℕ
number_or_none None = []
number_or_none (Some n) = n ∷ []
