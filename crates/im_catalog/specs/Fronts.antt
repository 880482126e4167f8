-- What stands at the front of a text, for private clauses.
use Rattle.std.specs.Prelude.{◌≡◌, ℕ, List, ◌++◌, length, All}

-- the text of such a one comes first, and then the rest
pub record StandsFirst {T : Type 0} (Is : T → Type 0) (text_of : T → List ℕ) (text : List ℕ) (x : T) (rest : List ℕ) : Type 0 where
  pub is : Is x
  pub split : text ≡ text_of x ++ rest

-- no such one has its text there
pub record NoneStandsFirst {T : Type 0} (Is : T → Type 0) (text_of : T → List ℕ) (text : List ℕ) : Type 0 where
  pub none : (x : T) (rest : List ℕ) → Is x → text ≡ text_of x ++ rest → ⊥

-- so many such ones
abbrev pub AreMany : {T : Type 0} → (T → Type 0) → ℕ → List T → Type 0
AreMany Is count xs = (length xs ≡ count) × All Is xs
