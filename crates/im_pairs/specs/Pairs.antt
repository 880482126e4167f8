-- Two unequal strings of one digest, among strings that were hashed. Of no hash function is it claimed here
-- that there are none: whoever finds one thing where another was shown has two such strings in hand.
use Rattle.std.specs.Prelude.{◌≡◌, ◌≢◌, ℕ, List, length, Contains, All}
use Rattle.im_digest.specs.Digests.{Hash}

-- each string has 32 octets
abbrev pub AreDigests : List (List ℕ) → Type 0
AreDigests digests = All (λ digest. length digest ≡ 32) digests

-- two unequal strings of one digest, both among these
pub record IsPair (hash : Hash) (x y : List ℕ) (strings : List (List ℕ)) : Type 0 where
  pub unequal : x ≢ y
  pub same : hash x ≡ hash y
  pub left : Contains strings x
  pub right : Contains strings y

-- there are two such strings among these
abbrev pub HasPair : Hash → List (List ℕ) → Type 0
HasPair hash strings = (x : List ℕ) × (y : List ℕ) × IsPair hash x y strings

-- each of these strings is one of the others
abbrev pub AreAmong : List (List ℕ) → List (List ℕ) → Type 0
AreAmong xs strings = (x : List ℕ) → Contains xs x → Contains strings x
