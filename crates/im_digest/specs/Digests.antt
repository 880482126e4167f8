-- Hash functions: functions from octet strings to octet strings. That a digest has 32 octets is said by
-- Hash32.
use Rattle.std.specs.Prelude.{◌≡◌, ℕ, ◌%◌, List, [], ◌∷◌, ◌++◌, length, replicate, sum}

-- a hash function; each definition that hashes takes one
abbrev pub Hash : Type 0
Hash = List ℕ → List ℕ

-- a hash function gives 32 octets
abbrev pub GivesDigests : Hash → Type 0
GivesDigests hash = (octets : List ℕ) → length (hash octets) ≡ 32

-- 31 zero octets, and then the sum of all octets modulo 256: it stands for a broken hash
abbrev pub sum_digest : Hash
sum_digest octets = replicate 31 0 ++ (sum octets % 256) ∷ []
