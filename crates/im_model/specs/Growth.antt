-- Consistency lists from m to n, for 0 < m ≤ n (RFC 6962, section 2.1.2; checked in RFC 9162, section
-- 2.1.4.2): the two roots that a list gives, its exact length, and the strings that are hashed. The first
-- term is always there, also where the standard leaves it out, which is where m is a power of two. The
-- terms behind it are read here from the root down: a proof holds them from the first term up, and they
-- are reversed first. The roots have a meaning only where the list has its exact length.
use Rattle.std.specs.Prelude.{◌≡◌, ◌⊎◌, ◌==◌, ℕ, suc, zero, ◌<◌, ◌≤◌, ◌-◌, List, [], ◌∷◌, reverse, nat_le, if◌then◌else◌}
use Rattle.im_digest.specs.Digests.{Hash}
use Rattle.im_model.specs.Trees.{node_string, split_of}

-- the terms behind the first have the exact length of those of a list from m to n
abbrev pub IsGrowth : ℕ → ℕ → List (List ℕ) → Type 0
IsGrowth m n [] = m ≡ n
IsGrowth m n (term ∷ rest) =
    (m < n) × (((m ≤ split_of n) × IsGrowth m (split_of n) rest)
    ⊎ ((split_of n < m) × IsGrowth (m - split_of n) (n - split_of n) rest))

-- the older root
unfoldable pub older : Hash → ℕ → ℕ → List ℕ → List (List ℕ) → List ℕ
older hash m n first [] = first
older hash m n first (term ∷ rest) =
    if nat_le m (split_of n) then older hash m (split_of n) first rest
    else hash (node_string term (older hash (m - split_of n) (n - split_of n) first rest))

-- the newer root
unfoldable pub newer : Hash → ℕ → ℕ → List ℕ → List (List ℕ) → List ℕ
newer hash m n first [] = first
newer hash m n first (term ∷ rest) =
    if nat_le m (split_of n) then hash (node_string (newer hash m (split_of n) first rest) term)
    else hash (node_string term (newer hash (m - split_of n) (n - split_of n) first rest))

-- the strings that are hashed to get both
unfoldable pub grow_strings : Hash → ℕ → ℕ → List ℕ → List (List ℕ) → List (List ℕ)
grow_strings hash m n first [] = []
grow_strings hash m n first (term ∷ rest) =
    if nat_le m (split_of n)
    then node_string (newer hash m (split_of n) first rest) term ∷ grow_strings hash m (split_of n) first rest
    else node_string term (older hash (m - split_of n) (n - split_of n) first rest)
    ∷ node_string term (newer hash (m - split_of n) (n - split_of n) first rest)
    ∷ grow_strings hash (m - split_of n) (n - split_of n) first rest

-- the number of the terms behind the first, where n is at most `room`
unfoldable pub growth_length_within : ℕ → ℕ → ℕ → ℕ
growth_length_within zero m n = 0
growth_length_within (suc room) m n =
    if m == n then 0
    else (if nat_le m (split_of n) then suc (growth_length_within room m (split_of n))
    else suc (growth_length_within room (m - split_of n) (n - split_of n)))

-- the number of the terms behind the first of a list from m to n, for 0 < m ≤ n
unfoldable pub growth_length : ℕ → ℕ → ℕ
growth_length m n = growth_length_within n m n

-- the length of a consistency list from m to n, for 0 < m ≤ n: none where they are equal
unfoldable pub consistency_length : ℕ → ℕ → ℕ
consistency_length m n = if m == n then 0 else suc (growth_length m n)

-- a consistency list, as a proof holds it, has the exact length of one from m to n
abbrev pub IsConsistency : ℕ → ℕ → List (List ℕ) → Type 0
IsConsistency m n [] = m ≡ n
IsConsistency m n (first ∷ others) = (m < n) × IsGrowth m n (reverse others)

-- the older root that a consistency list gives; the empty list leaves the known root
abbrev pub older_root : Hash → ℕ → ℕ → List ℕ → List (List ℕ) → List ℕ
older_root hash m n known [] = known
older_root hash m n known (first ∷ others) = older hash m n first (reverse others)

-- the newer root that a consistency list gives; the empty list leaves the known root
abbrev pub newer_root : Hash → ℕ → ℕ → List ℕ → List (List ℕ) → List ℕ
newer_root hash m n known [] = known
newer_root hash m n known (first ∷ others) = newer hash m n first (reverse others)

-- the strings that are hashed in checking a consistency list
abbrev pub consistency_strings : Hash → ℕ → ℕ → List (List ℕ) → List (List ℕ)
consistency_strings hash m n [] = []
consistency_strings hash m n (first ∷ others) = grow_strings hash m n first (reverse others)
