-- Inclusion paths (RFC 6962, section 2.1.1; checked in RFC 9162, section 2.1.3.2): the root that a path
-- gives, the path's exact length, and the strings that are hashed on the way. Paths are read here from
-- the root down to the leaf: a proof holds its terms from the leaf up, and is reversed first. Leaves are
-- counted from 0, and leaf i of n is one with i below n. The root has a meaning only where the path has
-- its exact length, so whoever compares roots asks for both.
use Rattle.std.specs.Prelude.{◌≡◌, ◌⊎◌, ℕ, suc, zero, ◌<◌, ◌≤◌, ◌-◌, List, [], ◌∷◌, nat_lt, nat_le, if◌then◌else◌}
use Rattle.im_digest.specs.Digests.{Hash}
use Rattle.im_model.specs.Trees.{leaf_string, node_string, split_of}

-- the path has the exact length of a path of leaf i of n, for i < n
abbrev pub IsPath : ℕ → ℕ → List (List ℕ) → Type 0
IsPath n i [] = n ≡ 1
IsPath n i (term ∷ rest) =
    (1 < n) × (((i < split_of n) × IsPath (split_of n) i rest)
    ⊎ ((split_of n ≤ i) × IsPath (n - split_of n) (i - split_of n) rest))

-- the string whose digest is the root that a path gives for leaf i of n
unfoldable pub up_string : Hash → ℕ → ℕ → List ℕ → List (List ℕ) → List ℕ
up_string hash n i digest [] = leaf_string digest
up_string hash n i digest (term ∷ rest) =
    if nat_lt i (split_of n) then node_string (hash (up_string hash (split_of n) i digest rest)) term
    else node_string term (hash (up_string hash (n - split_of n) (i - split_of n) digest rest))

-- the root that a path gives for leaf i of n
abbrev pub up : Hash → ℕ → ℕ → List ℕ → List (List ℕ) → List ℕ
up hash n i digest path = hash (up_string hash n i digest path)

-- the strings that are hashed to get it
unfoldable pub up_strings : Hash → ℕ → ℕ → List ℕ → List (List ℕ) → List (List ℕ)
up_strings hash n i digest [] = leaf_string digest ∷ []
up_strings hash n i digest (term ∷ rest) =
    up_string hash n i digest (term ∷ rest)
    ∷ (if nat_lt i (split_of n) then up_strings hash (split_of n) i digest rest
    else up_strings hash (n - split_of n) (i - split_of n) digest rest)

-- the length of a path of leaf i of n, where n is at most `room`
unfoldable pub path_length_within : ℕ → ℕ → ℕ → ℕ
path_length_within zero n i = 0
path_length_within (suc room) n i =
    if nat_le n 1 then 0
    else (if nat_lt i (split_of n) then suc (path_length_within room (split_of n) i)
    else suc (path_length_within room (n - split_of n) (i - split_of n)))

-- the length of a path of leaf i of n, for i < n
unfoldable pub path_length : ℕ → ℕ → ℕ
path_length n i = path_length_within n n i
