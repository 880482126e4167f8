-- Hash trees over a list of digests (RFC 6962, section 2.1). A digest is a list of octets.
use Rattle.std.specs.Prelude.{ℕ, suc, zero, ◌*◌, List, [], ◌∷◌, ◌++◌, length, take, drop, nat_lt, if◌then◌else◌}
use Rattle.im_digest.specs.Digests.{Hash}

-- the string that is hashed for a leaf: 00 | digest
abbrev pub leaf_string : List ℕ → List ℕ
leaf_string digest = 0 ∷ digest

-- the string that is hashed for a node: 01 | left | right
abbrev pub node_string : List ℕ → List ℕ → List ℕ
node_string left right = 1 ∷ left ++ right

-- the digest of a leaf
abbrev pub leaf : Hash → List ℕ → List ℕ
leaf hash digest = hash (leaf_string digest)

-- the digest of a node
abbrev pub node : Hash → List ℕ → List ℕ → List ℕ
node hash left right = hash (node_string left right)

-- k doubled while it stays below n, at most `room` times
unfoldable pub doubled_below : ℕ → ℕ → ℕ → ℕ
doubled_below zero k n = k
doubled_below (suc room) k n = if nat_lt (2 * k) n then doubled_below room (2 * k) n else k

-- the largest power of two below n, for n > 1
unfoldable pub split_of : ℕ → ℕ
split_of n = doubled_below n 1 n

-- the root over at most `room` digests
unfoldable pub root_within : ℕ → Hash → List (List ℕ) → List ℕ
root_within zero hash digests = []
root_within (suc room) hash [] = []
root_within (suc room) hash (digest ∷ []) = leaf hash digest
root_within (suc room) hash (first ∷ second ∷ rest) =
    let digests = first ∷ second ∷ rest in
    let k = split_of (length digests) in
    node hash (root_within room hash (take k digests)) (root_within room hash (drop k digests))

-- MTH: the root over a list of digests that isn't empty (the standard's root of no leaves has no use
-- here). One digest is a leaf, and more of them are split at the largest power of two below their number.
unfoldable pub root : Hash → List (List ℕ) → List ℕ
root hash digests = root_within (length digests) hash digests
