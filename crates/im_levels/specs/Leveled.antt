-- The digests of all whole subtrees of a list of leaves, each stored once. Level 0 has the digests of the
-- leaves, and level k + 1 a node for each whole pair of level k: entry j of level k is the root over the 2^k
-- leaves from leaf j * 2^k on, counted from 0. They stand in the order in which their subtrees become whole
-- as leaves are added, the smaller first.
use Rattle.std.specs.Prelude.{◌≡◌, ℕ, ◌≤◌, ◌+◌, ◌-◌, ◌*◌, ◌^◌, List, [], length, take, drop, slice_index_or}
use Rattle.im_digest.specs.Digests.{Hash}
use Rattle.im_model.specs.Trees.{root}
use Rattle.im_levels.specs.Counts.{whole}

-- stored digests, and the number of leaves
pub record Stored : Type 0 where
  pub digests : List (List ℕ)
  pub size : ℕ

-- these digests for this number of leaves
abbrev pub stored : List (List ℕ) → ℕ → Stored
stored digests size = record { digests = digests; size = size }

-- where the digest of a whole subtree of `width` leaves from leaf `at` on stands: behind those of all
-- subtrees that are whole before this leaf, and behind the smaller ones inside it
abbrev pub place : ℕ → ℕ → ℕ
place at width = whole at + 2 * (width - 1)

-- the leaves from leaf `at` on, `width` of them
abbrev pub leaves_of : List (List ℕ) → ℕ → ℕ → List (List ℕ)
leaves_of leaves at width = take width (drop at leaves)

-- each whole subtree of these leaves has its digest at its place
abbrev pub AreStored : Hash → List (List ℕ) → List (List ℕ) → Type 0
AreStored hash leaves digests =
    (k j : ℕ) → j * 2 ^ k + 2 ^ k ≤ length leaves → slice_index_or digests (place (j * 2 ^ k) (2 ^ k)) [] ≡ root hash (leaves_of leaves (j * 2 ^ k) (2 ^ k))

-- they are the digests of these leaves
pub record IsLeveled (hash : Hash) (leaves : List (List ℕ)) (levels : Stored) : Type 0 where
  pub counted : levels.size ≡ length leaves
  pub rooted : AreStored hash leaves levels.digests

-- leaves beside each other that begin at a multiple of a power of two which is at least their number
pub record IsPart (at width : ℕ) : Type 0 where
  pub exponent : ℕ
  pub index : ℕ
  pub begins : at ≡ index * 2 ^ exponent
  pub fits : width ≤ 2 ^ exponent

-- a whole subtree
pub record IsSubtree (at width : ℕ) : Type 0 where
  pub exponent : ℕ
  pub index : ℕ
  pub begins : at ≡ index * 2 ^ exponent
  pub fills : width ≡ 2 ^ exponent
