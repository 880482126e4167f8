-- What is kept of a list of leaves that only grows: the roots of its whole subtrees.
use Rattle.std.specs.Prelude.{◌≡◌, ℕ, suc, zero, ◌+◌, ◌/◌, ◌%◌, List, length, reverse}
use Rattle.im_digest.specs.Digests.{Hash}
use Rattle.im_mtree.specs.Subtrees.{subtrees}

-- the roots of the whole subtrees of some leaves, the last first, and the number of leaves
pub record KeptRoots : Type 0 where
  pub roots : List (List ℕ)
  pub size : ℕ

-- what a stack of roots, the last at its end, and a number of leaves keep
abbrev pub kept : List (List ℕ) → ℕ → KeptRoots
kept stack size = record { roots = reverse stack; size = size }

-- it is what is kept of these leaves
pub record IsFrontier (hash : Hash) (leaves : List (List ℕ)) (frontier : KeptRoots) : Type 0 where
  pub counted : frontier.size ≡ length leaves
  pub whole : frontier.roots ≡ subtrees hash leaves (length leaves)

-- the number of ones among the last `room` binary digits of a number
unfoldable pub ones_within : ℕ → ℕ → ℕ
ones_within zero count = 0
ones_within (suc room) count = count % 2 + ones_within room (count / 2)

-- the number of ones in a number of 64 binary digits: so many whole subtrees that number of leaves has
unfoldable pub ones : ℕ → ℕ
ones count = ones_within 64 count
