-- The whole subtrees of the first leaves of a tree: one for each one in the binary digits of their number,
-- the greatest in front.
use Rattle.std.specs.Prelude.{ℕ, suc, zero, ◌*◌, ◌/◌, ◌%◌, ◌==◌, List, [], ◌∷◌, take, drop, if◌then◌else◌}
use Rattle.im_digest.specs.Digests.{Hash}
use Rattle.im_model.specs.Trees.{node, root}

-- the roots of the whole subtrees, the last first, of the first `count` runs of `size` digests, where
-- `count` has at most `room` binary digits
unfoldable pub subtrees_within : ℕ → Hash → List (List ℕ) → ℕ → ℕ → List (List ℕ)
subtrees_within zero hash digests size count = []
subtrees_within (suc room) hash digests size count =
    if count % 2 == 1
    then root hash (take size (drop (count / 2 * (2 * size)) digests)) ∷ subtrees_within room hash digests (2 * size) (count / 2)
    else subtrees_within room hash digests (2 * size) (count / 2)

-- the roots of the whole subtrees, the last first, of the first `count` digests, for a count of 64 bits
unfoldable pub subtrees : Hash → List (List ℕ) → ℕ → List (List ℕ)
subtrees hash digests count = subtrees_within 64 hash digests 1 count

-- the root over some subtrees, the last first, and a part behind them whose root is `right`
unfoldable pub folded : Hash → List (List ℕ) → List ℕ → List ℕ
folded hash [] right = right
folded hash (left ∷ lefts) right = folded hash lefts (node hash left right)
