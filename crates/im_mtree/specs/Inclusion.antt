-- The inclusion path that a list of digests gives for a leaf (RFC 6962, section 2.1.1), read from the
-- root down. A proof holds its terms from the leaf up.
use Rattle.std.specs.Prelude.{ℕ, suc, zero, ◌-◌, List, [], ◌∷◌, length, take, drop, nat_lt, nat_le, if◌then◌else◌}
use Rattle.im_digest.specs.Digests.{Hash}
use Rattle.im_model.specs.Trees.{split_of, root}

-- the path of leaf i over at most `room` digests
unfoldable pub inclusion_within : ℕ → Hash → List (List ℕ) → ℕ → List (List ℕ)
inclusion_within zero hash digests i = []
inclusion_within (suc room) hash digests i =
    if nat_le (length digests) 1 then []
    else (if nat_lt i (split_of (length digests))
    then root hash (drop (split_of (length digests)) digests) ∷ inclusion_within room hash (take (split_of (length digests)) digests) i
    else root hash (take (split_of (length digests)) digests)
    ∷ inclusion_within room hash (drop (split_of (length digests)) digests) (i - split_of (length digests)))

-- PATH: the path of leaf i of a list of digests, for i below its length, from the root down
unfoldable pub inclusion : Hash → List (List ℕ) → ℕ → List (List ℕ)
inclusion hash digests i = inclusion_within (length digests) hash digests i
