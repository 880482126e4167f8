-- What is checked of a path, in this order.
use Rattle.std.specs.Prelude.{ℕ, List, [], ◌∷◌, length, reverse, nat_lt, nat_eq, bytes_eq}
use Rattle.im_digest.specs.Digests.{Hash}
use Rattle.im_model.specs.Paths.{path_length, up}
use Rattle.im_mtree.specs.Checks.{Check}
use Rattle.im_mtree.specs.declared.faults.PathFault.{PathFault}
use Rattle.im_mtree.specs.declared.faults.PathFault.TheVariants.{Index, Length, Root}

-- the checks of a path with its terms from the leaf up: the leaf's index is below the width, the path has
-- the exact length, and it leads to the root
abbrev pub path_checks : Hash → List ℕ → ℕ → ℕ → List (List ℕ) → List ℕ → List (Check PathFault)
path_checks hash digest i width path root =
    (nat_lt i width, Index width i)
    ∷ (nat_eq (length path) (path_length width i), Length (path_length width i) (length path))
    ∷ (bytes_eq (up hash width i digest (reverse path)) root, Root root (up hash width i digest (reverse path)))
    ∷ []
