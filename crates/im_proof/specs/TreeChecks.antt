-- What is checked of a dual proof's paths and consistency list, each in this order. A list that isn't due
-- is empty.
use Rattle.std.specs.Prelude.{ℕ, ◌-◌, ◌&&◌, List, [], ◌∷◌, length, reverse, nat_eq, nat_lt, bytes_eq, if◌then◌else◌}
use Rattle.im_digest.specs.Digests.{Hash}
use Rattle.im_model.specs.Paths.{path_length, up}
use Rattle.im_model.specs.Growth.{consistency_length, older_root, newer_root}
use Rattle.im_model.specs.History.{no_digest}
use Rattle.im_mtree.specs.Checks.{Check}
use Rattle.im_proof.specs.declared.faults.DualFault.{DualFault}
use Rattle.im_proof.specs.declared.faults.DualFault.TheVariants.{InclusionLength, InclusionRoot, ConsistencyLength, ConsistencyOld, ConsistencyNew, LastLength, LastRoot, BlAlh}

-- transaction s, with this Alh, is in the tree of a size and a root, where it is below the tree's end
abbrev pub inclusion_checks : Hash → ℕ → ℕ → List ℕ → List ℕ → List (List ℕ) → List (Check DualFault)
inclusion_checks hash s size root alh path =
    if nat_lt s size
    then (nat_eq (length path) (path_length size (s - 1)), InclusionLength (path_length size (s - 1)) (length path))
    ∷ (bytes_eq (up hash size (s - 1) alh (reverse path)) root, InclusionRoot root (up hash size (s - 1) alh (reverse path)))
    ∷ []
    else (nat_eq (length path) 0, InclusionLength 0 (length path)) ∷ []

-- the tree of m and an older root grows to the tree of n and a newer root
abbrev pub consistency_checks : Hash → ℕ → ℕ → List ℕ → List ℕ → List (List ℕ) → List (Check DualFault)
consistency_checks hash m n older newer list =
    if nat_lt 0 m && nat_lt m n
    then (nat_eq (length list) (consistency_length m n), ConsistencyLength (consistency_length m n) (length list))
    ∷ (bytes_eq (older_root hash m n older list) older, ConsistencyOld older (older_root hash m n older list))
    ∷ (bytes_eq (newer_root hash m n older list) newer, ConsistencyNew newer (newer_root hash m n older list))
    ∷ []
    else (nat_eq (length list) 0, ConsistencyLength 0 (length list))
    ∷ (if nat_lt 0 m then (bytes_eq older newer, ConsistencyNew newer older) ∷ [] else [])

-- this Alh is the last in the tree of a size and a root, where it holds any
abbrev pub last_checks : Hash → ℕ → List ℕ → List ℕ → List (List ℕ) → List (Check DualFault)
last_checks hash size root alh path =
    if nat_lt 0 size
    then (nat_eq (length path) (path_length size (size - 1)), LastLength (path_length size (size - 1)) (length path))
    ∷ (bytes_eq (up hash size (size - 1) alh (reverse path)) root, LastRoot root (up hash size (size - 1) alh (reverse path)))
    ∷ []
    else (nat_eq (length path) 0, LastLength 0 (length path)) ∷ []

-- what the proof tells as the last Alh of the tree: zeros where the tree holds none, and the Alh of s where
-- s is the last
abbrev pub bl_checks : ℕ → ℕ → List ℕ → List ℕ → List (Check DualFault)
bl_checks s size alh told =
    if nat_eq size 0 then (bytes_eq told no_digest, BlAlh no_digest told) ∷ []
    else (if nat_eq s size then (bytes_eq told alh, BlAlh alh told) ∷ [] else [])
