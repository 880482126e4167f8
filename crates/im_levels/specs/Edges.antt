-- The root over a part of a tree, kept for the next path beside that part.
use Rattle.std.specs.Prelude.{◌≡◌, ℕ, ◌<◌, ◌≤◌, ◌+◌, List, length}
use Rattle.im_digest.specs.Digests.{Hash}
use Rattle.im_model.specs.Trees.{root}
use Rattle.im_levels.specs.Leveled.{leaves_of, AreStored}
use Rattle.im_levels.specs.declared.edges.Edge.{Edge}

-- where it isn't empty, it is the root over its part of all leaves whose digests are stored here
abbrev pub IsEdgeOf : Hash → List (List ℕ) → Edge → Type 0
IsEdgeOf hash digests edge =
    0 < edge.width → (leaves : List (List ℕ)) → edge.at + edge.width ≤ length leaves → AreStored hash leaves digests
    → edge.root ≡ root hash (leaves_of leaves edge.at edge.width)
