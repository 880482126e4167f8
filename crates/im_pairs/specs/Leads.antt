-- Paths that lead to a root, and hash these strings alone.
use Rattle.std.specs.Prelude.{◌≡◌, ◌<◌, ◌⊎◌, ℕ, List}
use Rattle.im_digest.specs.Digests.{Hash}
use Rattle.im_model.specs.Paths.{IsPath, up, up_strings}
use Rattle.im_pairs.specs.Pairs.{AreDigests, AreAmong, HasPair}

-- a path, read from the root down, leads from the leaf of a digest, leaf i, from 0, of n, to a root: there is
-- such a leaf, the path has the exact length, its terms are digests, and each string that is hashed on the way
-- is among these
pub record Leads (hash : Hash) (n i : ℕ) (digest : List ℕ) (path : List (List ℕ)) (root : List ℕ) (strings : List (List ℕ)) : Type 0 where
  pub within : i < n
  pub long : IsPath n i path
  pub digests : AreDigests path
  pub gives : up hash n i digest path ≡ root
  pub among : AreAmong (up_strings hash n i digest path) strings

-- some path leads there, or two unequal strings of one digest are among these
abbrev pub Ends : Hash → ℕ → ℕ → List ℕ → List ℕ → List (List ℕ) → Type 0
Ends hash n i digest root strings =
    ((path : List (List ℕ)) × Leads hash n i digest path root strings) ⊎ HasPair hash strings
