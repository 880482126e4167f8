-- What carrying a path gives.
use Rattle.std.specs.Prelude.{ℕ, List, [], ◌∷◌, ◌++◌, reverse}
use Rattle.im_digest.specs.Digests.{Hash}
use Rattle.im_pairs.specs.Pairs.{IsPair}
use Rattle.im_pairs.specs.Leads.{Leads}
use Rattle.im_pathmove.specs.declared.carried.Carried.{Carried}
use Rattle.im_pathmove.specs.declared.carried.Carried.TheVariants.{Path, Pair}

-- a path, its terms from the leaf up, that leads from the leaf of a digest, leaf i, from 0, of n, to a root,
-- and hashes these strings alone; or two unequal strings of one digest among these
abbrev pub IsCarried : Hash → ℕ → ℕ → List ℕ → List ℕ → List (List ℕ) → Carried → Type 0
IsCarried hash n i leaf root strings (Path path) = Leads hash n i leaf (reverse path) root strings
IsCarried hash n i leaf root strings (Pair x y) = IsPair hash x y strings

-- a path with one term more at its end; a pair stays
abbrev pub extended : Carried → List ℕ → Carried
extended (Path path) term = Path (path ++ term ∷ [])
extended (Pair x y) term = Pair x y
