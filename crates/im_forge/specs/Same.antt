-- Whether two things that one digest was shown for are one.
use Rattle.std.specs.Prelude.{◌≡◌, ◌≢◌, ℕ, List}
use Rattle.im_digest.specs.Digests.{Hash}
use Rattle.im_pairs.specs.Pairs.{IsPair}
use Rattle.im_forge.specs.declared.same.Same.{Same}
use Rattle.im_forge.specs.declared.same.Same.TheVariants.{Equal, Pair}

-- equal, just where this holds, and else two unequal strings of one digest among these
abbrev pub IsSame : Type 0 → Hash → List (List ℕ) → Same → Type 0
IsSame Holds hash strings Equal = Holds
IsSame Holds hash strings (Pair x y) = (Holds → ⊥) × IsPair hash x y strings

-- equal where two strings are, and else both of them
abbrev pub IsCompared : List ℕ → List ℕ → Same → Type 0
IsCompared s t Equal = s ≡ t
IsCompared s t (Pair x y) = (s ≢ t) × (x ≡ s) × (y ≡ t)
