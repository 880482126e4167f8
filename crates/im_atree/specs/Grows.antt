-- The way from the last part of an older tree to the root of a newer one: on which side each term of a
-- consistency list behind the first stands, from the first term up (RFC 9162, section 2.1.4.2).
use Rattle.std.specs.Prelude.{ℕ, suc, zero, ◌-◌, ◌==◌, Bool, true, false, List, [], ◌∷◌, ◌++◌, nat_le, if◌then◌else◌}
use Rattle.im_digest.specs.Digests.{Hash}
use Rattle.im_model.specs.Trees.{node, split_of}
use Rattle.im_mtree.specs.Ways.{meet}
use Rattle.im_atree.specs.declared.growths.Roots.{Roots}

-- of each term behind the first, from m to an n of at most `room`: whether it stands left
unfoldable pub grow_sides_within : ℕ → ℕ → ℕ → List Bool
grow_sides_within zero m n = []
grow_sides_within (suc room) m n =
    if m == n then []
    else (if nat_le m (split_of n) then grow_sides_within room m (split_of n) ++ false ∷ []
    else grow_sides_within room (m - split_of n) (n - split_of n) ++ true ∷ [])

-- of each term behind the first, from m to n, for 0 < m ≤ n: whether it stands left
unfoldable pub grow_sides : ℕ → ℕ → List Bool
grow_sides m n = grow_sides_within n m n

-- both roots and the next term: one that stands right isn't of the older tree
abbrev pub meet_both : Hash → Bool → Roots → List ℕ → Roots
meet_both hash left roots term = record {
  older = if left then node hash term roots.older else roots.older;
  newer = meet hash left roots.newer term;
}
