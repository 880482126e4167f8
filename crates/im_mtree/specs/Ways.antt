-- The way from a leaf to the root: on which side each term of a path stands, from the leaf up.
use Rattle.std.specs.Prelude.{◌≡◌, ℕ, suc, zero, ◌<◌, ◌-◌, ◌/◌, ◌%◌, ◌^◌, Bool, true, false, List, [], ◌∷◌, ◌++◌, nat_le, nat_lt, if◌then◌else◌}
use Rattle.im_digest.specs.Digests.{Hash}
use Rattle.im_model.specs.Trees.{node, split_of}
use Rattle.im_mtree.specs.declared.places.Place.{Place}

-- of each term on the way from leaf i of at most `room` to the root: whether it stands left
unfoldable pub sides_within : ℕ → ℕ → ℕ → List Bool
sides_within zero n i = []
sides_within (suc room) n i =
    if nat_le n 1 then []
    else (if nat_lt i (split_of n) then sides_within room (split_of n) i ++ false ∷ []
    else sides_within room (n - split_of n) (i - split_of n) ++ true ∷ [])

-- of each term on the way from leaf i of n to the root: whether it stands left
unfoldable pub sides : ℕ → ℕ → List Bool
sides n i = sides_within n n i

-- what a walk along these sides makes of x, a term at each
unfoldable pub rise : {X : Type 0} → (Bool → X → List ℕ → X) → List Bool → X → List (List ℕ) → X
rise step [] x path = x
rise step (left ∷ more) x [] = x
rise step (left ∷ more) x (term ∷ path) = rise step more (step left x term) path

-- the node of a digest and the term beside it
abbrev pub meet : Hash → Bool → List ℕ → List ℕ → List ℕ
meet hash left digest term = if left then node hash term digest else node hash digest term

-- a place below the root that has one beside it: it isn't the last of its level, or stands right
abbrev pub Meets : Place → Type 0
Meets place = (0 < place.last) × (place.index ≡ place.last → place.last % 2 ≡ 1)

-- `to` is so many levels above `from`, or is `from`, and on each level below it the way passes the last node,
-- which stands left: no node is beside it there
pub record IsPassedTo (from to : Place) : Type 0 where
  pub levels : ℕ
  pub index : to.index ≡ from.index / 2 ^ levels
  pub last : to.last ≡ from.last / 2 ^ levels
  pub alone : (level : ℕ) → level < levels → (from.index / 2 ^ level ≡ from.last / 2 ^ level) × (from.last / 2 ^ level % 2 ≡ 0)
