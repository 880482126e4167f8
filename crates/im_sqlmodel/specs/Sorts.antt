-- Lists in rising order by a stable sort: of two items of one rank the earlier comes first.
use Rattle.std.specs.Prelude.{List, [], ◌∷◌, if◌then◌else◌}
use Rattle.std.specs.declared.cmp.Ordering.{Ordering}
use Rattle.std.specs.Ordering.{is_lt}

-- an item put before the first that isn't below it
abbrev pub put_sorted : {A : Type 0} → (A → A → Ordering) → A → List A → List A
put_sorted cmp x [] = x ∷ []
put_sorted cmp x (y ∷ ys) = if is_lt (cmp y x) then y ∷ put_sorted cmp x ys else x ∷ y ∷ ys

abbrev pub sorted : {A : Type 0} → (A → A → Ordering) → List A → List A
sorted cmp [] = []
sorted cmp (x ∷ xs) = put_sorted cmp x (sorted cmp xs)
