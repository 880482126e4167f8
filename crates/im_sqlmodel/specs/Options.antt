-- Matches by value.
use Rattle.std.specs.Prelude.{List, [], ◌∷◌, Option, Some, None, Result, Ok, Err}
use Rattle.std.specs.Option.{option_or}
use Rattle.std.specs.declared.cmp.Ordering.{Ordering}
use Rattle.std.specs.declared.cmp.Ordering.TheVariants.{Less, Equal, Greater}

abbrev pub by_option : {A B : Type 0} → Option A → B → (A → B) → B
by_option None none some = none
by_option (Some x) none some = some x

-- the first that something is found of
abbrev pub first_found : {A B : Type 0} → (A → Option B) → List A → Option B
first_found f [] = None
first_found f (x ∷ xs) = option_or (f x) (first_found f xs)

abbrev pub by_ordering : {A : Type 0} → Ordering → A → A → A → A
by_ordering Less less equal greater = less
by_ordering Equal less equal greater = equal
by_ordering Greater less equal greater = greater

abbrev pub reversed : Ordering → Ordering
reversed Less = Greater
reversed Equal = Equal
reversed Greater = Less

abbrev pub ok_then : {A B E : Type 0} → Result A E → (A → Result B E) → Result B E
ok_then (Ok x) f = f x
ok_then (Err e) f = Err e
