-- Filters one behind the other.
use Rattle.std.proofs.Common.{◌≡◌, Bool, true, false, cond, List, [], ◌∷◌, map, filter, refl, ap, ◌∙◌}
use Rattle.std.proofs.lemmas.Bool.{false≢true}

-- where each that passes the second passes the first too, the first changes nothing
filter-step : {A : Type 0} (p q : A → Bool) (x : A) (xs : List A) (a b : Bool) → p x ≡ a → q x ≡ b → (b ≡ true → a ≡ true) → filter q (filter p xs) ≡ filter q xs
    → filter q (cond a (x ∷ filter p xs) (filter p xs)) ≡ cond b (x ∷ filter q xs) (filter q xs)
filter-step p q x xs true true e f h same = ap (λ (b : Bool). cond b (x ∷ filter q (filter p xs)) (filter q (filter p xs))) f ∙ ap (λ ys. x ∷ ys) same
filter-step p q x xs true false e f h same = ap (λ (b : Bool). cond b (x ∷ filter q (filter p xs)) (filter q (filter p xs))) f ∙ same
filter-step p q x xs false true e f h same = absurd (false≢true (h refl))
filter-step p q x xs false false e f h same = same

pub filter-through : {A : Type 0} (p q : A → Bool) (xs : List A) → ((x : A) → q x ≡ true → p x ≡ true) → filter q (filter p xs) ≡ filter q xs
filter-through p q [] h = refl
filter-through p q (x ∷ xs) h = filter-step p q x xs (p x) (q x) refl refl (h x) (filter-through p q xs h)

-- a filter by what a function gives
pub filter-mapped : {A B : Type 0} (f : A → B) (p : B → Bool) (xs : List A) → map f (filter (λ x. p (f x)) xs) ≡ filter p (map f xs)
filter-mapped f p [] = refl
filter-mapped f p (x ∷ xs) = elim (p (f x)) as (λ (b : Bool). map f (cond b (x ∷ filter (λ y. p (f y)) xs) (filter (λ y. p (f y)) xs)) ≡ cond b (f x ∷ filter p (map f xs)) (filter p (map f xs))) [
  | true ↦ ap (λ ys. f x ∷ ys) (filter-mapped f p xs)
  | false ↦ filter-mapped f p xs
]
