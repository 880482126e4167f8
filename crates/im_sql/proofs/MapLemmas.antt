-- A list that is made of another, one element after the other.
use Rattle.std.proofs.Common.{◌≡◌, ◌<◌, ◌+◌, ◌∙◌, ℕ, List, [], ◌∷◌, ◌++◌, length, map, take, get_or, sym, ap, append_assoc}
use Rattle.std.proofs.lemmas.List.{map-append, take_more}

pub map-step : {A B : Type 0} (f : A → B) (xs : List A) (i : ℕ) (x : A) (old now new : List B) → i < length xs → x ≡ get_or xs i x → now ≡ old ++ map f (take i xs) → new ≡ now ++ f x ∷ []
    → new ≡ old ++ map f (take (i + 1) xs)
map-step {A} {B} f xs i x old now new l is before after =
    after ∙ ap (λ (ys : List B). ys ++ f x ∷ []) before ∙ append_assoc old (map f (take i xs)) (f x ∷ [])
    ∙ ap (λ (ys : List B). old ++ ys)
    (sym (ap (map f) (take_more xs i x l) ∙ map-append f (take i xs) (get_or xs i x ∷ []) ∙ ap (λ (y : A). map f (take i xs) ++ f y ∷ []) (sym is)))
