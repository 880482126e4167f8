-- What a loop over a list adds where it takes some items and passes over the others.
use Rattle.std.proofs.Common.{◌≡◌, ◌<◌, ◌+◌, ℕ, Bool, true, false, cond, List, [], ◌∷◌, ◌++◌, length, map, filter, take, get_or, ap, sym, ◌∙◌}
use Rattle.std.proofs.lemmas.List.{append-nil, map_push}
use Rattle.std.proofs.lemmas.List.Elements.{filter_more}

-- the next one, taken or passed over
filter-next : {A : Type 0} (p : A → Bool) (xs : List A) (i : ℕ) (x : A) → i < length xs → x ≡ get_or xs i x
    → filter p (take (i + 1) xs) ≡ filter p (take i xs) ++ cond (p x) (x ∷ []) []
filter-next {A} p xs i x less is = filter_more p xs i x less ∙ ap (λ (y : A). filter p (take i xs) ++ cond (p y) (y ∷ []) []) (sym is)

-- one that is taken
taken-more : {A : Type 0} (p : A → Bool) (xs : List A) (i : ℕ) (x : A) → i < length xs → x ≡ get_or xs i x → p x ≡ true
    → filter p (take (i + 1) xs) ≡ filter p (take i xs) ++ x ∷ []
taken-more p xs i x less is taken = filter-next p xs i x less is ∙ ap (λ (b : Bool). filter p (take i xs) ++ cond b (x ∷ []) []) taken

-- one that is passed over
pub passed-more : {A : Type 0} (p : A → Bool) (xs : List A) (i : ℕ) (x : A) → i < length xs → x ≡ get_or xs i x → p x ≡ false
    → filter p (take (i + 1) xs) ≡ filter p (take i xs)
passed-more p xs i x less is passed =
    filter-next p xs i x less is ∙ ap (λ (b : Bool). filter p (take i xs) ++ cond b (x ∷ []) []) passed ∙ append-nil (filter p (take i xs))

-- one is put behind others, by other names for them and for it
pub put-behind : {A : Type 0} (new old front : List A) (x y : A) → new ≡ old ++ x ∷ [] → old ≡ front → x ≡ y → new ≡ front ++ y ∷ []
put-behind {A} new old front x y put before is =
    put ∙ ap (λ (xs : List A). xs ++ x ∷ []) before ∙ ap (λ (z : A). front ++ z ∷ []) is

-- what is made of one that is taken
pub made-more : {A B : Type 0} (f : A → B) (p : A → Bool) (xs : List A) (i : ℕ) (x : A) → i < length xs → x ≡ get_or xs i x → p x ≡ true
    → map f (filter p (take (i + 1) xs)) ≡ map f (filter p (take i xs)) ++ f x ∷ []
made-more f p xs i x less is taken = ap (map f) (taken-more p xs i x less is taken) ∙ map_push f (filter p (take i xs)) x
