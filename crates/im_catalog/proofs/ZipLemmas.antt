-- Lists beside lists.
use Rattle.std.proofs.Common.{◌≡◌, ◌<◌, ◌+◌, ℕ, List, [], ◌∷◌, ◌++◌, length, take, get_or, sym, ap, ◌∙◌, subst}
use Rattle.std.proofs.lemmas.List.{take_more}
use Rattle.std.specs.List.{AllZip}

zip-push : {A B : Type 0} (R : A → B → Type 0) (xs : List A) (ys : List B) (x : A) (y : B) → AllZip R xs ys → R x y → AllZip R (xs ++ x ∷ []) (ys ++ y ∷ [])
zip-push R [] [] x y h r = (r, tt)
zip-push R [] (b ∷ ys) x y h r = absurd h
zip-push R (a ∷ xs) [] x y h r = absurd h
zip-push R (a ∷ xs) (b ∷ ys) x y h r = (h.0, zip-push R xs ys x y h.1 r)

-- one more of a list that is walked
pub zip-more : {A B : Type 0} (R : A → B → Type 0) (xs : List A) (ys : List B) (i : ℕ) (x : A) (y : B) → i < length xs → x ≡ get_or xs i x
    → AllZip R (take i xs) ys → R x y → AllZip R (take (i + 1) xs) (ys ++ y ∷ [])
zip-more {A} {B} R xs ys i x y l is h r =
    subst (λ (zs : List A). AllZip R zs (ys ++ y ∷ [])) (ap (λ (w : A). take i xs ++ w ∷ []) is ∙ sym (take_more xs i x l)) (zip-push R (take i xs) ys x y h r)
