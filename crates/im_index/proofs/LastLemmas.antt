-- The last item that passes a test.
use Rattle.std.proofs.Common.{◌≡◌, Bool, cond, List, [], ◌∷◌, ◌++◌, reverse, inl, inr, refl, ap, sym, ◌∙◌, Option, Some, None}
use Rattle.std.proofs.lemmas.Bool.{cases_Bool}
use Rattle.std.proofs.lemmas.List.{append-nil, reverse-append}
use Rattle.std.proofs.lemmas.List.Elements.{filter-append}
use Rattle.std.specs.List.{filter, find, last_or, All}
use Rattle.std.specs.Prelude.{IfSome}
use Rattle.std.proofs.lemmas.List.Elements.{All-head, All-tail}
use Rattle.im_octet.proofs.Common.{last-push}

-- the last item that passes, of a list with one more
pub last-more : {X : Type 0} (p : X → Bool) (xs : List X) (x : X) → last_or None (filter p (xs ++ x ∷ [])) ≡ cond (p x) (Some x) (last_or None (filter p xs))
last-more p xs x = elim (cases_Bool (p x)) [
  | inl passes ↦ (
      ap (last_or None) (filter-append p xs (x ∷ []))
      ∙ ap (λ b. last_or None (filter p xs ++ cond b (x ∷ []) [])) passes
      ∙ last-push None (filter p xs) x
      ∙ ap (λ b. cond b (Some x) (last_or None (filter p xs))) (sym passes))
  | inr fails ↦ (
      ap (last_or None) (filter-append p xs (x ∷ []))
      ∙ ap (λ b. last_or None (filter p xs ++ cond b (x ∷ []) [])) fails
      ∙ ap (last_or None) (append-nil (filter p xs))
      ∙ ap (λ b. cond b (Some x) (last_or None (filter p xs))) (sym fails))
]

-- the first item that passes, or else o
abbrev first_or : {X : Type 0} → (X → Bool) → Option X → List X → Option X
first_or p o [] = o
first_or p o (x ∷ xs) = cond (p x) (Some x) (first_or p o xs)

-- where nothing stands for it, it is what a search finds
first_or-none : {X : Type 0} (p : X → Bool) (xs : List X) → find p xs ≡ first_or p None xs
first_or-none p [] = refl
first_or-none p (x ∷ xs) = ap (cond (p x) (Some x)) (first_or-none p xs)

-- a last item stands for what isn't found before it
first_or-push : {X : Type 0} (p : X → Bool) (o : Option X) (xs : List X) (x : X) → first_or p o (xs ++ x ∷ []) ≡ first_or p (cond (p x) (Some x) o) xs
first_or-push p o [] x = refl
first_or-push p o (y ∷ ys) x = ap (cond (p y) (Some y)) (first_or-push p o ys x)

-- the first from the back is the last of those that pass
first_or-reverse : {X : Type 0} (p : X → Bool) (o : Option X) (xs : List X) → first_or p o (reverse xs) ≡ last_or o (filter p xs)
first_or-reverse p o [] = refl
first_or-reverse p o (x ∷ xs) =
    ap (first_or p o) (reverse-append (x ∷ []) xs)
    ∙ first_or-push p o (reverse xs) x
    ∙ first_or-reverse p (cond (p x) (Some x) o) xs
    ∙ elim (cases_Bool (p x)) [
      | inl passes ↦ (
          ap (λ b. last_or (cond b (Some x) o) (filter p xs)) passes
          ∙ ap (λ b. last_or o (cond b (x ∷ filter p xs) (filter p xs))) (sym passes))
      | inr fails ↦ (
          ap (λ b. last_or (cond b (Some x) o) (filter p xs)) fails
          ∙ ap (λ b. last_or o (cond b (x ∷ filter p xs) (filter p xs))) (sym fails))
    ]

-- a search from the back finds the last of those that pass
pub find-reverse : {X : Type 0} (p : X → Bool) (xs : List X) → find p (reverse xs) ≡ last_or None (filter p xs)
find-reverse p xs = first_or-none p (reverse xs) ∙ first_or-reverse p None xs

-- what holds of each item holds of the last
pub last_or-All : {X : Type 0} (P : X → Type 0) (o : Option X) (xs : List X) → IfSome o P → All P xs → IfSome (last_or o xs) P
last_or-All P o [] h all = h
last_or-All P o (x ∷ xs) h all = last_or-All P (Some x) xs (All-head P x xs all) (All-tail P x xs all)
