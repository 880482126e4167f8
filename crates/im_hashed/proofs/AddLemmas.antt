-- What is added to a list of strings, a part behind another.
use Rattle.std.proofs.Common.{◌≡◌, ◌⊎◌, ℕ, List, [], ◌∷◌, ◌++◌, subst, sym, Contains, inl, inr, append-nil}
use Rattle.std.proofs.lemmas.List.{append_assoc}
use Rattle.std.proofs.lemmas.List.Elements.{Contains-append_left, Contains-append_right, Contains-append_cases}
use Rattle.im_hashed.specs.Messages.{HoldSame}
use Rattle.im_hashed.specs.Added.{AddsStrings}

-- a list holds its own strings
pub same-same : (xs : List (List ℕ)) → HoldSame xs xs
same-same xs = record { there = λ x c. c; back = λ x c. c }

-- lists that hold the same, in the other order
pub same-turned : (xs ys : List (List ℕ)) → HoldSame xs ys → HoldSame ys xs
same-turned xs ys h = record { there = h.back; back = h.there }

-- one after the other
pub same-then : (xs ys zs : List (List ℕ)) → HoldSame xs ys → HoldSame ys zs → HoldSame xs zs
same-then xs ys zs h k = record { there = λ x c. k.there x (h.there x c); back = λ x c. h.back x (k.back x c) }

-- one of two lists is where it is in both
either-front : (xs ys more : List (List ℕ)) → HoldSame xs ys → (x : List ℕ) → Contains xs x ⊎ Contains more x → Contains (ys ++ more) x
either-front xs ys more h x c = elim c [
  | inl l ↦ Contains-append_left ys more x (h.there x l)
  | inr r ↦ Contains-append_right ys more x r
]

-- with more strings behind both
pub same-front : (xs ys more : List (List ℕ)) → HoldSame xs ys → HoldSame (xs ++ more) (ys ++ more)
same-front xs ys more h = record {
  there = λ x c. either-front xs ys more h x (Contains-append_cases xs more x c);
  back = λ x c. either-front ys xs more (same-turned xs ys h) x (Contains-append_cases ys more x c);
}

swapped : (xs ys : List (List ℕ)) (x : List ℕ) → Contains xs x ⊎ Contains ys x → Contains (ys ++ xs) x
swapped xs ys x c = elim c [
  | inl l ↦ Contains-append_right ys xs x l
  | inr r ↦ Contains-append_left ys xs x r
]

-- two parts in the other order
pub same-swapped : (xs ys : List (List ℕ)) → HoldSame (xs ++ ys) (ys ++ xs)
same-swapped xs ys = record {
  there = λ x c. swapped xs ys x (Contains-append_cases xs ys x c);
  back = λ x c. swapped ys xs x (Contains-append_cases ys xs x c);
}

behind : (xs ys zs : List (List ℕ)) → HoldSame ys zs → (x : List ℕ) → Contains xs x ⊎ Contains ys x → Contains (xs ++ zs) x
behind xs ys zs h x c = elim c [
  | inl l ↦ Contains-append_left xs zs x l
  | inr r ↦ Contains-append_right xs zs x (h.there x r)
]

-- with more strings before both
pub same-behind : (xs ys zs : List (List ℕ)) → HoldSame ys zs → HoldSame (xs ++ ys) (xs ++ zs)
same-behind xs ys zs h = record {
  there = λ x c. behind xs ys zs h x (Contains-append_cases xs ys x c);
  back = λ x c. behind xs zs ys (same-turned ys zs h) x (Contains-append_cases xs zs x c);
}

-- nothing
pub adds-none : (xs : List (List ℕ)) → AddsStrings xs xs []
adds-none xs = subst (λ l. HoldSame xs l) (sym (append-nil xs)) (same-same xs)

-- these strings by another name
pub adds-as : (a b s t : List (List ℕ)) → s ≡ t → AddsStrings a b s → AddsStrings a b t
adds-as a b s t e h = subst (λ l. AddsStrings a b l) e h

-- two parts, one behind the other
pub adds-then : (a b c s t : List (List ℕ)) → AddsStrings a b s → AddsStrings b c t → AddsStrings a c (s ++ t)
adds-then a b c s t h k =
    same-then c (b ++ t) (a ++ (s ++ t)) k
    (subst (λ l. HoldSame (b ++ t) l) (append_assoc a s t) (same-front b (a ++ s) t h))

-- two parts whose order is free
pub adds-swapped : (a b s t : List (List ℕ)) → AddsStrings a b (s ++ t) → AddsStrings a b (t ++ s)
adds-swapped a b s t h = same-then b (a ++ (s ++ t)) (a ++ (t ++ s)) h (same-behind a (s ++ t) (t ++ s) (same-swapped s t))

-- what stands behind the old strings
pub adds-is : (a b s : List (List ℕ)) → b ≡ a ++ s → AddsStrings a b s
adds-is a b s e = subst (λ l. HoldSame l (a ++ s)) (sym e) (same-same (a ++ s))

-- one string by another name
pub adds-one : (a b : List (List ℕ)) (x s : List ℕ) → x ≡ s → AddsStrings a b (x ∷ []) → AddsStrings a b (s ∷ [])
adds-one a b x s e h = subst (λ (y : List ℕ). AddsStrings a b (y ∷ [])) e h

-- two strings, one behind the other
pub adds-two : (a b c : List (List ℕ)) (x y s t : List ℕ) → x ≡ s → y ≡ t → AddsStrings a b (x ∷ []) → AddsStrings b c (y ∷ []) → AddsStrings a c (s ∷ t ∷ [])
adds-two a b c x y s t e f h k = adds-then a b c (s ∷ []) (t ∷ []) (adds-one a b x s e h) (adds-one b c y t f k)
