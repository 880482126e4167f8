-- Names that are looked for among others.
use Rattle.std.proofs.Common.{◌≡◌, ◌<◌, ◌≤◌, ◌+◌, ◌||◌, ℕ, suc, Bool, true, false, not, cond, nat_lt, if◌then◌else◌, List, [], ◌∷◌, ◌++◌, length, map, take, drop, get_or, find, bytes_eq, position, Option, Some, None, is_some, refl, sym, ap, ap₂, ◌∙◌, arith}
use Rattle.std.proofs.lemmas.Bool.{true≢false, lt-ltb, le-ltb}
use Rattle.std.proofs.lemmas.List.{drop_more, drop_all, map_more, length-map}
use Rattle.std.specs.List.{list_any, position_or_len}
use Rattle.im_sqlmodel.specs.Creations.{twice_behind}
use Rattle.im_sql.proofs.CreateLemmas.{place-below}

-- ---- the place of one

no-place : (p : List ℕ → Bool) (xs : List (List ℕ)) → list_any p xs ≡ false → position_or_len p xs ≡ length xs
no-place p [] e = refl
no-place p (x ∷ xs) e = elim (p x) as (λ (b : Bool). (b || list_any p xs) ≡ false → cond (not b) (1 + position_or_len p xs) 0 ≡ suc (length xs)) [
  | true ↦ λ f. absurd (true≢false f)
  | false ↦ λ f. (let rest : position_or_len p xs ≡ length xs = no-place p xs f in omega (arith, rest))
] e

-- there is a place where one of them passes
pub place-any : (p : List ℕ → Bool) (xs : List (List ℕ)) → is_some (position p xs) ≡ list_any p xs
place-any p xs = by-any (list_any p xs) refl
  where
    by-any : (b : Bool) → list_any p xs ≡ b → is_some (position p xs) ≡ b
    by-any true e = ap (λ (b : Bool). is_some (cond b (Some (position_or_len p xs)) None)) (lt-ltb (position_or_len p xs) (length xs) (place-below p xs e))
    by-any false e =
        ap (λ (k : ℕ). is_some (cond (nat_lt k (length xs)) (Some k) None)) (no-place p xs e)
        ∙ ap (λ (b : Bool). is_some (cond b (Some (length xs)) None)) (le-ltb (length xs) (length xs) (omega arith))

place-length : {A : Type 0} (f : A → List ℕ) (p : List ℕ → Bool) (xs : List A) → position_or_len (λ x. p (f x)) xs ≡ position_or_len p (map f xs)
place-length f p [] = refl
place-length f p (x ∷ xs) = ap (λ (k : ℕ). cond (not (p (f x))) (1 + k) 0) (place-length f p xs)

-- the place of a name among names that are lent
pub place-lent : {A : Type 0} (f : A → List ℕ) (p : List ℕ → Bool) (xs : List A) → position (λ x. p (f x)) xs ≡ position p (map f xs)
place-lent f p xs = ap₂ (λ (k n : ℕ). cond (nat_lt k n) (Some k) None) (place-length f p xs) (sym (length-map xs f))

-- none of them passes, by a place that was looked for
pub place-none : (p : List ℕ → Bool) (xs : List (List ℕ)) (found : Option ℕ) → found ≡ position p xs → is_some found ≡ false → list_any p xs ≡ false
place-none p xs found is none = sym (place-any p xs) ∙ ap (λ (o : Option ℕ). is_some o) (sym is) ∙ none

pub place-some : (p : List ℕ → Bool) (xs : List (List ℕ)) (found : Option ℕ) → found ≡ position p xs → is_some found ≡ true → list_any p xs ≡ true
place-some p xs found is some = sym (place-any p xs) ∙ ap (λ (o : Option ℕ). is_some o) (sym is) ∙ some

-- ---- over names that are lent

module _ {A : Type 0} (f : A → List ℕ) (xs : List A) (i : ℕ) (d : A) where
  abbrev before : List (List ℕ)
  before = map f (take i xs)

  abbrev name : List ℕ
  name = f (get_or xs i d)

  abbrev behind : List (List ℕ)
  behind = map f (drop (i + 1) xs)

  front : i < length xs → map f (drop i xs) ≡ name ∷ behind
  front less = ap (map f) (drop_more xs i d less)

  -- a name that stands none earlier
  pub twice-more : i < length xs → list_any (bytes_eq name) before ≡ false → twice_behind (map f (take (i + 1) xs)) behind ≡ twice_behind before (map f (drop i xs))
  twice-more less none =
      ap (λ (names : List (List ℕ)). twice_behind names behind) (map_more f xs i d less)
      ∙ sym (ap (λ (b : Bool). if b then Some name else twice_behind (before ++ name ∷ []) behind) none)
      ∙ sym (ap (twice_behind before) (front less))

  -- a name that stands earlier too
  pub twice-here : i < length xs → list_any (bytes_eq name) before ≡ true → twice_behind before (map f (drop i xs)) ≡ Some name
  twice-here less some =
      ap (twice_behind before) (front less)
      ∙ ap (λ (b : Bool). if b then Some name else twice_behind (before ++ name ∷ []) behind) some

  module _ (p : List ℕ → Bool) where
    -- one that doesn't pass
    pub find-more : i < length xs → p name ≡ false → find p behind ≡ find p (map f (drop i xs))
    find-more less none = sym (ap (λ (b : Bool). cond b (Some name) (find p behind)) none) ∙ sym (ap (find p) (front less))

    -- the first that does
    pub find-here : i < length xs → p name ≡ true → find p (map f (drop i xs)) ≡ Some name
    find-here less some = ap (find p) (front less) ∙ ap (λ (b : Bool). cond b (Some name) (find p behind)) some

-- none is left
pub twice-end : {A : Type 0} (f : A → List ℕ) (xs : List A) (i : ℕ) (before : List (List ℕ)) → length xs ≤ i → twice_behind before (map f (drop i xs)) ≡ None
twice-end f xs i before all = ap (λ (rest : List _). twice_behind before (map f rest)) (drop_all i xs all)

pub find-end : {A : Type 0} (f : A → List ℕ) (xs : List A) (i : ℕ) (p : List ℕ → Bool) → length xs ≤ i → find p (map f (drop i xs)) ≡ None
find-end f xs i p all = ap (λ (rest : List _). find p (map f rest)) (drop_all i xs all)
