-- A stable sort is the one of the definitions.
use Rattle.std.proofs.Common.{◌≡◌, ◌≤◌, ◌<◌, ◌&&◌, inl, inr, ℕ, suc, Bool, true, false, not, cond, if◌then◌else◌, List, [], ◌∷◌, length, get_or, map, filter, refl, sym, ap, ap₂, ◌∙◌, subst, arith}
use Rattle.std.proofs.lemmas.Bool.{true≢false, and_parts, not-true, cases_Bool}
use Rattle.std.specs.Cmp.{IsStrictWeakOrder}
use Rattle.std.specs.List.{AllByRecursion}
use Rattle.std.specs.Prelude.{⊤}
use Rattle.std.specs.List.Sorted.{ties, IsSortedBy, IsStableBy}
use Rattle.std.specs.Ordering.{is_lt}
use Rattle.std.specs.declared.cmp.Ordering.{Ordering}
use Rattle.std.proofs.lemmas.List.Sorted.{sorted_far}
use Rattle.im_sqlmodel.specs.Sorts.{put_sorted, sorted}
use Rattle.im_octet.proofs.Common.{heads-are, tails-are}

-- ---- lists

nil-cons : {A : Type 0} (x : A) (xs : List A) → [] ≡ x ∷ xs → ⊥
nil-cons x xs e = (let long : 0 ≡ suc (length xs) = ap length e in omega (arith, long))

-- what holds of each holds of the first that passes
member : {A : Type 0} (p : A → Bool) (P : A → Type 0) (zs : List A) (y : A) (rest : List A) → filter p zs ≡ y ∷ rest → AllByRecursion P zs → P y
member p P [] y rest e all = absurd (nil-cons y rest e)
member {A} p P (w ∷ ws) y rest e all = elim (p w) as (λ (b : Bool). cond b (w ∷ filter p ws) (filter p ws) ≡ y ∷ rest → P y) [
  | true ↦ λ h. subst P (heads-are w y (filter p ws) rest h) all.0
  | false ↦ λ h. member p P ws y rest h all.1
] e

-- without a first that is one, the filters of the rest are one
cancel : {A : Type 0} (b : Bool) (x : A) (xs ys : List A) → cond b (x ∷ xs) xs ≡ cond b (x ∷ ys) ys → xs ≡ ys
cancel true x xs ys e = tails-are x x xs ys e
cancel false x xs ys e = e

-- ---- lists in order

module _ {A : Type 0} (lt : A → A → Bool) where
  -- none of the later ones is below an earlier one
  abbrev pub Rises : List A → Type 0
  Rises [] = ⊤
  Rises (x ∷ xs) = AllByRecursion (λ y. lt y x ≡ false) xs × Rises xs

  irreflexive : IsStrictWeakOrder lt → (x : A) → lt x x ≡ false
  irreflexive o x = elim (lt x x) as (λ (b : Bool). lt x x ≡ b → b ≡ false) [
    | true ↦ λ e. absurd (true≢false (sym e ∙ o.one_way x x e))
    | false ↦ λ e. refl
  ] refl

  ties-self : IsStrictWeakOrder lt → (x : A) → ties lt x x ≡ true
  ties-self o x = ap (λ (b : Bool). not b && not b) (irreflexive o x)

  -- the first is not above one that a filter by ties begins with
  first-low : (y z : A) (zs rest : List A) → Rises (z ∷ zs) → filter (ties lt y) (z ∷ zs) ≡ y ∷ rest → lt y z ≡ false
  first-low y z zs rest rises e = elim (cases_Bool (ties lt y z)) [
    | inl tied ↦ not-true (lt y z) (and_parts (not (lt y z)) (not (lt z y)) tied).0
    | inr apart ↦ member (ties lt y) (λ w. lt w z ≡ false) zs y rest (ap (λ (b : Bool). cond b (z ∷ filter (ties lt y) zs) (filter (ties lt y) zs)) (sym apart) ∙ e) rises.0
  ]

  abbrev pub SameTies : List A → List A → Type 0
  SameTies ys zs = (x : A) → filter (ties lt x) ys ≡ filter (ties lt x) zs

  begins : IsStrictWeakOrder lt → (y : A) (ys : List A) → filter (ties lt y) (y ∷ ys) ≡ y ∷ filter (ties lt y) ys
  begins o y ys = ap (λ (b : Bool). cond b (y ∷ filter (ties lt y) ys) (filter (ties lt y) ys)) (ties-self o y)

  first-same : IsStrictWeakOrder lt → (y z : A) (ys zs : List A) → Rises (y ∷ ys) → Rises (z ∷ zs) → SameTies (y ∷ ys) (z ∷ zs) → y ≡ z
  first-same o y z ys zs p q same =
      let low : lt y z ≡ false = first-low y z zs (filter (ties lt y) ys) q (sym (same y) ∙ begins o y ys) in
      let high : lt z y ≡ false = first-low z y ys (filter (ties lt z) zs) p (same z ∙ begins o z zs) in
      let tied : ties lt y z ≡ true = (λ i. not (low i) && not (high i)) in
      heads-are y z (filter (ties lt y) ys) (filter (ties lt y) zs)
      (sym (begins o y ys) ∙ same y ∙ ap (λ (b : Bool). cond b (z ∷ filter (ties lt y) zs) (filter (ties lt y) zs)) tied)

  -- two that rise, with the same ties in the same order, are one
  pub one-order : IsStrictWeakOrder lt → (ys zs : List A) → Rises ys → Rises zs → SameTies ys zs → ys ≡ zs
  one-order o [] [] p q same = refl
  one-order o [] (z ∷ zs) p q same = absurd (nil-cons z (filter (ties lt z) zs) (same z ∙ begins o z zs))
  one-order o (y ∷ ys) [] p q same = absurd (nil-cons y (filter (ties lt y) ys) (sym (same y) ∙ begins o y ys))
  one-order o (y ∷ ys) (z ∷ zs) p q same =
      let first : y ≡ z = first-same o y z ys zs p q same in
      ap₂ (λ w ws. w ∷ ws) first
      (one-order o ys zs p.1 q.1
      (λ x. cancel (ties lt x z) z (filter (ties lt x) ys) (filter (ties lt x) zs)
      (ap (λ (w : A). cond (ties lt x w) (w ∷ filter (ties lt x) ys) (filter (ties lt x) ys)) (sym first) ∙ same x)))

  -- a list that a sort gives
  rises-from : (P : A → Type 0) (xs : List A) → ((j : ℕ) (d : A) → j < length xs → P (get_or xs j d)) → AllByRecursion P xs
  rises-from P [] h = tt
  rises-from P (x ∷ xs) h = (h 0 x (omega arith), rises-from P xs (λ j d l. h (suc j) d (omega (arith, l))))

  pub rises : (xs : List A) → ((i j : ℕ) (d : A) → i ≤ j → j < length xs → lt (get_or xs j d) (get_or xs i d) ≡ false) → Rises xs
  rises [] h = tt
  rises (x ∷ xs) h = (
    rises-from (λ y. lt y x ≡ false) xs (λ j d l. h 0 (suc j) d (omega arith) (omega (arith, l))),
    rises xs (λ i j d less l. h (suc i) (suc j) d (omega (arith, less)) (omega (arith, l))),
  )

-- ---- the sort of the definitions

module _ {A : Type 0} (cmp : A → A → Ordering) where
  abbrev below : A → A → Bool
  below x y = is_lt (cmp x y)

  put-all : (P : A → Type 0) (x : A) (ys : List A) → P x → AllByRecursion P ys → AllByRecursion P (put_sorted cmp x ys)
  put-all P x [] p all = (p, tt)
  put-all P x (y ∷ ys) p all = elim (below y x) as (λ (b : Bool). AllByRecursion P (if b then y ∷ put_sorted cmp x ys else x ∷ y ∷ ys)) [
    | true ↦ (all.0, put-all P x ys p all.1)
    | false ↦ (p, all)
  ]

  -- what holds of each holds of each in order
  pub sorted-all : (P : A → Type 0) (xs : List A) → AllByRecursion P xs → AllByRecursion P (sorted cmp xs)
  sorted-all P [] all = tt
  sorted-all P (x ∷ xs) all = put-all P x (sorted cmp xs) all.0 (sorted-all P xs all.1)

  all-chain : IsStrictWeakOrder below → (x y : A) (ys : List A) → below y x ≡ false → AllByRecursion (λ w. below w y ≡ false) ys → AllByRecursion (λ w. below w x ≡ false) ys
  all-chain o x y [] h all = tt
  all-chain o x y (w ∷ ws) h all = (o.chain w y x all.0 h, all-chain o x y ws h all.1)

  put-rises : IsStrictWeakOrder below → (x : A) (ys : List A) → Rises below ys → Rises below (put_sorted cmp x ys)
  put-rises o x [] rises = (tt, tt)
  put-rises o x (y ∷ ys) rises = elim (below y x) as (λ (b : Bool). below y x ≡ b → Rises below (if b then y ∷ put_sorted cmp x ys else x ∷ y ∷ ys)) [
    | true ↦ λ e. (put-all (λ w. below w y ≡ false) x ys (o.one_way y x e) rises.0, put-rises o x ys rises.1)
    | false ↦ λ e. ((e, all-chain o x y ys e rises.0), rises)
  ] refl

  sorted-rises : IsStrictWeakOrder below → (xs : List A) → Rises below (sorted cmp xs)
  sorted-rises o [] = tt
  sorted-rises o (x ∷ xs) = put-rises o x (sorted cmp xs) (sorted-rises o xs)

  -- two that tie with a third aren't apart
  tied-both : IsStrictWeakOrder below → (t x y : A) → ties below t x ≡ true → ties below t y ≡ true → below y x ≡ false
  tied-both o t x y p q =
      let py = and_parts (not (below t y)) (not (below y t)) q in
      let px = and_parts (not (below t x)) (not (below x t)) p in
      o.chain y t x (not-true (below y t) py.1) (not-true (below t x) px.0)

  swap-step : IsStrictWeakOrder below → (t x y : A) (rest : List A) (p q : Bool) → ties below t x ≡ p → ties below t y ≡ q → below y x ≡ true
      → cond q (y ∷ cond p (x ∷ rest) rest) (cond p (x ∷ rest) rest) ≡ cond p (x ∷ cond q (y ∷ rest) rest) (cond q (y ∷ rest) rest)
  swap-step o t x y rest true true e f less = absurd (true≢false (sym less ∙ tied-both o t x y e f))
  swap-step o t x y rest true false e f less = refl
  swap-step o t x y rest false true e f less = refl
  swap-step o t x y rest false false e f less = refl

  put-stable : IsStrictWeakOrder below → (t x : A) (ys : List A) → filter (ties below t) (put_sorted cmp x ys) ≡ filter (ties below t) (x ∷ ys)
  put-stable o t x [] = refl
  put-stable o t x (y ∷ ys) = elim (below y x) as (λ (b : Bool). below y x ≡ b
      → filter (ties below t) (if b then y ∷ put_sorted cmp x ys else x ∷ y ∷ ys) ≡ filter (ties below t) (x ∷ y ∷ ys)) [
        | true ↦ λ e.
            ap (λ (zs : List A). cond (ties below t y) (y ∷ zs) zs) (put-stable o t x ys)
            ∙ swap-step o t x y (filter (ties below t) ys) (ties below t x) (ties below t y) refl refl e
        | false ↦ λ e. refl
      ] refl

  sorted-stable : IsStrictWeakOrder below → (t : A) (xs : List A) → filter (ties below t) (sorted cmp xs) ≡ filter (ties below t) xs
  sorted-stable o t [] = refl
  sorted-stable o t (x ∷ xs) =
      put-stable o t x (sorted cmp xs) ∙ ap (λ (zs : List A). cond (ties below t x) (x ∷ zs) zs) (sorted-stable o t xs)

  -- what a stable sort gives is what the definition says
  pub stable-sorted : IsStrictWeakOrder below → (xs ys : List A) → IsSortedBy below ys → IsStableBy below xs ys → ys ≡ sorted cmp xs
  stable-sorted o xs ys up stable =
      one-order below o ys (sorted cmp xs) (rises below ys (sorted_far below o ys up)) (sorted-rises o xs)
      (λ t. stable t ∙ sym (sorted-stable o t xs))

  -- lists in which those of one rank stand in the same order are sorted alike
  pub same-sorted : IsStrictWeakOrder below → (xs ys : List A) → SameTies below xs ys → sorted cmp xs ≡ sorted cmp ys
  same-sorted o xs ys same =
      one-order below o (sorted cmp xs) (sorted cmp ys) (sorted-rises o xs) (sorted-rises o ys) (λ t. sorted-stable o t xs ∙ same t ∙ sym (sorted-stable o t ys))

-- ---- what the items are sorted by may be read off them

put-map : {A B : Type 0} (f : A → B) (cmp : B → B → Ordering) (x : A) (ys : List A) → map f (put_sorted (λ a b. cmp (f a) (f b)) x ys) ≡ put_sorted cmp (f x) (map f ys)
put-map f cmp x [] = refl
put-map f cmp x (y ∷ ys) = elim (is_lt (cmp (f y) (f x))) as (λ (b : Bool). map f (if b then y ∷ put_sorted (λ a b. cmp (f a) (f b)) x ys else x ∷ y ∷ ys)
    ≡ (if b then f y ∷ put_sorted cmp (f x) (map f ys) else f x ∷ f y ∷ map f ys)) [
      | true ↦ ap (λ zs. f y ∷ zs) (put-map f cmp x ys)
      | false ↦ refl
    ]

pub sorted-map : {A B : Type 0} (f : A → B) (cmp : B → B → Ordering) (xs : List A) → map f (sorted (λ a b. cmp (f a) (f b)) xs) ≡ sorted cmp (map f xs)
sorted-map f cmp [] = refl
sorted-map f cmp (x ∷ xs) = put-map f cmp x (sorted (λ a b. cmp (f a) (f b)) xs) ∙ ap (put_sorted cmp (f x)) (sorted-map f cmp xs)
