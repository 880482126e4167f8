-- What stands in lists that are joined, mapped or sorted.
use Rattle.std.proofs.Common.{◌≡◌, ◌≢◌, ◌≤◌, ◌<◌, ◌+◌, ◌-◌, inl, inr, ℕ, zero, suc, Bool, true, false, not, if◌then◌else◌, List, [], ◌∷◌, ◌++◌, length, map, filter, flat_map, get_or, nat_eq, AllPairs, refl, sym, ap, ◌∙◌, subst, arith}
use Rattle.std.proofs.lemmas.Bool.{cases_order, eq-eqb, eqb-true, ne_eqb}
use Rattle.std.proofs.lemmas.List.Elements.{All-from_recursion}
use Rattle.std.specs.List.{AllByRecursion, IsAmong}
use Rattle.std.specs.Ordering.{is_lt}
use Rattle.std.specs.declared.cmp.Ordering.{Ordering}
use Rattle.std.specs.declared.cmp.Ordering.TheVariants.{Less, Equal, Greater}
use Rattle.im_versions.proofs.ListLemmas.{All-among, among-cons, among-first, among-left, among-nil, among-rest, among-right}
use Rattle.im_versions.proofs.ScanLemmas.{below-turned, same-key}
use Rattle.im_sqltype.specs.Orders.{octets_cmp}
use Rattle.im_sqlmodel.specs.Sorts.{put_sorted, sorted}
use Rattle.im_sqlmodel.specs.declared.written.Written.{Written}
use Rattle.im_sqlmodel.proofs.SortLemmas.{sorted-all}
use Rattle.im_catalog.proofs.FrontLemmas.{among-kept}
use Rattle.im_catalog.proofs.HistoryLemmas.{among-either}
use Rattle.im_sql.proofs.CountLemmas.{fewer, few-by}
use Rattle.im_sql.proofs.NextLemmas.{Apart, all-put, all-of}
use Rattle.im_sql.proofs.ShortLemmas.{Below, below-all}

-- ---- what a function makes of each

pub among-map : {A B : Type 0} (f : A → B) (xs : List A) (x : A) → IsAmong xs x → IsAmong (map f xs) (f x)
among-map f [] x m = absurd (among-nil x m)
among-map {A} {B} f (y ∷ ys) x m = elim (among-cons y ys x m) [
  | inl same ↦ subst (λ (z : A). IsAmong (f y ∷ map f ys) (f z)) (sym same) (among-first (f y) (map f ys))
  | inr rest ↦ among-rest (f y) (map f ys) (f x) (among-map f ys x rest)
]

pub map-among : {A B : Type 0} (f : A → B) (xs : List A) (y : B) → IsAmong (map f xs) y → (x : A) × IsAmong xs x × (y ≡ f x)
map-among f [] y m = absurd (among-nil y m)
map-among f (x ∷ xs) y m = elim (among-cons (f x) (map f xs) y m) [
  | inl same ↦ (x, among-first x xs, same)
  | inr rest ↦ (let found = map-among f xs y rest in (found.0, among-rest x xs found.0 found.1, found.2))
]

pub among-flat : {A B : Type 0} (f : A → List B) (xs : List A) (x : A) (y : B) → IsAmong xs x → IsAmong (f x) y → IsAmong (flat_map f xs) y
among-flat f [] x y m n = absurd (among-nil x m)
among-flat {A} {B} f (z ∷ zs) x y m n = elim (among-cons z zs x m) [
  | inl same ↦ among-left (f z) (flat_map f zs) y (subst (λ (w : A). IsAmong (f w) y) same n)
  | inr rest ↦ among-right (f z) (flat_map f zs) y (among-flat f zs x y rest n)
]

pub flat-among : {A B : Type 0} (f : A → List B) (xs : List A) (y : B) → IsAmong (flat_map f xs) y → (x : A) × IsAmong xs x × IsAmong (f x) y
flat-among f [] y m = absurd (among-nil y m)
flat-among f (x ∷ xs) y m = elim (among-either (f x) (flat_map f xs) y m) [
  | inl here ↦ (x, among-first x xs, here)
  | inr rest ↦ (let found = flat-among f xs y rest in (found.0, among-rest x xs found.0 found.1, found.2))
]

-- ---- what is put in order

among-put : {A : Type 0} (cmp : A → A → Ordering) (x : A) (ys : List A) (v : A) → IsAmong (x ∷ ys) v → IsAmong (put_sorted cmp x ys) v
among-put cmp x [] v m = m
among-put {A} cmp x (y ∷ ys) v m = elim (is_lt (cmp y x)) as (λ (b : Bool). IsAmong (if b then y ∷ put_sorted cmp x ys else x ∷ y ∷ ys) v) [
  | true ↦ elim (among-cons x (y ∷ ys) v m) [
    | inl same ↦ among-rest y (put_sorted cmp x ys) v (among-put cmp x ys v (subst (IsAmong (x ∷ ys)) (sym same) (among-first x ys)))
    | inr rest ↦ elim (among-cons y ys v rest) [
      | inl here ↦ subst (IsAmong (y ∷ put_sorted cmp x ys)) (sym here) (among-first y (put_sorted cmp x ys))
      | inr more ↦ among-rest y (put_sorted cmp x ys) v (among-put cmp x ys v (among-rest x ys v more))
    ]
  ]
  | false ↦ m
]

pub among-sorted : {A : Type 0} (cmp : A → A → Ordering) (xs : List A) (v : A) → IsAmong xs v → IsAmong (sorted cmp xs) v
among-sorted cmp [] v m = m
among-sorted {A} cmp (x ∷ xs) v m = elim (among-cons x xs v m) [
  | inl same ↦ among-put cmp x (sorted cmp xs) v (subst (IsAmong (x ∷ sorted cmp xs)) (sym same) (among-first x (sorted cmp xs)))
  | inr rest ↦ among-put cmp x (sorted cmp xs) v (among-rest x (sorted cmp xs) v (among-sorted cmp xs v rest))
]

pub sorted-among : {A : Type 0} (cmp : A → A → Ordering) (xs : List A) (v : A) → IsAmong (sorted cmp xs) v → IsAmong xs v
sorted-among cmp xs v m =
    All-among (IsAmong xs) (sorted cmp xs) v (All-from_recursion (IsAmong xs) (sorted cmp xs) (sorted-all cmp (IsAmong xs) xs (all-of (IsAmong xs) xs (λ x n. n)))) m

-- ---- entries whose keys are apart rise once they are sorted

abbrev pub by_key : Written → Written → Ordering
by_key a b = octets_cmp a.key b.key

abbrev pub Differ : Written → Written → Type 0
Differ a b = a.key ≢ b.key

put-rising : (x : Written) (ys : List Written) → AllByRecursion (Differ x) ys → Apart Below ys → Apart Below (put_sorted by_key x ys)
put-rising x [] all h = (tt, tt)
put-rising x (y ∷ ys) all h = elim (by_key y x) as (λ (o : Ordering). by_key y x ≡ o → Apart Below (if is_lt o then y ∷ put_sorted by_key x ys else x ∷ y ∷ ys)) [
  | Less ↦ λ e. (all-put by_key (Below y) x ys e h.0, put-rising x ys all.1 h.1)
  | Equal ↦ λ e. absurd (all.0 (sym (same-key y.key x.key (sym e))))
  | Greater ↦ λ e. (let less : Below x y = below-turned y.key x.key (sym e) in ((less, below-all x y ys less h.0), h))
] refl

pub sorted-rising : (ws : List Written) → Apart Differ ws → Apart Below (sorted by_key ws)
sorted-rising [] h = tt
sorted-rising (w ∷ ws) h = put-rising w (sorted by_key ws) (sorted-all by_key (Differ w) ws h.0) (sorted-rising ws h.1)

-- ---- numbers, each once

-- numbers that are apart, all among some: no more of them
pub no-more : (ns ks : List ℕ) → AllPairs (λ a b. a ≢ b) ns → ((n : ℕ) → IsAmong ns n → IsAmong ks n) → length ns ≤ length ks
no-more ns ks apart within =
    few-by (λ (k n : ℕ). nat_eq (get_or ns (k - 1) 0) n) (length ns) ks
    (λ j k x a b c d p q. one j k a b c d (eqb-true (get_or ns (j - 1) 0) x p ∙ sym (eqb-true (get_or ns (k - 1) 0) x q)))
    (λ k low high.
    let l : k - 1 < length ns = omega (arith, low, high) in
    (get_or ns (k - 1) 0, within (get_or ns (k - 1) 0) (at-place (k - 1) l), eq-eqb (get_or ns (k - 1) 0) (get_or ns (k - 1) 0) refl))
  where
    one : (j k : ℕ) → 1 ≤ j → j ≤ length ns → 1 ≤ k → k ≤ length ns → get_or ns (j - 1) 0 ≡ get_or ns (k - 1) 0 → j ≡ k
    one j k a b c d same = elim (cases_order j k) [
      | inl is ↦ is
      | inr (inl less) ↦ absurd (apart (j - 1) (k - 1) 0 (omega (arith, less, a)) (omega (arith, c, d)) same)
      | inr (inr more) ↦ absurd (apart (k - 1) (j - 1) 0 (omega (arith, more, c)) (omega (arith, a, b)) (sym same))
    ]

    at-place : (k : ℕ) → k < length ns → IsAmong ns (get_or ns k 0)
    at-place k l = (k, (l, same-default ns k 0 (get_or ns k 0) l))
      where
        same-default : (xs : List ℕ) (i d e : ℕ) → i < length xs → get_or xs i d ≡ get_or xs i e
        same-default [] i d e m = absurd (let no : ⊥ = omega (arith, m) in no)
        same-default (x ∷ xs) zero d e m = refl
        same-default (x ∷ xs) (suc i) d e m = same-default xs i d e (omega (arith, m))

-- the numbers from 1 to one
abbrev pub up_to : ℕ → List ℕ
up_to zero = []
up_to (suc n) = suc n ∷ up_to n

pub length-up_to : (n : ℕ) → length (up_to n) ≡ n
length-up_to zero = refl
length-up_to (suc n) = (let rest : length (up_to n) ≡ n = length-up_to n in omega (arith, rest))

pub among-up_to : (n k : ℕ) → 1 ≤ k → k ≤ n → IsAmong (up_to n) k
among-up_to zero k low high = absurd (let no : ⊥ = omega (arith, low, high) in no)
among-up_to (suc n) k low high = elim (cases_order k (suc n)) [
  | inl same ↦ subst (IsAmong (suc n ∷ up_to n)) (sym same) (among-first (suc n) (up_to n))
  | inr (inl less) ↦ among-rest (suc n) (up_to n) k (among-up_to n k low (omega (arith, less)))
  | inr (inr more) ↦ absurd (let no : ⊥ = omega (arith, more, high) in no)
]

-- n numbers from 1 to n that are apart are all of them: none is left out
pub none-out : (ns : List ℕ) (k : ℕ) → AllPairs (λ a b. a ≢ b) ns → ((n : ℕ) → IsAmong ns n → (1 ≤ n) × (n ≤ length ns)) → 1 ≤ k → k ≤ length ns
    → ((n : ℕ) → IsAmong ns n → n ≢ k) → ⊥
none-out ns k apart within low high out =
    let n : ℕ = length ns in
    let rest : List ℕ = filter (λ m. not (nat_eq k m)) (up_to n) in
    let less : length rest < length (up_to n) = fewer (nat_eq k) (up_to n) k (among-up_to n k low high) (eq-eqb k k refl) in
    let few : n ≤ length rest = no-more ns rest apart (λ m a.
    among-kept (λ j. not (nat_eq k j)) (up_to n) m (among-up_to n m (within m a).0 (within m a).1) (ap not (ne_eqb k m (λ same. out m a (sym same))))) in
    let long : length (up_to n) ≡ n = length-up_to n in
    omega (arith, less, few, long)

-- items that a number tells apart are one where it is one
pub one-of : {A : Type 0} (g : A → ℕ) (xs : List A) (a b : A) → AllPairs (λ x y. g x ≢ g y) xs → IsAmong xs a → IsAmong xs b → g a ≡ g b → a ≡ b
one-of {A} g xs a b apart m n same = elim (cases_order m.0 n.0) [
  | inl place ↦ m.1.1 ∙ place-same m.0 n.0 place m.1.0 ∙ sym n.1.1
  | inr (inl less) ↦ absurd (apart m.0 n.0 a less n.1.0 (sym (ap g m.1.1) ∙ same ∙ ap g n.1.1 ∙ ap g (default n.0 b a n.1.0)))
  | inr (inr more) ↦ absurd (apart n.0 m.0 a more m.1.0 (sym (ap g (default n.0 b a n.1.0)) ∙ sym (ap g n.1.1) ∙ sym same ∙ ap g m.1.1))
]
  where
    default : (k : ℕ) (d e : A) → k < length xs → get_or xs k d ≡ get_or xs k e
    default k d e l = any xs k d e l
      where
        any : (ys : List A) (i : ℕ) (p q : A) → i < length ys → get_or ys i p ≡ get_or ys i q
        any [] i p q r = absurd (let no : ⊥ = omega (arith, r) in no)
        any (y ∷ ys) zero p q r = refl
        any (y ∷ ys) (suc i) p q r = any ys i p q (omega (arith, r))

    place-same : (j k : ℕ) → j ≡ k → j < length xs → get_or xs j a ≡ get_or xs k b
    place-same j k e l = default j a b l ∙ ap (λ (i : ℕ). get_or xs i b) e
