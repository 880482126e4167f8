-- Headers by their numbers, and entries by their places, are in an order.
use Rattle.std.proofs.Common.{◌≡◌, ◌⊎◌, ◌<◌, ◌&&◌, ◌||◌, ℕ, Bool, true, false, nat_eq, nat_lt, List, [], ◌∷◌, refl, inl, inr, arith}
use Rattle.std.specs.List.{AllPairs}
use Rattle.std.proofs.lemmas.Bool.{ltb-true}
use Rattle.std.proofs.lemmas.Bool.Decides.{nat_tests}
use Rattle.std.proofs.lemmas.List.Elements.{All-from_recursion}
use Rattle.std.proofs.lemmas.List.Kept.{AllPairs-cons}
use Rattle.im_model.specs.declared.headers.Header.{Header}
use Rattle.im_facts.specs.Facts.{is_lower, is_level, is_before, is_beside, IsBefore}
use Rattle.im_facts.specs.declared.facts.EntryFact.{EntryFact}
use Rattle.im_facts.proofs.OrderLemmas.{IsOrder, Rises, each-weaker}

lower-on : (a b c : ℕ) → nat_lt a b ≡ true → nat_lt b c ≡ true → nat_lt a c ≡ true
lower-on a b c p q = grind (arith, nat_tests)

lower-apart : (a b : ℕ) → nat_lt a b ≡ true → nat_eq a b ≡ true → ⊥
lower-apart a b p q = grind (arith, nat_tests)

lower-after : (a b : ℕ) → nat_lt a b ≡ false → nat_eq a b ≡ false → nat_lt b a ≡ true
lower-after a b p q = grind (arith, nat_tests)

level-back : (a b : ℕ) → nat_eq a b ≡ true → nat_eq b a ≡ true
level-back a b p = grind (arith, nat_tests)

level-along : (a b c : ℕ) → nat_eq a b ≡ true → nat_eq b c ≡ true → nat_eq a c ≡ true
level-along a b c p q = grind (arith, nat_tests)

pub level-itself : (a : ℕ) → nat_eq a a ≡ true
level-itself a = grind (arith, nat_tests)

-- of headers
pub header-order : IsOrder Header is_lower is_level
header-order = record {
  on = λ a b c p q. lower-on a.id b.id c.id p q;
  apart = λ a b p q. lower-apart a.id b.id p q;
  after = λ a b p q. lower-after a.id b.id p q;
  back = λ a b p. level-back a.id b.id p;
  along = λ a b c p q. level-along a.id b.id c.id p q;
  itself = λ a. level-itself a.id;
}

before-on : (t i u j v k : ℕ) → (nat_lt t u || (nat_eq t u && nat_lt i j)) ≡ true → (nat_lt u v || (nat_eq u v && nat_lt j k)) ≡ true → (nat_lt t v || (nat_eq t v && nat_lt i k)) ≡ true
before-on t i u j v k p q = grind (arith, nat_tests)

before-apart : (t i u j : ℕ) → (nat_lt t u || (nat_eq t u && nat_lt i j)) ≡ true → (nat_eq t u && nat_eq i j) ≡ true → ⊥
before-apart t i u j p q = grind (arith, nat_tests)

before-after : (t i u j : ℕ) → (nat_lt t u || (nat_eq t u && nat_lt i j)) ≡ false → (nat_eq t u && nat_eq i j) ≡ false → (nat_lt u t || (nat_eq u t && nat_lt j i)) ≡ true
before-after t i u j p q = grind (arith, nat_tests)

beside-back : (t i u j : ℕ) → (nat_eq t u && nat_eq i j) ≡ true → (nat_eq u t && nat_eq j i) ≡ true
beside-back t i u j p = grind (arith, nat_tests)

beside-along : (t i u j v k : ℕ) → (nat_eq t u && nat_eq i j) ≡ true → (nat_eq u v && nat_eq j k) ≡ true → (nat_eq t v && nat_eq i k) ≡ true
beside-along t i u j v k p q = grind (arith, nat_tests)

beside-itself : (t i : ℕ) → (nat_eq t t && nat_eq i i) ≡ true
beside-itself t i = grind (arith, nat_tests)

-- of entries
pub entry-order : IsOrder EntryFact is_before is_beside
entry-order = record {
  on = λ a b c p q. before-on a.tx a.index b.tx b.index c.tx c.index p q;
  apart = λ a b p q. before-apart a.tx a.index b.tx b.index p q;
  after = λ a b p q. before-after a.tx a.index b.tx b.index p q;
  back = λ a b p. beside-back a.tx a.index b.tx b.index p;
  along = λ a b c p q. beside-along a.tx a.index b.tx b.index c.tx c.index p q;
  itself = λ a. beside-itself a.tx a.index;
}

-- two facts of one place
pub beside-parts : (t i u j : ℕ) → (nat_eq t u && nat_eq i j) ≡ true → (t ≡ u) × (i ≡ j)
beside-parts t i u j p = (tx, index)
  where
    tx : t ≡ u
    tx = grind (arith, nat_tests)

    index : i ≡ j
    index = grind (arith, nat_tests)

before-parts : (t i u j : ℕ) → (nat_lt t u || (nat_eq t u && nat_lt i j)) ≡ true → (t < u) ⊎ ((t ≡ u) × (i < j))
before-parts t i u j p = go (nat_lt t u) refl
  where
    go : (b : Bool) → nat_lt t u ≡ b → (t < u) ⊎ ((t ≡ u) × (i < j))
    go true e = inl (ltb-true t u e)
    go false e =
        let same : t ≡ u = grind (arith, nat_tests) in
        let low : i < j = grind (arith, nat_tests) in
        inr (same, low)

-- numbers of headers that rise
pub header-pairs : (xs : List Header) → Rises Header is_lower xs → AllPairs (λ (a b : Header). a.id < b.id) xs
header-pairs [] h = λ i j d lt within. absurd (omega arith)
header-pairs (x ∷ xs) h =
    AllPairs-cons (λ (a b : Header). a.id < b.id) x xs
    (All-from_recursion (λ (b : Header). x.id < b.id) xs (each-weaker (λ (b : Header). nat_lt x.id b.id ≡ true) (λ (b : Header). x.id < b.id) (λ b e. ltb-true x.id b.id e) xs h.0))
    (header-pairs xs h.1)

-- places of entries that rise
pub entry-pairs : (xs : List EntryFact) → Rises EntryFact is_before xs → AllPairs IsBefore xs
entry-pairs [] h = λ i j d lt within. absurd (omega arith)
entry-pairs (x ∷ xs) h =
    AllPairs-cons IsBefore x xs
    (All-from_recursion (λ (b : EntryFact). IsBefore x b) xs
    (each-weaker (λ (b : EntryFact). is_before x b ≡ true) (λ (b : EntryFact). IsBefore x b) (λ b e. before-parts x.tx x.index b.tx b.index e) xs h.0))
    (entry-pairs xs h.1)
