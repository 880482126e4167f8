-- What a search for a header's number or an entry's place finds, and what the lists are with one more.
use Rattle.std.proofs.Common.{◌≡◌, ◌≢◌, ◌⊎◌, ◌<◌, ◌≤◌, ◌&&◌, ◌||◌, ℕ, Bool, true, false, nat_eq, nat_lt, suc, List, [], ◌∷◌, ◌++◌, length, get_or, refl, ap, sym, inl, inr, Option, Some, None, arith}
use Rattle.std.specs.List.{insert, AllPairs}
use Rattle.std.specs.Prelude.{option_map}
use Rattle.std.specs.List.Sorted.{IsPartitionedBy, IsPartitionPoint}
use Rattle.std.proofs.lemmas.List.Elements.{recursion_from_All}
use Rattle.std.proofs.lemmas.Bool.{lt-ltb, eq-eqb, ne_eqb}
use Rattle.std.proofs.lemmas.Bool.Decides.{nat_tests}
use Rattle.im_model.specs.declared.headers.Header.{Header}
use Rattle.im_facts.specs.Facts.{known_header, entry_at, is_lower, is_level, is_before, is_beside, with_fact, with_facts, IsBefore}
use Rattle.im_facts.specs.declared.facts.EntryFact.{EntryFact}
use Rattle.im_facts.proofs.OrderLemmas.{Rises, put-rises}
use Rattle.im_facts.proofs.PlaceLemmas.{header-order, entry-order, header-pairs}
use Rattle.im_facts.proofs.WalkLemmas.{parted, find-there, find-none, put-inserts, put-stays}

-- headers that rise, by the test
pub lower-pairs : (xs : List Header) → AllPairs (λ (a b : Header). a.id < b.id) xs → AllPairs (λ (a b : Header). is_lower a b ≡ true) xs
lower-pairs xs h = λ i j d lt within. lt-ltb (get_or xs i d).id (get_or xs j d).id (h i j d lt within)

before-test : (t i u j : ℕ) → (t < u) ⊎ ((t ≡ u) × (i < j)) → (nat_lt t u || (nat_eq t u && nat_lt i j)) ≡ true
before-test t i u j (inl lt) = grind (arith, nat_tests)
before-test t i u j (inr both) = let e : t ≡ u = both.0 in let lt : i < j = both.1 in grind (arith, nat_tests)

-- entries that rise, by the test
pub before-pairs : (xs : List EntryFact) → AllPairs IsBefore xs → AllPairs (λ (a b : EntryFact). is_before a b ≡ true) xs
before-pairs xs h = λ i j d lt within. before-test (get_or xs i d).tx (get_or xs i d).index (get_or xs j d).tx (get_or xs j d).index (h i j d lt within)

-- the place of a header
abbrev pub HeaderPoint : List Header → Header → ℕ → Type 0
HeaderPoint xs h i = IsPartitionPoint (λ (y : Header). is_lower y h ≡ true) (λ (y : Header). is_lower y h ≡ false) xs i

-- the place of an entry
abbrev pub EntryPoint : List EntryFact → EntryFact → ℕ → Type 0
EntryPoint xs f i = IsPartitionPoint (λ (y : EntryFact). is_before y f ≡ true) (λ (y : EntryFact). is_before y f ≡ false) xs i

pub headers-parted : (xs : List Header) (h : Header) → AllPairs (λ (a b : Header). a.id < b.id) xs → IsPartitionedBy (λ (y : Header). is_lower y h) xs
headers-parted xs h rises = parted Header is_lower is_level header-order xs h (lower-pairs xs rises)

pub entries-parted : (xs : List EntryFact) (f : EntryFact) → AllPairs IsBefore xs → IsPartitionedBy (λ (y : EntryFact). is_before y f) xs
entries-parted xs f rises = parted EntryFact is_before is_beside entry-order xs f (before-pairs xs rises)

-- a header is found at its place
pub header-there : (xs : List Header) (h : Header) (i : ℕ) (d : Header) → i < length xs → HeaderPoint xs h i → (get_or xs i d).id ≡ h.id → Some (get_or xs i d) ≡ known_header xs h.id
header-there xs h i d within point e = sym (find-there Header is_lower is_level header-order xs h i d within point (eq-eqb (get_or xs i d).id h.id e))

-- or there is none
pub header-none : (xs : List Header) (h : Header) (i : ℕ) (d : Header) → AllPairs (λ (a b : Header). a.id < b.id) xs → HeaderPoint xs h i → (i < length xs → (get_or xs i d).id ≢ h.id) → None ≡ known_header xs h.id
header-none xs h i d rises point ne =
    sym (find-none Header is_lower is_level header-order xs h i d (lower-pairs xs rises) point (λ within. ne_eqb (get_or xs i d).id h.id (ne within)))

-- one of a new number is inserted
pub header-inserts : (xs : List Header) (h : Header) (i : ℕ) → i ≤ length xs → HeaderPoint xs h i → ((d : Header) → i < length xs → (get_or xs i d).id ≢ h.id) → insert xs i h ≡ with_fact is_lower is_level xs h
header-inserts xs h i le point ne =
    sym (put-inserts Header is_lower is_level header-order xs h i le point (λ d within. ne_eqb (get_or xs i d).id h.id (ne d within)))

-- one of a number that is kept isn't
pub header-stays : (xs : List Header) (h : Header) (i : ℕ) (d : Header) → i < length xs → HeaderPoint xs h i → (get_or xs i d).id ≡ h.id → xs ≡ with_fact is_lower is_level xs h
header-stays xs h i d within point e =
    sym (put-stays Header is_lower is_level header-order xs h i d within point (eq-eqb (get_or xs i d).id h.id e))

-- an entry is found at its place
pub entry-there : (xs : List EntryFact) (f : EntryFact) (i : ℕ) (d : EntryFact) → i < length xs → EntryPoint xs f i → is_beside (get_or xs i d) f ≡ true → Some (get_or xs i d).entry ≡ entry_at xs f.tx f.index
entry-there xs f i d within point e =
    ap (λ (r : Option EntryFact). option_map (λ (k : EntryFact). k.entry) r) (sym (find-there EntryFact is_before is_beside entry-order xs f i d within point e))

-- or there is none
pub entry-none : (xs : List EntryFact) (f : EntryFact) (i : ℕ) (d : EntryFact) → AllPairs IsBefore xs → EntryPoint xs f i → (i < length xs → is_beside (get_or xs i d) f ≡ false) → None ≡ entry_at xs f.tx f.index
entry-none xs f i d rises point ne =
    ap (λ (r : Option EntryFact). option_map (λ (k : EntryFact). k.entry) r)
    (sym (find-none EntryFact is_before is_beside entry-order xs f i d (before-pairs xs rises) point ne))

-- one of a new place is inserted
pub entry-inserts : (xs : List EntryFact) (f : EntryFact) (i : ℕ) → i ≤ length xs → EntryPoint xs f i → ((d : EntryFact) → i < length xs → is_beside (get_or xs i d) f ≡ false) → insert xs i f ≡ with_fact is_before is_beside xs f
entry-inserts xs f i le point ne = sym (put-inserts EntryFact is_before is_beside entry-order xs f i le point ne)

-- one of a place that is kept isn't
pub entry-stays : (xs : List EntryFact) (f : EntryFact) (i : ℕ) (d : EntryFact) → i < length xs → EntryPoint xs f i → is_beside (get_or xs i d) f ≡ true → xs ≡ with_fact is_before is_beside xs f
entry-stays xs f i d within point e = sym (put-stays EntryFact is_before is_beside entry-order xs f i d within point e)

rises-from : (X : Type 0) (before : X → X → Bool) (xs : List X) → AllPairs (λ a b. before a b ≡ true) xs → Rises X before xs
rises-from X before [] pairs = tt
rises-from X before (x ∷ xs) pairs = (
  recursion_from_All (λ y. before x y ≡ true) xs (λ k d within. pairs 0 (suc k) d (omega arith) (omega arith)),
  rises-from X before xs (λ i j d lt within. pairs (suc i) (suc j) d (omega arith) (omega arith)),
)

-- headers rise with one more
pub header-rises : (xs : List Header) (h : Header) → AllPairs (λ (a b : Header). a.id < b.id) xs → AllPairs (λ (a b : Header). a.id < b.id) (with_fact is_lower is_level xs h)
header-rises xs h pairs =
    header-pairs (with_fact is_lower is_level xs h) (put-rises Header is_lower is_level header-order xs h (rises-from Header is_lower xs (lower-pairs xs pairs)))

-- facts with several and one more
pub facts-push : {X : Type 0} (before beside : X → X → Bool) (xs hs : List X) (h : X) → with_facts before beside xs (hs ++ h ∷ []) ≡ with_fact before beside (with_facts before beside xs hs) h
facts-push before beside xs [] h = refl
facts-push before beside xs (k ∷ hs) h = facts-push before beside (with_fact before beside xs k) hs h
