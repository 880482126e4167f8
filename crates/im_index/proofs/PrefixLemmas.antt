-- Keys that begin with a prefix stand beside each other in the order of keys.
use Rattle.std.proofs.Common.{◌≡◌, ◌<◌, ◌≤◌, ℕ, Bool, true, false, ◌&&◌, cond, List, [], ◌∷◌, ◌++◌, ◌+◌, ◌-◌, length, get_or, take, drop, nat_le, nat_eq, refl, arith, ap, sym, subst, ◌∙◌, inl, inr}
use Rattle.std.proofs.lemmas.Bool.{and_parts, both_ways, cases_order, eq-eqb, eqb-true, false_from_ne_true, false≢true, le-ltb, leb-true, lt-ltb, true≢false}
use Rattle.std.proofs.lemmas.List.{append-nil, get_or-drop, get_or-take, length-drop, length-take, take-append-drop}
use Rattle.std.proofs.lemmas.List.Elements.{filter-append}
use Rattle.std.specs.Cmp.Lexicographic.{slice_cmp}
use Rattle.std.specs.List.{All, AllWithin, filter}
use Rattle.std.specs.List.Sorted.{IsSorted}
use Rattle.std.specs.Ordering.{is_lt, nat_cmp, ordering_then}
use Rattle.std.specs.declared.cmp.Ordering.{Ordering}
use Rattle.std.specs.declared.cmp.Ordering.TheVariants.{Less, Equal, Greater}
use Rattle.im_versions.specs.Versions.{begins_with}
use Rattle.im_versions.specs.declared.versions.Version.{Version}
use Rattle.im_versions.proofs.ListLemmas.{filter-all, filter-none}
use Rattle.im_index.specs.Marks.{is_upto, numbered, upto_by}
use Rattle.im_index.proofs.FoundLemmas.{IsPlace}
use Rattle.im_index.proofs.OrderLemmas.{no-lower}

pub nat-equal : (a : ℕ) → nat_cmp a a ≡ Equal
nat-equal a =
    ap (λ t. cond t Less (cond (nat_eq a a) Equal Greater)) (le-ltb a a (omega arith))
    ∙ ap (λ t. cond t Equal Greater) (eq-eqb a a refl)

pub nat-less : (a b : ℕ) → a < b → nat_cmp a b ≡ Less
nat-less a b less = ap (λ t. cond t Less (cond (nat_eq a b) Equal Greater)) (lt-ltb a b less)

-- a key that begins with a prefix isn't below it
pub begun-not-below : (prefix key : List ℕ) → begins_with prefix key ≡ true → is_lt (slice_cmp nat_cmp key prefix) ≡ false
begun-not-below [] [] begins = refl
begun-not-below [] (k ∷ ks) begins = refl
begun-not-below (p ∷ ps) [] begins = absurd (false≢true begins)
begun-not-below (p ∷ ps) (k ∷ ks) begins =
    let both : (nat_eq p k ≡ true) × (begins_with ps ks ≡ true) = and_parts (nat_eq p k) (begins_with ps ks) begins in
    let same : p ≡ k = eqb-true p k both.0 in
    ap (λ x. is_lt (ordering_then (nat_cmp k x) (slice_cmp nat_cmp ks ps))) same
    ∙ ap (λ o. is_lt (ordering_then o (slice_cmp nat_cmp ks ps))) (nat-equal k)
    ∙ begun-not-below ps ks both.1

-- a key that neither begins with a prefix nor is below it is above each that begins with it
pub begun-below-others : (prefix a b : List ℕ) → begins_with prefix a ≡ false → is_lt (slice_cmp nat_cmp a prefix) ≡ false → begins_with prefix b ≡ true
    → is_lt (slice_cmp nat_cmp b a) ≡ true
begun-below-others [] a b apart low begins = absurd (false≢true (sym apart))
begun-below-others (p ∷ ps) a [] apart low begins = absurd (false≢true begins)
begun-below-others (p ∷ ps) [] (y ∷ ys) apart low begins = absurd (false≢true (sym low))
begun-below-others (p ∷ ps) (x ∷ xs) (y ∷ ys) apart low begins =
    let both : (nat_eq p y ≡ true) × (begins_with ps ys ≡ true) = and_parts (nat_eq p y) (begins_with ps ys) begins in
    let same : p ≡ y = eqb-true p y both.0 in
    elim (cases_order x p) [
      | inl one ↦ (
          let rest : begins_with ps xs ≡ false = ap (λ t. t && begins_with ps xs) (sym (eq-eqb p x (sym one))) ∙ apart in
          let below : is_lt (slice_cmp nat_cmp xs ps) ≡ false =
          ap (λ o. is_lt (ordering_then o (slice_cmp nat_cmp xs ps))) (sym (nat-equal x) ∙ ap (nat_cmp x) one) ∙ low in
          ap (λ o. is_lt (ordering_then o (slice_cmp nat_cmp ys xs))) (ap (λ z. nat_cmp z x) (sym same ∙ sym one) ∙ nat-equal x)
          ∙ begun-below-others ps xs ys rest below both.1)
      | inr other ↦ elim other [
        | inl less ↦ absurd (false≢true (sym low ∙ ap (λ o. is_lt (ordering_then o (slice_cmp nat_cmp xs ps))) (nat-less x p less)))
        | inr more ↦ (
            let up : y < x = omega arith in
            ap (λ o. is_lt (ordering_then o (slice_cmp nat_cmp ys xs))) (nat-less y x up))
      ]
    ]

less-then : (o p : Ordering) → is_lt o ≡ true → is_lt (ordering_then o p) ≡ true
less-then Less p h = refl
less-then Equal p h = absurd (false≢true h)
less-then Greater p h = absurd (false≢true h)

-- what stands before number 0 of a prefix is below it
before-below : (prefix : List ℕ) (v : Version) → 0 < v.tx → is_upto prefix 0 v ≡ true → is_lt (slice_cmp nat_cmp v.key prefix) ≡ true
before-below prefix v some up = go (slice_cmp nat_cmp v.key prefix) up
  where
    go : (o : Ordering) → upto_by o (nat_le v.tx 0) ≡ true → is_lt o ≡ true
    go Less u = refl
    go Equal u = absurd (let none : v.tx ≤ 0 = leb-true v.tx 0 u in omega arith)
    go Greater u = absurd (false≢true u)

-- and what stands behind it isn't
behind-not-below : (prefix : List ℕ) (v : Version) → is_upto prefix 0 v ≡ false → is_lt (slice_cmp nat_cmp v.key prefix) ≡ false
behind-not-below prefix v behind = go (slice_cmp nat_cmp v.key prefix) behind
  where
    go : (o : Ordering) → upto_by o (nat_le v.tx 0) ≡ false → is_lt o ≡ false
    go Less u = absurd (true≢false u)
    go Equal u = refl
    go Greater u = refl

-- the versions in front of those behind the place whose keys begin with the prefix are all of them
pub begun-span : (prefix : List ℕ) (run : List Version) (from count : ℕ) → IsSorted numbered run → All (λ (v : Version). 0 < v.tx) run
    → from ≤ length run → IsPlace prefix 0 run from → count ≤ length (drop from run)
    → AllWithin (λ (v : Version). begins_with prefix v.key ≡ true) (drop from run) 0 count
    → ((d : Version) → count < length (drop from run) → begins_with prefix (get_or (drop from run) count d).key ≡ false)
    → take count (drop from run) ≡ filter (λ (v : Version). begins_with prefix v.key) run
begun-span prefix run from count sorted some within point inside front next =
    let p : Version → Bool = λ v. begins_with prefix v.key in
    let behind : List Version = drop from run in
    let low : filter p (take from run) ≡ [] = filter-none p (take from run) (λ k d l.
    let here : k < from = omega (arith, length-take from run) in
    subst (λ (v : Version). p v ≡ false) (sym (get_or-take from run k d here))
    (false_from_ne_true (p (get_or run k d)) (λ begins.
    both_ways (is_lt (slice_cmp nat_cmp (get_or run k d).key prefix)) (begun-not-below prefix (get_or run k d).key begins)
    (before-below prefix (get_or run k d) (some k d (omega arith)) (point.0 k d (omega arith) here))))) in
    let mid : filter p (take count behind) ≡ take count behind = filter-all p (take count behind) (λ k d l.
    let here : k < count = omega (arith, length-take count behind) in
    subst (λ (v : Version). p v ≡ true) (sym (get_or-take count behind k d here)) (front k d (omega arith) here)) in
    let high : filter p (drop count behind) ≡ [] = filter-none p (drop count behind) (λ k d l.
    let size : length behind ≡ length run - from = length-drop from run in
    let here : count + k < length behind = omega (arith, length-drop count behind) in
    let a : Version = get_or run (from + count) d in
    let b : Version = get_or run (from + (count + k)) d in
    let other : p a ≡ false = ap p (sym (get_or-drop from run count d)) ∙ next d (omega arith) in
    let above : is_lt (slice_cmp nat_cmp a.key prefix) ≡ false = behind-not-below prefix a (point.1 (from + count) d (omega arith) (omega arith)) in
    let order : is_lt (numbered b a) ≡ false = no-lower run (from + count) (from + (count + k)) d sorted (omega arith) (omega arith) in
    subst (λ (v : Version). p v ≡ false) (sym (get_or-drop count behind k d ∙ get_or-drop from run (count + k) d))
    (false_from_ne_true (p b) (λ begins.
    both_ways (is_lt (numbered b a)) order
    (less-then (slice_cmp nat_cmp b.key a.key) (nat_cmp b.tx a.tx) (begun-below-others prefix a.key b.key other above begins))))) in
    sym (ap (filter p) (sym (take-append-drop from run))
    ∙ filter-append p (take from run) behind
    ∙ ap (λ vs. vs ++ filter p behind) low
    ∙ ap (filter p) (sym (take-append-drop count behind))
    ∙ filter-append p (take count behind) (drop count behind)
    ∙ ap (λ vs. filter p (take count behind) ++ vs) high
    ∙ append-nil (filter p (take count behind))
    ∙ mid)

-- the same of a list that is the versions behind the place
pub begun-slice : (prefix : List ℕ) (run : List Version) (from count : ℕ) (behind : List Version) → IsSorted numbered run
    → All (λ (v : Version). 0 < v.tx) run → from ≤ length run → IsPlace prefix 0 run from → behind ≡ drop from run → count ≤ length behind
    → AllWithin (λ (v : Version). begins_with prefix v.key ≡ true) behind 0 count
    → ((d : Version) → count < length behind → begins_with prefix (get_or behind count d).key ≡ false)
    → take count behind ≡ filter (λ (v : Version). begins_with prefix v.key) run
begun-slice prefix run from count behind sorted some within point same =
    subst (λ (vs : List Version). count ≤ length vs → AllWithin (λ (v : Version). begins_with prefix v.key ≡ true) vs 0 count
    → ((d : Version) → count < length vs → begins_with prefix (get_or vs count d).key ≡ false)
    → take count vs ≡ filter (λ (v : Version). begins_with prefix v.key) run)
    (sym same) (begun-span prefix run from count sorted some within point)
