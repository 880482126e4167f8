-- In rising keys those of a front stand beside each other.
use Rattle.std.proofs.Common.{◌≡◌, ◌≤◌, ◌<◌, ◌+◌, ◌-◌, min, ℕ, inl, inr, Bool, true, false, List, [], ◌∷◌, ◌++◌, length, take, drop, filter, get_or, AllPairs, refl, sym, ap, ◌∙◌, subst, arith}
use Rattle.std.proofs.lemmas.Bool.{true≢false, cases_eq, false_from_ne_true}
use Rattle.std.proofs.lemmas.List.{get_or-take, get_or-drop, length-take, length-drop, take-append-drop}
use Rattle.std.proofs.lemmas.List.Elements.{filter-append}
use Rattle.std.specs.Cmp.{nat_cmp_is, ranks}
use Rattle.std.specs.List.Sorted.{IsPartitionPoint, IsPartitionedBy}
use Rattle.std.specs.Ordering.{is_lt, nat_cmp, ordering_then, MatchOrdering}
use Rattle.std.specs.declared.cmp.Ordering.{Ordering}
use Rattle.std.specs.declared.cmp.Ordering.TheVariants.{Less, Equal, Greater}
use Rattle.im_versions.specs.Versions.{begins_with, IsBelow}
use Rattle.im_versions.specs.declared.versions.Version.{Version}
use Rattle.im_versions.proofs.ListLemmas.{filter-none}
use Rattle.im_versions.proofs.ScanLemmas.{below-trans}
use Rattle.im_sqltype.specs.Orders.{octets_cmp}
use Rattle.im_catalog.proofs.FoundLemmas.{begins-is}
use Rattle.im_catalog.proofs.FrontLemmas.{begins-from}
use Rattle.im_sqlsound.specs.Sounding.{under}
use Rattle.im_sqlsound.proofs.TurnLemmas.{take-filter}

pub is-less : (o : Ordering) → is_lt o ≡ true → o ≡ Less
is-less Less e = refl
is-less Equal e = absurd (true≢false (sym e))
is-less Greater e = absurd (true≢false (sym e))

-- a longer key isn't below its front
beyond-front : (front rest : List ℕ) → IsBelow (front ++ rest) front → ⊥
beyond-front [] [] e = (let no : ⊥ = cc in no)
beyond-front [] (x ∷ xs) e = (let no : ⊥ = cc in no)
beyond-front (f ∷ fs) rest e = beyond-front fs rest (sym (ap (λ (o : Ordering). ordering_then o (octets_cmp (fs ++ rest) fs)) (sym (nat_cmp_is f f Equal refl))) ∙ e)

-- a key that is not below a front, and below a longer one, begins with it
between : (front a rest : List ℕ) → (IsBelow a front → ⊥) → IsBelow a (front ++ rest) → (more : List ℕ) × (a ≡ front ++ more)
between [] a rest high low = (a, refl)
between (f ∷ fs) [] rest high low = absurd (high refl)
between (f ∷ fs) (x ∷ xs) rest high low = elim (nat_cmp x f) as (λ (o : Ordering). nat_cmp x f ≡ o → (more : List ℕ) × (x ∷ xs ≡ f ∷ (fs ++ more))) [
  | Less ↦ λ e. absurd (high (ap (λ (o : Ordering). ordering_then o (octets_cmp xs fs)) e))
  | Greater ↦ λ e. absurd (let no : ⊥ = (let turned : Greater ≡ Less = sym (ap (λ (o : Ordering). ordering_then o (octets_cmp xs (fs ++ rest))) e) ∙ low in cc) in no)
  | Equal ↦ λ e. (
      let same : x ≡ f = subst (λ (o : Ordering). MatchOrdering o (x < f) (x ≡ f) (f < x)) e (ranks x f) in
      let found = between fs xs rest (λ below. high (ap (λ (o : Ordering). ordering_then o (octets_cmp xs fs)) e ∙ below))
      (sym (ap (λ (o : Ordering). ordering_then o (octets_cmp xs (fs ++ rest))) e) ∙ low) in
      (found.0, λ i. same i ∷ found.1 i))
] refl

module _ (front : List ℕ) where
  -- a key below the front, and one that begins with it
  abbrev pub is_before : Version → Bool
  is_before v = is_lt (octets_cmp v.key front)

  abbrev pub is_under : Version → Bool
  is_under v = begins_with front v.key

  before-under : (v : Version) → is_before v ≡ true → is_under v ≡ false
  before-under v before = false_from_ne_true (is_under v) (λ begins.
      beyond-front front (drop (length front) v.key) (subst (λ (k : List ℕ). IsBelow k front) (begins-is front v.key begins) (is-less (octets_cmp v.key front) before)))

  module _ (shown : List Version) (rising : AllPairs (λ a b. IsBelow a.key b.key) shown) where
    pub parted-before : IsPartitionedBy is_before shown
    parted-before i j d up l passes = elim (cases_eq i j) [
      | inl same ↦ subst (λ (k : ℕ). is_before (get_or shown k d) ≡ true) (sym same) passes
      | inr other ↦
          ap is_lt (below-trans (get_or shown i d).key (get_or shown j d).key front (rising i j d (omega (arith, up, other)) l) (is-less (octets_cmp (get_or shown j d).key front) passes))
    ]

    -- of those that aren't below the front
    pub parted-under : ((k : ℕ) (d : Version) → k < length shown → is_before (get_or shown k d) ≡ false) → IsPartitionedBy is_under shown
    parted-under none i j d up l begins = elim (cases_eq i j) [
      | inl same ↦ subst (λ (k : ℕ). is_under (get_or shown k d) ≡ true) (sym same) begins
      | inr other ↦ (
          let a : List ℕ = (get_or shown i d).key in
          let b : List ℕ = (get_or shown j d).key in
          let below : IsBelow a b = rising i j d (omega (arith, up, other)) l in
          let longer : IsBelow a (front ++ drop (length front) b) = subst (IsBelow a) (begins-is front b begins) below in
          let found = between front a (drop (length front) b) (λ less. true≢false (sym (ap is_lt less) ∙ none i d (omega (arith, up, l)))) longer in
          begins-from front found.0 a found.1)
    ]

  pub rising-behind : (shown : List Version) (from : ℕ) → AllPairs (λ a b. IsBelow a.key b.key) shown → AllPairs (λ a b. IsBelow a.key b.key) (drop from shown)
  rising-behind shown from rising = λ i j d less l.
      let long : length (drop from shown) ≡ length shown - from = length-drop from shown in
      subst (λ (a : Version). IsBelow a.key (get_or (drop from shown) j d).key) (sym (get_or-drop from shown i d))
      (subst (λ (b : Version). IsBelow (get_or shown (from + i) d).key b.key) (sym (get_or-drop from shown j d))
      (rising (from + i) (from + j) d (omega (arith, less)) (omega (arith, l, long))))

  pub none-before : (shown : List Version) (from : ℕ) → IsPartitionPoint (λ v. is_before v ≡ true) (λ v. is_before v ≡ false) shown from → (k : ℕ) (d : Version) → k < length (drop from shown)
      → is_before (get_or (drop from shown) k d) ≡ false
  none-before shown from point k d l =
      let long : length (drop from shown) ≡ length shown - from = length-drop from shown in
      subst (λ (v : Version). is_before v ≡ false) (sym (get_or-drop from shown k d)) (point.1 (from + k) d (omega arith) (omega (arith, l, long)))

  -- the two places give what is under the front
  pub under-is : (shown : List Version) (from count : ℕ) → from ≤ length shown → count ≤ length (drop from shown)
      → IsPartitionPoint (λ v. is_before v ≡ true) (λ v. is_before v ≡ false) shown from → IsPartitionPoint (λ v. is_under v ≡ true) (λ v. is_under v ≡ false) (drop from shown) count
      → take count (drop from shown) ≡ under front shown
  under-is shown from count within few point inner =
      let front_none : filter is_under (take from shown) ≡ [] = filter-none is_under (take from shown) (λ k d l.
      let long : length (take from shown) ≡ min from (length shown) = length-take from shown in
      let less : k < from = omega (arith, l, long) in
      before-under (get_or (take from shown) k d)
      (subst (λ (v : Version). is_before v ≡ true) (sym (get_or-take from shown k d less)) (point.0 k d (omega arith) less))) in
      take-filter is_under (drop from shown) count (λ j d l m. inner.0 j d (omega arith) l) (λ j d l m. inner.1 j d l m)
      ∙ sym (ap (filter is_under) (sym (take-append-drop from shown)) ∙ filter-append is_under (take from shown) (drop from shown)
      ∙ ap (λ (vs : List Version). vs ++ filter is_under (drop from shown)) front_none)

  -- as a slice from the first place gives what is behind it
  pub under-rest : (shown rest : List Version) (from count : ℕ) → rest ≡ drop from shown → AllPairs (λ a b. IsBelow a.key b.key) shown → from ≤ length shown
      → IsPartitionPoint (λ v. is_before v ≡ true) (λ v. is_before v ≡ false) shown from → count ≤ length rest
      → (IsPartitionedBy is_under rest → IsPartitionPoint (λ v. is_under v ≡ true) (λ v. is_under v ≡ false) rest count) → take count rest ≡ under front shown
  under-rest shown rest from count same rising within point =
      subst (λ (vs : List Version). count ≤ length vs → (IsPartitionedBy is_under vs → IsPartitionPoint (λ v. is_under v ≡ true) (λ v. is_under v ≡ false) vs count) → take count vs ≡ under front shown)
      (sym same) (λ few turn. under-is shown from count within few point (turn (parted-under (drop from shown) (rising-behind shown from rising) (none-before shown from point))))
