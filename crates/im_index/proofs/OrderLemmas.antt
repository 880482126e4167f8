-- Versions sorted by key, with those of one key in the order of their numbers, are sorted by key and number.
use Rattle.std.proofs.Common.{◌≡◌, ◌<◌, ◌≤◌, ◌+◌, ℕ, Bool, true, false, not, ◌&&◌, cond, List, [], ◌++◌, length, get_or, nat_le, nat_lt, nat_eq, ltb, refl, arith, ap, sym, ◌∙◌, inl, inr}
use Rattle.std.proofs.lemmas.Bool.{and_from, cases_order, eq-eqb, le-leb, le-ltb, leb-true, lt-leb, lt-ltb, ltb-false, ne_eqb}
use Rattle.std.proofs.lemmas.Cmp.{nat_cmp_total, nat_list_cmp_total, on_total, then_total, tied_back, upto}
use Rattle.std.proofs.lemmas.List.{get_or_append_left, get_or-append-add, length-append}
use Rattle.std.proofs.lemmas.List.Elements.{filter_agree}
use Rattle.std.proofs.lemmas.List.Sorted.{IsStrictWeakOrder-by_number, ranks_by, sorted_far, ties_stay_sorted}
use Rattle.std.proofs.lemmas.Map.Text.{is_eq-slice_cmp}
use Rattle.std.specs.Cmp.{IsStrictWeakOrder, IsTotalOrder}
use Rattle.std.specs.Cmp.Lexicographic.{slice_cmp}
use Rattle.std.specs.List.{filter}
use Rattle.std.specs.List.Sorted.{IsNonDecreasingBy, IsPartitionedBy, IsSorted, IsSortedBy, ties}
use Rattle.std.specs.Ordering.{is_gt, is_lt, nat_cmp, ordering_reverse, ordering_then}
use Rattle.std.specs.declared.cmp.Ordering.{Ordering}
use Rattle.std.specs.declared.cmp.Ordering.TheVariants.{Less, Equal, Greater}
use Rattle.im_model.specs.declared.transactions.Transaction.{Transaction}
use Rattle.im_versions.specs.Versions.{all_versions, is_of}
use Rattle.im_versions.specs.declared.versions.Version.{Version}
use Rattle.im_index.proofs.FrontLemmas.{versions-parted}
use Rattle.im_index.specs.Marks.{is_upto, numbered, upto_by}
use Rattle.im_index.specs.Runs.{IsRunOf}
use Rattle.im_octet.proofs.Common.{tied-by}

-- the key of the first is below that of the second
abbrev pub by_key : Version → Version → Bool
by_key x y = is_lt (slice_cmp nat_cmp x.key y.key)

pub by_key-order : IsStrictWeakOrder by_key
by_key-order = ranks_by nat_list_cmp_total (λ (v : Version). v.key)

-- a version of this key and number
abbrev pub mark : List ℕ → ℕ → Version
mark key n = record { tx = n; deleted = false; key = key; value = [] }

pub numbered-total : IsTotalOrder numbered
numbered-total = then_total (on_total (λ (v : Version). v.key) nat_list_cmp_total) (on_total (λ (v : Version). v.tx) nat_cmp_total)

-- a comparison of numbers is Greater where the first isn't at most the second
is_gt-nat : (a b : ℕ) → is_gt (nat_cmp a b) ≡ not (nat_le a b)
is_gt-nat a b = elim (cases_order a b) [
  | inl same ↦ (
      let e : nat_lt a b ≡ false = le-ltb a b (omega arith) in
      let f : nat_eq a b ≡ true = eq-eqb a b same in
      let g : nat_le a b ≡ true = le-leb a b (omega arith) in
      ap (λ t. is_gt (cond t Less (cond (nat_eq a b) Equal Greater))) e ∙ ap (λ t. is_gt (cond t Equal Greater)) f ∙ ap not (sym g))
  | inr other ↦ elim other [
    | inl less ↦ (
        let e : nat_lt a b ≡ true = lt-ltb a b less in
        let g : nat_le a b ≡ true = le-leb a b (omega arith) in
        ap (λ t. is_gt (cond t Less (cond (nat_eq a b) Equal Greater))) e ∙ ap not (sym g))
    | inr more ↦ (
        let e : nat_lt a b ≡ false = le-ltb a b (omega arith) in
        let f : nat_eq a b ≡ false = ne_eqb a b (λ s. omega arith) in
        let g : nat_le a b ≡ false = lt-leb a b more in
        ap (λ t. is_gt (cond t Less (cond (nat_eq a b) Equal Greater))) e ∙ ap (λ t. is_gt (cond t Equal Greater)) f ∙ ap not (sym g))
  ]
]

not-not : (b : Bool) → not (not b) ≡ b
not-not true = refl
not-not false = refl

upto-by : (o : Ordering) (a n : ℕ) → upto_by o (nat_le a n) ≡ not (is_gt (ordering_then o (nat_cmp a n)))
upto-by Less a n = refl
upto-by Equal a n = sym (ap not (is_gt-nat a n) ∙ not-not (nat_le a n))
upto-by Greater a n = refl

-- a version stands at most at a key and number where it isn't behind a version of them
pub upto-is : (key : List ℕ) (n : ℕ) (v : Version) → is_upto key n v ≡ not (is_gt (numbered v (mark key n)))
upto-is key n v = upto-by (slice_cmp nat_cmp v.key key) v.tx n

turned : (o : Ordering) → is_gt (ordering_reverse o) ≡ is_lt o
turned Less = refl
turned Equal = refl
turned Greater = refl

-- no later version of a sorted list stands below an earlier one
pub no-lower : (run : List Version) (i j : ℕ) (d : Version) → IsSorted numbered run → i ≤ j → j < length run
    → is_lt (numbered (get_or run j d) (get_or run i d)) ≡ false
no-lower run i j d sorted h l =
    sorted_far (λ (a b : Version). is_lt (numbered a b)) (ranks_by numbered-total (λ (v : Version). v)) run sorted i j d h l

false-not : (b : Bool) → not b ≡ true → b ≡ false
false-not true h = sym h
false-not false h = refl

-- a sorted list is parted by what stands at most at a key and number
pub upto-parted : (key : List ℕ) (n : ℕ) (run : List Version) → IsSorted numbered run → IsPartitionedBy (is_upto key n) run
upto-parted key n run sorted i j d h l p =
    let x : Version = get_or run i d in
    let y : Version = get_or run j d in
    let first : is_gt (numbered x y) ≡ false =
    ap is_gt (numbered-total.antisymm x y) ∙ turned (numbered y x) ∙ no-lower run i j d sorted h l in
    let second : is_gt (numbered y (mark key n)) ≡ false = false-not (is_gt (numbered y (mark key n))) (sym (upto-is key n y) ∙ p) in
    upto-is key n x ∙ ap not (upto numbered-total x y (mark key n) first second)

-- versions of a history come in the order of their numbers
pub numbers-rise : (history : List Transaction) → IsNonDecreasingBy (λ (v : Version). v.tx) (all_versions history)
numbers-rise history i j d h l =
    let w : Version = get_or (all_versions history) j d in
    leb-true (get_or (all_versions history) i d).tx w.tx (versions-parted history w.tx i j d h l (le-leb w.tx w.tx (omega arith)))

-- what rises along two lists rises along the first
pub rises-front : {X : Type 0} (n : X → ℕ) (xs ys : List X) → IsNonDecreasingBy n (xs ++ ys) → IsNonDecreasingBy n xs
rises-front n xs ys rise i j d h l =
    let low : n (get_or (xs ++ ys) i d) ≡ n (get_or xs i d) = ap n (get_or_append_left xs ys d i (omega arith)) in
    let high : n (get_or (xs ++ ys) j d) ≡ n (get_or xs j d) = ap n (get_or_append_left xs ys d j l) in
    let all : n (get_or (xs ++ ys) i d) ≤ n (get_or (xs ++ ys) j d) = rise i j d h (omega (arith, length-append xs ys)) in
    omega arith

-- and along the second
pub rises-behind : {X : Type 0} (n : X → ℕ) (xs ys : List X) → IsNonDecreasingBy n (xs ++ ys) → IsNonDecreasingBy n ys
rises-behind n xs ys rise i j d h l =
    let low : n (get_or (xs ++ ys) (length xs + i) d) ≡ n (get_or ys i d) = ap n (get_or-append-add xs ys i d) in
    let high : n (get_or (xs ++ ys) (length xs + j) d) ≡ n (get_or ys j d) = ap n (get_or-append-add xs ys j d) in
    let all : n (get_or (xs ++ ys) (length xs + i) d) ≤ n (get_or (xs ++ ys) (length xs + j) d) =
    rise (length xs + i) (length xs + j) d (omega arith) (omega (arith, length-append xs ys)) in
    omega arith

not-below : (t : Bool) → is_lt (cond t Equal Greater) ≡ false
not-below true = refl
not-below false = refl

-- keys that don't fall, and numbers that don't where keys are one
then-not-below : (o : Ordering) (a b : ℕ) → is_lt o ≡ false → (o ≡ Equal → b ≤ a) → is_lt (ordering_then o (nat_cmp a b)) ≡ false
then-not-below Less a b h g = h
then-not-below Equal a b h g =
    ap (λ t. is_lt (cond t Less (cond (nat_eq a b) Equal Greater))) (le-ltb a b (g refl)) ∙ not-below (nat_eq a b)
then-not-below Greater a b h g = refl

-- a run of versions in the order of their numbers is sorted by key and number
pub run-sorted : (run part : List Version) → IsRunOf run part → IsNonDecreasingBy (λ (v : Version). v.tx) part → IsSorted numbered run
run-sorted run part is rise k d low l =
    let x : Version = get_or run k d in
    let y : Version = get_or run (k + 1) d in
    let up : IsSortedBy (λ (a b : Version). ltb a.tx b.tx) part =
    (λ i e z m. le-ltb (get_or part (i + 1) e).tx (get_or part i e).tx (rise i (i + 1) e (omega arith) m)) in
    then-not-below (slice_cmp nat_cmp y.key x.key) y.tx x.tx (is.sorted k d low l) (λ same.
    let back : slice_cmp nat_cmp x.key y.key ≡ Equal = tied_back nat_list_cmp_total y.key x.key same in
    let tie : ties by_key x y ≡ true =
    and_from (not (by_key x y)) (not (by_key y x)) (ap (λ o. not (is_lt o)) back) (ap (λ o. not (is_lt o)) same) in
    ltb-false y.tx x.tx
    (ties_stay_sorted (λ (a b : Version). ltb a.tx b.tx) by_key (IsStrictWeakOrder-by_number (λ (v : Version). v.tx)) by_key-order part run up is.stable k d l tie))

-- what ties with a key is of that key
tied-is : (key : List ℕ) (v : Version) → ties by_key (mark key 0) v ≡ is_of key v
tied-is key v =
    ap (λ o. not (is_lt o) && not (is_lt (slice_cmp nat_cmp v.key key))) (nat_list_cmp_total.antisymm key v.key)
    ∙ tied-by (slice_cmp nat_cmp v.key key)
    ∙ is_eq-slice_cmp v.key key

-- a run has the versions of a key in their order
pub run-same : (run part : List Version) → IsRunOf run part → (key : List ℕ) → filter (is_of key) run ≡ filter (is_of key) part
run-same run part is key =
    sym (filter_agree (ties by_key (mark key 0)) (is_of key) (tied-is key) run)
    ∙ is.stable (mark key 0)
    ∙ filter_agree (ties by_key (mark key 0)) (is_of key) (tied-is key) part
