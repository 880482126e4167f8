-- The versions of a key in a run stand beside each other: between the place of number 0 and that of n.
use Rattle.std.proofs.Common.{◌≡◌, ◌<◌, ◌≤◌, ◌+◌, ◌-◌, ℕ, Bool, true, false, List, [], ◌∷◌, ◌++◌, length, get_or, take, drop, nat_le, refl, arith, ap, sym, subst, ◌∙◌, inl, inr}
use Rattle.std.proofs.lemmas.Bool.{and_from, and_parts, both_ways, cases_lt, false_from_ne_true, false≢true, le-leb, leb-true}
use Rattle.std.proofs.lemmas.List.{append-nil, get_or-drop, get_or-take, length-drop, length-take, take-append-drop, take_more}
use Rattle.std.proofs.lemmas.List.Elements.{All-cons, All-nil, All-weaker, filter-append}
use Rattle.std.proofs.lemmas.List.Sorted.{All-permutation}
use Rattle.std.proofs.lemmas.Slice.Eq.{bytes_eq-Decides}
use Rattle.std.specs.Cmp.Lexicographic.{slice_cmp}
use Rattle.std.specs.List.{All, AllZip, filter}
use Rattle.std.specs.Ordering.{nat_cmp}
use Rattle.std.specs.declared.cmp.Ordering.{Ordering}
use Rattle.std.specs.declared.cmp.Ordering.TheVariants.{Less, Equal, Greater}
use Rattle.im_model.specs.declared.transactions.Transaction.{Transaction}
use Rattle.im_versions.specs.Versions.{all_versions, is_of}
use Rattle.im_versions.specs.declared.versions.Version.{Version}
use Rattle.im_versions.proofs.ListLemmas.{filter-all, filter-none}
use Rattle.im_versions.proofs.ScanLemmas.{same-key}
use Rattle.im_versions.proofs.VersionLemmas.{versions-within}
use Rattle.im_index.specs.Marks.{found, is_upto, upto_by}
use Rattle.im_index.specs.Indexed.{AreRunsOf}
use Rattle.im_index.specs.Runs.{IsRunOf}
use Rattle.im_index.proofs.FoundLemmas.{IsPlace, behind-not-found, found-append, found-is, is_found, upto-number}
use Rattle.im_index.proofs.HoldLemmas.{joined, joined-push}
use Rattle.im_index.proofs.OrderLemmas.{mark}
use Rattle.im_octet.proofs.Common.{all-left, all-right}

-- what holds of all versions holds of each run's
all-parts : (P : Version → Type 0) (runs parts : List (List Version)) → AllZip IsRunOf runs parts → All P (joined parts) → All (λ run. All P run) runs
all-parts P [] [] each all = All-nil (λ (run : List Version). All P run)
all-parts P [] (p ∷ ps) each all = absurd each
all-parts P (r ∷ rs) [] each all = absurd each
all-parts P (r ∷ rs) (p ∷ ps) each all =
    All-cons (λ (run : List Version). All P run) r rs
    (All-permutation P p r each.0.moved (all-left P p (joined ps) all))
    (all-parts P rs ps each.1 (all-right P p (joined ps) all))

-- no version of a history's runs has number 0
pub runs-numbered : (runs : List (List Version)) (history : List Transaction) → AreRunsOf runs history → All (λ run. All (λ (v : Version). 0 < v.tx) run) runs
runs-numbered runs history are =
    all-parts (λ (v : Version). 0 < v.tx) runs are.holds.parts are.holds.each
    (subst (All (λ (v : Version). 0 < v.tx)) (sym are.holds.whole)
    (All-weaker (λ (v : Version). (1 ≤ v.tx) × (v.tx ≤ length history)) (λ v. 0 < v.tx) (λ v h. omega arith) (all_versions history) (versions-within history)))

-- what stands at most at a key and number stands at most at a higher one
upto-more : (key : List ℕ) (m n : ℕ) (v : Version) → m ≤ n → is_upto key m v ≡ true → is_upto key n v ≡ true
upto-more key m n v h up = go (slice_cmp nat_cmp v.key key) up
  where
    go : (o : Ordering) → upto_by o (nat_le v.tx m) ≡ true → upto_by o (nat_le v.tx n) ≡ true
    go Less u = refl
    go Equal u = le-leb v.tx n (omega (arith, leb-true v.tx m u))
    go Greater u = absurd (false≢true u)

-- what stands between the key's own numbers is found
between-found : (key : List ℕ) (n : ℕ) (v : Version) → is_upto key 0 v ≡ false → is_upto key n v ≡ true → is_found key n v ≡ true
between-found key n v low high = go (slice_cmp nat_cmp v.key key) refl low high
  where
    go : (o : Ordering) → slice_cmp nat_cmp v.key key ≡ o → upto_by o (nat_le v.tx 0) ≡ false → upto_by o (nat_le v.tx n) ≡ true → is_found key n v ≡ true
    go Less e a b = absurd (let odd : true ≡ false = a in cc)
    go Equal e a b = and_from (is_of key v) (nat_le v.tx n) ((bytes_eq-Decides v.key key).1 (same-key v.key key (sym e))) b
    go Greater e a b = absurd (false≢true b)

-- what stands before them isn't
before-not-found : (key : List ℕ) (n : ℕ) (v : Version) → 0 < v.tx → is_upto key 0 v ≡ true → is_found key n v ≡ false
before-not-found key n v some up = false_from_ne_true (is_found key n v) (λ is.
    let both : (is_of key v ≡ true) × (nat_le v.tx n ≡ true) = and_parts (is_of key v) (nat_le v.tx n) is in
    let zeroth : nat_le v.tx 0 ≡ true = upto-number key 0 v ((bytes_eq-Decides v.key key).0 both.0) up in
    let none : v.tx ≤ 0 = leb-true v.tx 0 zeroth in
    omega arith)

pub span-order : (key : List ℕ) (n : ℕ) (run : List Version) (from to : ℕ) → from ≤ length run → IsPlace key 0 run from → IsPlace key n run to → from ≤ to
span-order key n run from to within first last = elim (cases_lt to from) [
  | inr order ↦ order
  | inl less ↦ absurd (
      let d : Version = mark key 0 in
      both_ways (is_upto key n (get_or run to d)) (last.1 to d (omega arith) (omega arith))
      (upto-more key 0 n (get_or run to d) (omega arith) (first.0 to d (omega arith) less)))
]

-- those between the two places are what is found
pub span-found : (key : List ℕ) (n : ℕ) (run : List Version) (from to : ℕ) → All (λ (v : Version). 0 < v.tx) run → to ≤ length run → from ≤ to
    → IsPlace key 0 run from → IsPlace key n run to → take (to - from) (drop from run) ≡ found key n run
span-found key n run from to some within order first last =
    let p : Version → Bool = is_found key n in
    let mid : List Version = take (to - from) (drop from run) in
    let rest : List Version = drop (to - from) (drop from run) in
    let low : filter p (take from run) ≡ [] = filter-none p (take from run) (λ k d l.
    let inside : k < from = omega (arith, length-take from run) in
    subst (λ (v : Version). p v ≡ false) (sym (get_or-take from run k d inside))
    (before-not-found key n (get_or run k d) (some k d (omega arith)) (first.0 k d (omega arith) inside))) in
    let kept : filter p mid ≡ mid = filter-all p mid (λ k d l.
    let inside : k < to - from = omega (arith, length-take (to - from) (drop from run)) in
    subst (λ (v : Version). p v ≡ true) (sym (get_or-take (to - from) (drop from run) k d inside ∙ get_or-drop from run k d))
    (between-found key n (get_or run (from + k) d) (first.1 (from + k) d (omega arith) (omega arith)) (last.0 (from + k) d (omega arith) (omega arith)))) in
    let high : filter p rest ≡ [] = filter-none p rest (λ k d l.
    let inside : to - from + k < length run - from = omega (arith, length-drop (to - from) (drop from run), length-drop from run) in
    subst (λ (v : Version). p v ≡ false) (sym (get_or-drop (to - from) (drop from run) k d ∙ get_or-drop from run (to - from + k) d))
    (behind-not-found key n (get_or run (from + (to - from + k)) d) (last.1 (from + (to - from + k)) d (omega arith) (omega arith)))) in
    sym (found-is key n run
    ∙ ap (filter p) (sym (take-append-drop from run))
    ∙ filter-append p (take from run) (drop from run)
    ∙ ap (λ vs. vs ++ filter p (drop from run)) low
    ∙ ap (filter p) (sym (take-append-drop (to - from) (drop from run)))
    ∙ filter-append p mid rest
    ∙ ap (λ vs. filter p mid ++ vs) high
    ∙ append-nil (filter p mid)
    ∙ kept)

-- one run more
pub found-more : (key : List ℕ) (n : ℕ) (runs : List (List Version)) (i : ℕ) (run : List Version) → i < length runs → run ≡ get_or runs i run
    → found key n (joined (take (i + 1) runs)) ≡ found key n (joined (take i runs)) ++ found key n run
found-more key n runs i run h is =
    ap (λ rs. found key n (joined rs)) (take_more runs i run h ∙ ap (λ r. take i runs ++ r ∷ []) (sym is))
    ∙ ap (λ vs. found key n vs) (joined-push (take i runs) run)
    ∙ found-append key n (joined (take i runs)) run
