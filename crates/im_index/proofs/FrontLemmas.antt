-- The versions of the first transactions stand in front of those of the later ones.
use Rattle.std.proofs.Common.{◌≡◌, ◌<◌, ◌≤◌, ◌+◌, ◌-◌, ℕ, Bool, true, false, List, [], ◌++◌, length, take, drop, get_or, nat_le, inl, inr, refl, arith, ap, subst, sym, ◌∙◌}
use Rattle.std.proofs.lemmas.Bool.{both_ways, cases_lt, le-leb, lt-leb}
use Rattle.std.proofs.lemmas.List.{get_or_append_left, get_or-append_right, get_or-take, get_or-drop, length-append, length-drop, length-take, take-append-drop, append-nil}
use Rattle.std.proofs.lemmas.List.Elements.{All-weaker, filter-append}
use Rattle.std.specs.List.{All, filter}
use Rattle.std.specs.List.Sorted.{IsPartitionPoint, IsPartitionedBy}
use Rattle.im_model.specs.declared.transactions.Transaction.{Transaction}
use Rattle.im_versions.specs.Versions.{all_versions, versions_from}
use Rattle.im_versions.specs.declared.versions.Version.{Version}
use Rattle.im_versions.proofs.ListLemmas.{filter-all, filter-none}
use Rattle.im_versions.proofs.VersionLemmas.{versions-append, versions-upto, versions-within, versions_from-within}

-- what passes, and behind it what doesn't, is parted by the test
parted-append : {X : Type 0} (p : X → Bool) (xs ys : List X) → All (λ x. p x ≡ true) xs → All (λ y. p y ≡ false) ys → IsPartitionedBy p (xs ++ ys)
parted-append p xs ys pass fail i j d h within passes = elim (cases_lt j (length xs)) [
  | inl front ↦ subst (λ x. p x ≡ true) (sym (get_or_append_left xs ys d i (omega arith))) (pass i d (omega arith))
  | inr behind ↦ absurd (both_ways (p (get_or ys (j - length xs) d)) (fail (j - length xs) d (omega (arith, length-append xs ys)))
      (subst (λ x. p x ≡ true) (get_or-append_right xs ys (length xs) j d refl behind) passes))
]

-- versions are parted by whether their number is at most n
pub versions-parted : (history : List Transaction) (n : ℕ) → IsPartitionedBy (λ v. nat_le v.tx n) (all_versions history)
versions-parted history n =
    let P : Version → Bool = λ v. nat_le v.tx n in
    let k : ℕ = 1 + length (take n history) in
    let whole : all_versions history ≡ all_versions (take n history) ++ versions_from k (drop n history) =
    ap all_versions (sym (take-append-drop n history)) ∙ versions-append 1 (take n history) (drop n history) in
    subst (IsPartitionedBy P) (sym whole)
    (parted-append P (all_versions (take n history)) (versions_from k (drop n history))
    (All-weaker (λ (v : Version). (1 ≤ v.tx) × (v.tx ≤ length (take n history))) (λ v. nat_le v.tx n ≡ true)
    (λ v h. le-leb v.tx n (omega (arith, length-take n history))) (all_versions (take n history)) (versions-within (take n history)))
    (All-weaker (λ (v : Version). (k ≤ v.tx) × (v.tx < k + length (drop n history))) (λ v. nat_le v.tx n ≡ false)
    (λ v h. lt-leb v.tx n (omega (arith, length-take n history, length-drop n history))) (versions_from k (drop n history)) (versions_from-within k (drop n history))))

-- what stands before the point that parts a list is what passes
pub front-filter : {X : Type 0} (p : X → Bool) (xs : List X) (i : ℕ) → i ≤ length xs
    → IsPartitionPoint (λ x. p x ≡ true) (λ x. p x ≡ false) xs i → take i xs ≡ filter p xs
front-filter p xs i h point =
    let front : filter p (take i xs) ≡ take i xs = filter-all p (take i xs)
    (λ k d l. subst (λ x. p x ≡ true) (sym (get_or-take i xs k d (omega (arith, length-take i xs)))) (point.0 k d (omega arith) (omega (arith, length-take i xs)))) in
    let behind : filter p (drop i xs) ≡ [] = filter-none p (drop i xs)
    (λ k d l. subst (λ x. p x ≡ false) (sym (get_or-drop i xs k d)) (point.1 (i + k) d (omega arith) (omega (arith, length-drop i xs)))) in
    sym (ap (filter p) (sym (take-append-drop i xs)) ∙ filter-append p (take i xs) (drop i xs) ∙ ap (λ ys. filter p (take i xs) ++ ys) behind ∙ append-nil (filter p (take i xs)) ∙ front)

-- the versions before the point that parts them are those of the first n transactions
pub front-versions : (history : List Transaction) (versions : List Version) (n i : ℕ) → versions ≡ all_versions history → i ≤ length versions
    → IsPartitionPoint (λ v. nat_le v.tx n ≡ true) (λ v. nat_le v.tx n ≡ false) versions i → take i versions ≡ all_versions (take n history)
front-versions history versions n i is h point =
    front-filter (λ (v : Version). nat_le v.tx n) versions i h point
    ∙ ap (filter (λ (v : Version). nat_le v.tx n)) is
    ∙ sym (versions-upto history n)
