-- A map to which the versions of runs are put has the last ones of their history.
use Rattle.std.proofs.Common.{◌≡◌, ◌<◌, ◌+◌, ℕ, Bool, true, false, ◌&&◌, cond, List, [], ◌∷◌, ◌++◌, length, take, drop, get_or, nat_le, arith, ap, sym, subst, ◌∙◌, inl, inr, append_assoc, Option, Some, None, if◌then◌else◌}
use Rattle.std.proofs.lemmas.Bool.{cases_Bool}
use Rattle.std.proofs.lemmas.List.{append-nil, drop-take, take-append-drop, take-take, take_more}
use Rattle.std.proofs.lemmas.List.Elements.{All-filter, All-push, filter-append, filter_agree}
use Rattle.std.proofs.lemmas.Slice.Eq.{bytes_eq-Decides}
use Rattle.std.specs.List.{All, filter, last_or}
use Rattle.std.specs.Prelude.{IsTrue}
use Rattle.std.specs.Str.{bytes_eq}
use Rattle.im_model.specs.declared.transactions.Transaction.{Transaction}
use Rattle.im_versions.specs.Versions.{all_versions, begins_with, is_of}
use Rattle.im_versions.specs.declared.versions.Version.{Version}
use Rattle.im_versions.proofs.ListLemmas.{filter-none}
use Rattle.im_index.specs.Indexed.{AreRunsOf}
use Rattle.im_index.specs.Marks.{found}
use Rattle.im_index.specs.Newest.{HasNewest, Newest, PutsNewest, last_of, newest_in}
use Rattle.im_index.proofs.FoundLemmas.{all-last, filter-both, found-last}
use Rattle.im_index.proofs.HoldLemmas.{joined, joined-push}
use Rattle.im_index.proofs.MapLemmas.{last_of-here}
use Rattle.im_octet.proofs.Common.{all-left, filter-swap}

-- a version's number is at most n
abbrev pub is_within : ℕ → Version → Bool
is_within n v = nat_le v.tx n

-- a version's key begins with the prefix
abbrev pub is_begun : List ℕ → Version → Bool
is_begun prefix v = begins_with prefix v.key

-- versions of other keys leave a key's last
last_of-others : (before more : List Version) (key : List ℕ) → All (λ (v : Version). is_of key v ≡ false) more → last_of (before ++ more) key ≡ last_of before key
last_of-others before more key others =
    ap (last_or None) (filter-append (is_of key) before more
    ∙ ap (λ (vs : List Version). filter (is_of key) before ++ vs) (filter-none (is_of key) more others)
    ∙ append-nil (filter (is_of key) before))

-- of versions of one key the last is put
one-put : (before front : List Version) (prefix : List ℕ) (v : Version) (old new : Newest) → begins_with prefix v.key ≡ true
    → All (λ (w : Version). w.key ≡ v.key) front → PutsNewest old new v.key v → HasNewest before prefix old
    → HasNewest (before ++ (front ++ v ∷ [])) prefix new
one-put before front prefix v old new begins same puts has key = elim (cases_Bool (bytes_eq v.key key)) [
  | inl own ↦ (
      let here : begins_with prefix key ≡ true = subst (λ k. begins_with prefix k ≡ true) ((bytes_eq-Decides v.key key).0 own) begins in
      puts key
      ∙ ap (λ b. cond b (Some v) (newest_in old key)) own
      ∙ sym (ap (λ b. cond b (last_of (before ++ (front ++ v ∷ [])) key) None) here
      ∙ ap (λ (vs : List Version). last_of vs key) (sym (append_assoc before front (v ∷ [])))
      ∙ last_of-here (before ++ front) v key own))
  | inr other ↦ (
      let others : All (λ (w : Version). is_of key w ≡ false) (front ++ v ∷ []) =
      All-push (λ (w : Version). is_of key w ≡ false) front v
      (λ i d l. subst (λ (k : List ℕ). bytes_eq k key ≡ false) (sym (same i d l)) other) other in
      puts key
      ∙ ap (λ b. cond b (Some v) (newest_in old key)) other
      ∙ has key
      ∙ ap (λ o. if begins_with prefix key then o else None) (sym (last_of-others before (front ++ v ∷ []) key others)))
]

-- of a block the last version of the first n transactions is put
pub block-put : (before block found front : List Version) (prefix key : List ℕ) (n : ℕ) (v : Version) (old new : Newest)
    → All (λ (w : Version). is_of key w ≡ true) block → All (λ (w : Version). IsTrue (begins_with prefix w.key)) block
    → found ≡ filter (is_within n) block → found ≡ front ++ v ∷ [] → PutsNewest old new v.key v → HasNewest before prefix old
    → HasNewest (before ++ filter (is_within n) block) prefix new
block-put before block found front prefix key n v old new own begins made split puts has =
    let Own : Version → Type 0 = λ w. is_of key w ≡ true in
    let Begun : Version → Type 0 = λ w. IsTrue (begins_with prefix w.key) in
    let whole : filter (is_within n) block ≡ front ++ v ∷ [] = sym made ∙ split in
    let each : All Own (front ++ v ∷ []) = subst (All Own) whole (All-filter (is_within n) Own block own) in
    let begun : Begun v = all-last Begun front v (subst (All Begun) whole (All-filter (is_within n) Begun block begins)) in
    let mine : v.key ≡ key = (bytes_eq-Decides v.key key).0 (all-last Own front v each) in
    subst (λ (vs : List Version). HasNewest (before ++ vs) prefix new) (sym whole)
    (one-put before front prefix v old new begun
    (λ i d l. (bytes_eq-Decides (get_or front i d).key key).0 (all-left Own front (v ∷ []) each i d l) ∙ sym mine) puts has)

-- where a block has none of them, nothing is
pub block-passed : (before block found : List Version) (prefix : List ℕ) (n : ℕ) (old : Newest) → found ≡ filter (is_within n) block → found ≡ []
    → HasNewest before prefix old → HasNewest (before ++ filter (is_within n) block) prefix old
block-passed before block found prefix n old made none =
    subst (λ (vs : List Version). HasNewest vs prefix old) (sym (append-nil before) ∙ ap (λ (vs : List Version). before ++ vs) (sym none ∙ made))

-- a front and what stands behind it are a longer front
take-parts : {X : Type 0} (i k : ℕ) (xs : List X) → take (i + k) xs ≡ take i xs ++ take k (drop i xs)
take-parts {X} i k xs =
    sym (take-append-drop i (take (i + k) xs))
    ∙ ap (λ (ys : List X). ys ++ drop i (take (i + k) xs)) (take-take i (i + k) xs (omega arith))
    ∙ ap (λ (ys : List X). take i xs ++ ys) (drop-take i k xs)

-- one block more is looked at
pub block-next : (before versions : List Version) (prefix : List ℕ) (n i count : ℕ) (new : Newest)
    → HasNewest ((before ++ filter (is_within n) (take i versions)) ++ filter (is_within n) (take count (drop i versions))) prefix new
    → HasNewest (before ++ filter (is_within n) (take (i + count) versions)) prefix new
block-next before versions prefix n i count new =
    let p : Version → Bool = is_within n in
    let more : filter p (take (i + count) versions) ≡ filter p (take i versions) ++ filter p (take count (drop i versions)) =
    ap (filter p) (take-parts i count versions) ∙ filter-append p (take i versions) (take count (drop i versions)) in
    subst (λ (vs : List Version). HasNewest vs prefix new)
    (append_assoc before (filter p (take i versions)) (filter p (take count (drop i versions))) ∙ ap (λ (vs : List Version). before ++ vs) (sym more))

-- the versions of the runs that are looked at: those whose keys begin with the prefix, of the first n transactions
abbrev pub looked_at : List ℕ → ℕ → List (List Version) → List Version
looked_at prefix n runs = filter (is_within n) (filter (is_begun prefix) (joined runs))

-- one run more is looked at
pub looked_at-more : (prefix : List ℕ) (n : ℕ) (runs : List (List Version)) (i : ℕ) (run : List Version) → i < length runs → run ≡ get_or runs i run
    → looked_at prefix n (take (i + 1) runs) ≡ looked_at prefix n (take i runs) ++ filter (is_within n) (filter (is_begun prefix) run)
looked_at-more prefix n runs i run h is =
    let front : List (List Version) = take i runs in
    ap (looked_at prefix n) (take_more runs i run h ∙ ap (λ (r : List Version). front ++ r ∷ []) (sym is))
    ∙ ap (λ vs. filter (is_within n) (filter (is_begun prefix) vs)) (joined-push front run)
    ∙ ap (filter (is_within n)) (filter-append (is_begun prefix) (joined front) run)
    ∙ filter-append (is_within n) (filter (is_begun prefix) (joined front)) (filter (is_begun prefix) run)

-- so many versions of one run more begin with the prefix
pub begun-more : (prefix : List ℕ) (runs : List (List Version)) (i : ℕ) (run : List Version) → i < length runs → run ≡ get_or runs i run
    → filter (is_begun prefix) (joined (take (i + 1) runs)) ≡ filter (is_begun prefix) (joined (take i runs)) ++ filter (is_begun prefix) run
begun-more prefix runs i run h is =
    let front : List (List Version) = take i runs in
    ap (λ rs. filter (is_begun prefix) (joined rs)) (take_more runs i run h ∙ ap (λ (r : List Version). front ++ r ∷ []) (sym is))
    ∙ ap (filter (is_begun prefix)) (joined-push front run)
    ∙ filter-append (is_begun prefix) (joined front) run

-- a filter behind one that lets through all that it does
filter-within : {X : Type 0} (p q : X → Bool) (xs : List X) → ((x : X) → p x ≡ true → q x ≡ true) → filter p (filter q xs) ≡ filter p xs
filter-within {X} p q xs through =
    filter-both p q xs ∙ filter_agree (λ (x : X). p x && q x) p (λ x. elim (cases_Bool (p x)) [
      | inl met ↦ ap (λ b. b && q x) met ∙ through x met ∙ sym met
      | inr unmet ↦ ap (λ b. b && q x) unmet ∙ sym unmet
    ]) xs

-- of a key that begins with the prefix all versions were looked at
pub looked_at-key : (prefix key : List ℕ) (n : ℕ) (runs : List (List Version)) → begins_with prefix key ≡ true
    → filter (is_of key) (looked_at prefix n runs) ≡ found key n (joined runs)
looked_at-key prefix key n runs begins =
    ap (filter (is_of key)) (filter-swap (is_within n) (is_begun prefix) (joined runs))
    ∙ filter-within (is_of key) (is_begun prefix) (filter (is_within n) (joined runs)) (λ v own.
    subst (λ (k : List ℕ). begins_with prefix k ≡ true) (sym ((bytes_eq-Decides v.key key).0 own)) begins)

-- the map has the last versions of the first n transactions
pub looked_at-newest : (prefix : List ℕ) (n : ℕ) (runs : List (List Version)) (history : List Transaction) (newest : Newest) → AreRunsOf runs history
    → HasNewest (looked_at prefix n runs) prefix newest → HasNewest (all_versions (take n history)) prefix newest
looked_at-newest prefix n runs history newest are has key = elim (cases_Bool (begins_with prefix key)) [
  | inl begins ↦ (
      let last : last_of (looked_at prefix n runs) key ≡ last_of (all_versions (take n history)) key =
      ap (last_or None) (looked_at-key prefix key n runs begins) ∙ found-last runs history key n are in
      has key ∙ ap (λ (o : Option Version). cond (begins_with prefix key) o None) last)
  | inr other ↦ (
      has key
      ∙ ap (λ b. cond b (last_of (looked_at prefix n runs) key) None) other
      ∙ sym (ap (λ b. cond b (last_of (all_versions (take n history)) key) None) other))
]
