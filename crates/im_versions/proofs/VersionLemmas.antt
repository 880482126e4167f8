-- Versions of histories that grow and are cut, scans that are one, and preconditions that have no refusal.
use Rattle.std.proofs.Common.{◌≡◌, ◌↔◌, ◌<◌, ◌≤◌, ℕ, suc, zero, ◌+◌, true, false, List, [], ◌∷◌, ◌++◌, length, take, refl, arith, ap, ◌∙◌, sym, inl, inr, append_assoc, Some, None, nat_le}
use Rattle.std.specs.List.{All, IsAmong, filter}
use Rattle.std.specs.Prelude.{IsTrue}
use Rattle.std.specs.Cmp.Lexicographic.{slice_cmp}
use Rattle.std.specs.Ordering.{nat_cmp, ordering_reverse}
use Rattle.std.specs.declared.cmp.Ordering.TheVariants.{Less, Greater}
use Rattle.std.proofs.lemmas.Cmp.{nat_list_cmp_total}
use Rattle.std.proofs.lemmas.List.{append-nil}
use Rattle.std.proofs.lemmas.List.Elements.{All-append, All-cons, All-map, All-weaker, filter-append}
use Rattle.std.proofs.lemmas.Bool.{le-leb, lt-leb, cases_Bool, cond-true, cond-false}
use Rattle.std.proofs.lemmas.Slice.Eq.{bytes_eq-Decides}
use Rattle.im_model.specs.declared.entries.Entry.{Entry}
use Rattle.im_model.specs.declared.transactions.Transaction.{Transaction}
use Rattle.im_draft.specs.declared.preconditions.Pre.{Pre}
use Rattle.im_versions.specs.Versions.{is_shown, version_of, versions_in, versions_from, all_versions, is_of, versions_of, last_version, begins_with, IsBelow, IsScan}
use Rattle.im_versions.specs.Admits.{holds, Admits, refusal_of, first_refusal}
use Rattle.im_versions.specs.declared.versions.Version.{Version}
use Rattle.im_versions.proofs.ListLemmas.{filter-all, filter-none, All-among, among-filter, last-among, rising-unique}

-- those of two parts of a history stand one behind the other
pub versions-append : (k : ℕ) (xs ys : List Transaction) → versions_from k (xs ++ ys) ≡ versions_from k xs ++ versions_from (k + length xs) ys
versions-append k [] ys =
    let same : k ≡ k + 0 = omega arith in
    ap (λ n. versions_from n ys) same
versions-append k (tx ∷ xs) ys =
    let same : k + 1 + length xs ≡ k + suc (length xs) = omega arith in
    ap (λ vs. versions_in k tx.entries ++ vs) (versions-append (k + 1) xs ys ∙ ap (λ n. versions_from (k + 1) xs ++ versions_from n ys) same)
    ∙ sym (append_assoc (versions_in k tx.entries) (versions_from (k + 1) xs) (versions_from (k + suc (length xs)) ys))

-- a transaction adds the versions that its entries are
pub versions-push : (history : List Transaction) (tx : Transaction) → all_versions (history ++ tx ∷ []) ≡ all_versions history ++ versions_in (length history + 1) tx.entries
versions-push history tx =
    let same : 1 + length history ≡ length history + 1 = omega arith in
    versions-append 1 history (tx ∷ [])
    ∙ ap (λ vs. all_versions history ++ vs) (append-nil (versions_in (1 + length history) tx.entries))
    ∙ ap (λ n. all_versions history ++ versions_in n tx.entries) same

-- the versions of a transaction have its number
pub versions_in-number : (k : ℕ) (entries : List Entry) → All (λ v. v.tx ≡ k) (versions_in k entries)
versions_in-number k entries = All-map (λ (v : Version). v.tx ≡ k) (version_of k) (filter is_shown entries) (λ i d l. refl)

-- the numbers of versions lie within those of their transactions
pub versions_from-within : (k : ℕ) (txs : List Transaction) → All (λ v. (k ≤ v.tx) × (v.tx < k + length txs)) (versions_from k txs)
versions_from-within k [] = λ i d l. absurd (omega arith)
versions_from-within k (tx ∷ txs) =
    let P : Version → Type 0 = λ v. (k ≤ v.tx) × (v.tx < k + suc (length txs)) in
    All-append P (versions_in k tx.entries) (versions_from (k + 1) txs)
    (All-weaker (λ (v : Version). v.tx ≡ k) P (λ v e. (omega arith, omega arith)) (versions_in k tx.entries) (versions_in-number k tx.entries))
    (All-weaker (λ (v : Version). (k + 1 ≤ v.tx) × (v.tx < k + 1 + length txs)) P (λ v h. (omega arith, omega arith)) (versions_from (k + 1) txs) (versions_from-within (k + 1) txs))

-- each version of a history has the number of one of its transactions
pub versions-within : (history : List Transaction) → All (λ v. (1 ≤ v.tx) × (v.tx ≤ length history)) (all_versions history)
versions-within history =
    All-weaker (λ (v : Version). (1 ≤ v.tx) × (v.tx < 1 + length history)) (λ v. (1 ≤ v.tx) × (v.tx ≤ length history)) (λ v h. (h.0, omega arith)) (all_versions history) (versions_from-within 1 history)

-- of transactions that begin with number k, those up to number m are the first n
versions_from-upto : (k : ℕ) (txs : List Transaction) (n m : ℕ) → k + n ≡ m + 1 → versions_from k (take n txs) ≡ filter (λ v. nat_le v.tx m) (versions_from k txs)
versions_from-upto k txs zero m e =
    sym (filter-none (λ v. nat_le v.tx m) (versions_from k txs)
    (All-weaker (λ (v : Version). (k ≤ v.tx) × (v.tx < k + length txs)) (λ v. nat_le v.tx m ≡ false) (λ v h. lt-leb v.tx m (omega arith)) (versions_from k txs) (versions_from-within k txs)))
versions_from-upto k [] (suc n) m e = refl
versions_from-upto k (tx ∷ txs) (suc n) m e =
    let mine : filter (λ v. nat_le v.tx m) (versions_in k tx.entries) ≡ versions_in k tx.entries =
    filter-all (λ (v : Version). nat_le v.tx m) (versions_in k tx.entries)
    (All-weaker (λ (v : Version). v.tx ≡ k) (λ v. nat_le v.tx m ≡ true) (λ v h. le-leb v.tx m (omega arith)) (versions_in k tx.entries) (versions_in-number k tx.entries)) in
    let rest : versions_from (k + 1) (take n txs) ≡ filter (λ v. nat_le v.tx m) (versions_from (k + 1) txs) = versions_from-upto (k + 1) txs n m (omega arith) in
    ap (λ vs. versions_in k tx.entries ++ vs) rest
    ∙ ap (λ vs. vs ++ filter (λ v. nat_le v.tx m) (versions_from (k + 1) txs)) (sym mine)
    ∙ sym (filter-append (λ (v : Version). nat_le v.tx m) (versions_in k tx.entries) (versions_from (k + 1) txs))

-- the versions of the first n transactions are those whose number is at most n
pub versions-upto : (history : List Transaction) (n : ℕ) → all_versions (take n history) ≡ filter (λ v. nat_le v.tx n) (all_versions history)
versions-upto history n = versions_from-upto 1 history n n (omega arith)

-- the last version of a key is a version of it
pub last-of-key : (history : List Transaction) (key : List ℕ) (version : Version) → last_version history key ≡ Some version → version.key ≡ key
last-of-key history key version e =
    let is : IsAmong (versions_of history key) version = last-among (versions_of history key) version e in
    (bytes_eq-Decides version.key key).0 (among-filter (is_of key) (all_versions history) version is).0

-- the last version of a key is one of the history's
pub last-among-all : (history : List Transaction) (key : List ℕ) (version : Version) → last_version history key ≡ Some version → IsAmong (all_versions history) version
last-among-all history key version e =
    let is : IsAmong (versions_of history key) version = last-among (versions_of history key) version e in
    (among-filter (is_of key) (all_versions history) version is).1

-- of two keys at most one is below the other
pub below-strict : (a b : List ℕ) → IsBelow a b → IsBelow b a → ⊥
below-strict a b less more =
    let turned : slice_cmp nat_cmp a b ≡ ordering_reverse (slice_cmp nat_cmp b a) = nat_list_cmp_total.antisymm a b in
    let other : ordering_reverse (slice_cmp nat_cmp b a) ≡ Greater = ap ordering_reverse more in
    let both : Less ≡ Greater = sym less ∙ turned ∙ other in
    cc

-- what stands in one scan of a prefix stands in each other
scan-among : (history : List Transaction) (prefix : List ℕ) (a b : List Version) → IsScan history prefix a → IsScan history prefix b → (v : Version) → IsAmong a v → IsAmong b v
scan-among history prefix a b s t v is =
    let live : (last_version history v.key ≡ Some v) × (v.deleted ≡ false) = All-among (λ v. (last_version history v.key ≡ Some v) × (v.deleted ≡ false)) a v s.live is in
    let begin : IsTrue (begins_with prefix v.key) = All-among (λ (v : Version). IsTrue (begins_with prefix v.key)) a v s.begin is in
    t.all v.key v live.0 live.1 begin

-- there is one scan of a prefix
pub scan-unique : (history : List Transaction) (prefix : List ℕ) (a b : List Version) → IsScan history prefix a → IsScan history prefix b → a ≡ b
scan-unique history prefix a b s t =
    rising-unique (λ (v w : Version). IsBelow v.key w.key) (λ v w. below-strict v.key w.key) a b s.rising t.rising
    (scan-among history prefix a b s t) (scan-among history prefix b a t s)

-- preconditions that have no refusal hold
none-admits : (history : List Transaction) (pres : List Pre) → first_refusal history pres ≡ None → Admits history pres
none-admits history [] none = λ i d l. absurd (omega arith)
none-admits history (pre ∷ pres) none = elim (cases_Bool (holds history pre)) [
  | inl held ↦ (
      let rest : first_refusal history pres ≡ None = sym (cond-true (holds history pre) (first_refusal history pres) (Some (refusal_of history pre)) held) ∙ none in
      All-cons (λ (p : Pre). holds history p ≡ true) pre pres held (none-admits history pres rest))
  | inr broken ↦ (
      let some : Some (refusal_of history pre) ≡ None = sym (cond-false (holds history pre) (first_refusal history pres) (Some (refusal_of history pre)) broken) ∙ none in
      cc)
]

-- preconditions that hold have no refusal
admits-none : (history : List Transaction) (pres : List Pre) → Admits history pres → first_refusal history pres ≡ None
admits-none history [] all = refl
admits-none history (pre ∷ pres) all =
    cond-true (holds history pre) (first_refusal history pres) (Some (refusal_of history pre)) (all 0 pre (omega arith))
    ∙ admits-none history pres (λ i d l. all (suc i) d (omega arith))

-- preconditions have no refusal exactly where each holds
pub refusal-none : (history : List Transaction) (pres : List Pre) → first_refusal history pres ≡ None ↔ Admits history pres
refusal-none history pres = (none-admits history pres, admits-none history pres)
