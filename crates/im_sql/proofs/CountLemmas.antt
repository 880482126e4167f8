-- There are fewer tables, and indexes of a table, than four octets count: each has a version.
use Rattle.std.proofs.Common.{◌≡◌, ◌≤◌, ◌<◌, ◌+◌, ◌-◌, ◌*◌, ◌^◌, inl, inr, ℕ, zero, suc, Bool, true, false, not, cond, List, [], ◌∷◌, ◌++◌, length, flat_map, filter, get_or, bytes_eq, refl, sym, ap, ◌∙◌, subst, append_assoc, length-append, arith}
use Rattle.std.proofs.lemmas.Bool.{cases_order, false_from_ne_true}
use Rattle.std.proofs.lemmas.List.{length-map}
use Rattle.std.proofs.lemmas.Slice.Eq.{bytes_eq-Decides}
use Rattle.std.specs.List.{IsAmong}
use Rattle.im_octet.specs.Fields.{field2, field4}
use Rattle.im_model.specs.History.{IsHistory, Follow}
use Rattle.im_model.specs.declared.entries.Entry.{Entry}
use Rattle.im_model.specs.declared.transactions.Transaction.{Transaction}
use Rattle.im_versions.specs.Versions.{is_shown, version_of, versions_in, versions_from, all_versions, begins_with, IsBelow}
use Rattle.im_versions.specs.declared.versions.Version.{Version}
use Rattle.im_versions.proofs.ListLemmas.{among-cons}
use Rattle.im_versions.proofs.VersionLemmas.{below-strict, last-among-all}
use Rattle.im_sqlmodel.specs.Kept.{IsSqlSound}
use Rattle.im_sqlmodel.specs.Tables.{column_text, numbers_text, table_text}
use Rattle.im_sqlmodel.specs.Rows.{CountIs, IndexesAre, IsIndexVersion}
use Rattle.im_sqlmodel.specs.declared.tables.SqlIndex.{SqlIndex}
use Rattle.im_sqlmodel.specs.declared.tables.Table.{Table}
use Rattle.im_sqlmodel.proofs.OnceLemmas.{one-count}
use Rattle.im_catalog.proofs.FoundLemmas.{begins-is}
use Rattle.im_catalog.proofs.FrontLemmas.{among-kept, begins-from}
use Rattle.im_catalog.proofs.TableLemmas.{tid-cut}
use Rattle.im_catalog.proofs.ThereLemmas.{no_version}
use Rattle.im_plan.proofs.EntryLemmas.{zip-length}

-- ---- a list that has something of each number

filter-few : {A : Type 0} (p : A → Bool) (xs : List A) → length (filter p xs) ≤ length xs
filter-few p [] = omega arith
filter-few p (x ∷ xs) = elim (p x) as (λ (b : Bool). length (cond b (x ∷ filter p xs) (filter p xs)) ≤ length (x ∷ xs)) [
  | true ↦ (let few : length (filter p xs) ≤ length xs = filter-few p xs in omega (arith, few))
  | false ↦ (let few : length (filter p xs) ≤ length xs = filter-few p xs in omega (arith, few))
]

pub fewer : {A : Type 0} (p : A → Bool) (xs : List A) (x : A) → IsAmong xs x → p x ≡ true → length (filter (λ y. not (p y)) xs) < length xs
fewer p [] x m e = absurd (let no : ⊥ = (let few : m.0 < 0 = m.1.0 in omega (arith, few)) in no)
fewer {A} p (y ∷ ys) x m e = elim (among-cons y ys x m) [
  | inl same ↦ (
      let here : p y ≡ true = subst (λ (z : A). p z ≡ true) same e in
      let gone : length (filter (λ z. not (p z)) (y ∷ ys)) ≡ length (filter (λ z. not (p z)) ys) =
      ap (λ (b : Bool). length (cond (not b) (y ∷ filter (λ z. not (p z)) ys) (filter (λ z. not (p z)) ys))) here in
      let few : length (filter (λ z. not (p z)) ys) ≤ length ys = filter-few (λ z. not (p z)) ys in
      omega (arith, gone, few))
  | inr rest ↦ elim (not (p y)) as (λ (b : Bool). length (cond b (y ∷ filter (λ z. not (p z)) ys) (filter (λ z. not (p z)) ys)) < length (y ∷ ys)) [
    | true ↦ (let less : length (filter (λ z. not (p z)) ys) < length ys = fewer p ys x rest e in omega (arith, less))
    | false ↦ (let less : length (filter (λ z. not (p z)) ys) < length ys = fewer p ys x rest e in omega (arith, less))
  ]
]

pub few-by : {A : Type 0} (p : ℕ → A → Bool) (count : ℕ) (ys : List A)
    → ((j k : ℕ) (x : A) → 1 ≤ j → j ≤ count → 1 ≤ k → k ≤ count → p j x ≡ true → p k x ≡ true → j ≡ k)
    → ((k : ℕ) → 1 ≤ k → k ≤ count → (x : A) × IsAmong ys x × (p k x ≡ true)) → count ≤ length ys
few-by p zero ys one there = omega arith
few-by p (suc n) ys one there =
    let top = there (suc n) (omega arith) (omega arith) in
    let less : length (filter (λ y. not (p (suc n) y)) ys) < length ys = fewer (p (suc n)) ys top.0 top.1 top.2 in
    let few : n ≤ length (filter (λ y. not (p (suc n) y)) ys) =
    few-by p n (filter (λ y. not (p (suc n) y)) ys)
    (λ j k x a b c d e f. one j k x a (omega (arith, b)) c (omega (arith, d)) e f)
    (λ k some low.
    let found = there k some (omega (arith, low)) in
    let other : p (suc n) found.0 ≡ false =
    false_from_ne_true (p (suc n) found.0) (λ e. (let same : k ≡ suc n = one k (suc n) found.0 some (omega (arith, low)) (omega arith) (omega arith) found.2 e in omega (arith, same, low))) in
    (found.0, among-kept (λ y. not (p (suc n) y)) ys found.0 found.1 (ap not other), found.2)) in
    omega (arith, less, few)

-- ---- the versions of a history

few-in : (k : ℕ) (entries : List Entry) → length (versions_in k entries) ≤ length entries
few-in k entries =
    let mapped : length (versions_in k entries) ≡ length (filter is_shown entries) = length-map (filter is_shown entries) (version_of k) in
    let few : length (filter is_shown entries) ≤ length entries = filter-few is_shown entries in
    omega (arith, mapped, few)

few-from : (k before bl : ℕ) (txs : List Transaction) → Follow before bl txs → length (versions_from k txs) ≤ 1024 * length txs
few-from k before bl [] follow = omega arith
few-from k before bl (tx ∷ txs) follow =
    let rest : length (versions_from (k + 1) txs) ≤ 1024 * length txs = few-from (k + 1) (before + 1) tx.bl txs follow.2 in
    let here : length (versions_in k tx.entries) ≤ length tx.entries = few-in k tx.entries in
    let most : length tx.entries ≤ 1024 = follow.0.few in
    let both : length (versions_from k (tx ∷ txs)) ≡ length (versions_in k tx.entries) + length (versions_from (k + 1) txs) = length-append (versions_in k tx.entries) (versions_from (k + 1) txs) in
    omega (arith, rest, here, most, both)

all-few : (history : List Transaction) → IsHistory history → length (all_versions history) ≤ 1073741824
all-few history is =
    let each : length (all_versions history) ≤ 1024 * length history = few-from 1 0 0 history is.follow in
    let most : length history ≤ 1048576 = is.few in
    omega (arith, each, most)

-- ---- tables

front-text : (t : Table) → (rest : List ℕ) × (table_text t ≡ field4 t.tid ++ rest)
front-text t =
    let count : List ℕ = field2 (length t.columns) in
    let columns : List ℕ = flat_map column_text t.columns in (
      (count ++ columns) ++ numbers_text t.key,
      ap (λ (s : List ℕ). s ++ numbers_text t.key) (append_assoc (field4 t.tid) count columns) ∙ append_assoc (field4 t.tid) (count ++ columns) (numbers_text t.key),
    )

says-one : (j k : ℕ) (text : List ℕ) → j < 2 ^ 32 → k < 2 ^ 32 → begins_with (field4 j) text ≡ true → begins_with (field4 k) text ≡ true → j ≡ k
says-one j k text a b p q = (tid-cut j k _ _ a b (sym (begins-is (field4 j) text p) ∙ begins-is (field4 k) text q)).0

pub count-few : (history : List Transaction) (count : ℕ) → IsHistory history → IsSqlSound history → CountIs history count → count < 2 ^ 32 - 1
count-few history count is sound (inl none) = (let zero_is : count ≡ 0 = none.1 in omega (arith, zero_is))
count-few history count is sound (inr some) =
    let most : count < 2 ^ 32 = some.0 in
    let same : sound.count ≡ count = one-count history sound.count count sound.counted (inr some) in
    let few : count ≤ length (all_versions history) =
    few-by (λ (k : ℕ) (v : Version). begins_with (field4 k) v.value) count (all_versions history)
    (λ j k v a b c d p q. says-one j k v.value (omega (arith, b, most)) (omega (arith, d, most)) p q)
    (λ k low high.
    let found = sound.filled k low (let within : k ≤ sound.count = omega (arith, high, same) in within) in
    let t : Table = found.0 in
    let v : Version = found.1.1.0 in
    let text = front-text t in
    let begins : begins_with (field4 t.tid) v.value ≡ true = begins-from (field4 t.tid) text.0 v.value (found.1.1.3 ∙ text.1) in
    (v, last-among-all history _ v found.1.1.1, subst (λ (n : ℕ). begins_with (field4 n) v.value ≡ true) found.2 begins)) in
    let all : length (all_versions history) ≤ 1073741824 = all-few history is in
    omega (arith, few, all)

-- ---- indexes

places-one : (shown : List Version) (j k : ℕ) (key : List ℕ) → ((a b : ℕ) (d : Version) → a < b → b < length shown → IsBelow (get_or shown a d).key (get_or shown b d).key) → 1 ≤ j → j ≤ length shown → 1 ≤ k
    → k ≤ length shown → bytes_eq (get_or shown (j - 1) no_version).key key ≡ true → bytes_eq (get_or shown (k - 1) no_version).key key ≡ true → j ≡ k
places-one shown j k key rising a b c d p q =
    let first : (get_or shown (j - 1) no_version).key ≡ key = (bytes_eq-Decides (get_or shown (j - 1) no_version).key key).0 p in
    let second : (get_or shown (k - 1) no_version).key ≡ key = (bytes_eq-Decides (get_or shown (k - 1) no_version).key key).0 q in
    elim (cases_order j k) [
      | inl same ↦ same
      | inr (inl less) ↦ absurd (itself (rising (j - 1) (k - 1) no_version (omega (arith, less, a)) (omega (arith, c, d))) (first ∙ sym second))
      | inr (inr more) ↦ absurd (itself (rising (k - 1) (j - 1) no_version (omega (arith, more, c)) (omega (arith, a, b))) (second ∙ sym first))
    ]
  where
    itself : {x y : List ℕ} → IsBelow x y → x ≡ y → ⊥
    itself {x} {y} below same = (let own : IsBelow y y = subst (λ (z : List ℕ). IsBelow z y) same below in below-strict y y own own)

pub indexes-few : (history : List Transaction) (t : Table) (indexes : List SqlIndex) → IsHistory history → IndexesAre history t indexes → length indexes < 2 ^ 32 - 1
indexes-few history t indexes is are =
    let shown : List Version = are.0 in
    let few : length shown ≤ length (all_versions history) =
    few-by (λ (k : ℕ) (v : Version). bytes_eq (get_or shown (k - 1) no_version).key v.key) (length shown) (all_versions history)
    (λ j k v a b c d p q. places-one shown j k v.key are.1.rising a b c d p q)
    (λ k low high.
    let v : Version = get_or shown (k - 1) no_version in
    let alive = are.1.live (k - 1) no_version (omega (arith, low, high)) in
    (v, last-among-all history v.key v alive.0, (bytes_eq-Decides v.key v.key).1 refl)) in
    let all : length (all_versions history) ≤ 1073741824 = all-few history is in
    let long : length shown ≡ length indexes = zip-length (IsIndexVersion t) shown indexes are.2 in
    omega (arith, few, all, long)
