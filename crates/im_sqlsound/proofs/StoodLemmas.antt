-- The rows and the indexes that a statement's table has where it is judged.
use Rattle.std.proofs.Common.{◌≡◌, ◌≤◌, ◌<◌, ◌+◌, ◌||◌, inl, inr, ℕ, Bool, true, false, List, [], ◌∷◌, find, bytes_eq, length, get_or, is_some, Option, Some, None, refl, sym, ap, ◌∙◌, subst, arith}
use Rattle.std.proofs.lemmas.Bool.{true≢false, cases_Bool}
use Rattle.std.proofs.lemmas.List.Elements.{All-from_recursion}
use Rattle.std.proofs.lemmas.Slice.Eq.{bytes_eq-Decides}
use Rattle.std.specs.List.{IsAmong, last_or}
use Rattle.std.specs.Option.{option_map}
use Rattle.im_octet.specs.Fields.{field4}
use Rattle.im_octet.proofs.Common.{some-is}
use Rattle.im_model.specs.declared.transactions.Transaction.{Transaction}
use Rattle.im_versions.specs.Versions.{last_version, last_number, version_number, versions_from, versions_of, is_of, begins_with, IsBelow}
use Rattle.im_versions.specs.declared.versions.Version.{Version}
use Rattle.im_versions.proofs.ListLemmas.{All-among, among-cons, last-among-or}
use Rattle.im_versions.proofs.VersionLemmas.{last-of-key}
use Rattle.im_sqltype.specs.Texts.{row_text}
use Rattle.im_sqltype.specs.declared.values.Value.{Value}
use Rattle.im_sqlmodel.specs.Keys.{table_prefix, indexes_prefix, index_prefix, index_key, rows_prefix}
use Rattle.im_sqlmodel.specs.Kept.{IsTableOf, IsSqlIndexOf, IsRowOf, IsSqlSound}
use Rattle.im_sqlmodel.specs.Rows.{IsIndexVersion, IsStoredRow, IndexesAre, RowsAre, columns_of, key_of}
use Rattle.im_sqlmodel.specs.declared.rows.StoredRow.{StoredRow}
use Rattle.im_sqlmodel.specs.declared.tables.SqlIndex.{SqlIndex}
use Rattle.im_sqlmodel.specs.declared.tables.Table.{Table}
use Rattle.im_sqlmodel.specs.declared.written.Written.{Written}
use Rattle.im_catalog.proofs.FoundLemmas.{begins-is}
use Rattle.im_catalog.proofs.FrontLemmas.{begins-from}
use Rattle.im_catalog.proofs.OneLemmas.{one-index-version}
use Rattle.im_catalog.proofs.ThereLemmas.{no_version}
use Rattle.im_plan.proofs.BestLemmas.{at-any}
use Rattle.im_plan.proofs.EntryLemmas.{zip-at, zip-length, zip-among, zip-among-left}
use Rattle.im_plan.proofs.EntryRowLemmas.{text-same}
use Rattle.im_sql.specs.Writing.{written_at}
use Rattle.im_sql.proofs.LookLemmas.{number-some}
use Rattle.im_sql.proofs.NextLemmas.{Apart, kept-apart, find-none, find-some}
use Rattle.im_sqlsound.proofs.NumberLemmas.{index-less, at-place}
use Rattle.im_sqlsound.proofs.TurnLemmas.{Rises, from-rises}
use Rattle.im_sql.proofs.WorkLemmas.{index-of, row-of}

-- ---- what is found in a list

-- what is written at a key stands in the list
pub find-told : (key : List ℕ) (value : Option (List ℕ)) (ws : List Written) → written_at ws key ≡ Some value → (w : Written) × IsAmong ws w × (key ≡ w.key)
find-told key value ws e = by-found (find (λ (w : Written). bytes_eq key w.key) ws) refl e
  where
    by-found : (o : Option Written) → find (λ (w : Written). bytes_eq key w.key) ws ≡ o → option_map (λ (w : Written). w.value) o ≡ Some value → (w : Written) × IsAmong ws w × (key ≡ w.key)
    by-found None is f = absurd (true≢false (sym (ap (λ p. is_some p) f)))
    by-found (Some w) is f = (let found = find-some (λ (x : Written). bytes_eq key x.key) ws w is in (w, found.0, (bytes_eq-Decides key w.key).0 found.1))

-- the one that passes a test is found
pub find-alone : {A : Type 0} (q : A → Bool) (xs : List A) (x : A) → IsAmong xs x → q x ≡ true → ((y : A) → IsAmong xs y → q y ≡ true → y ≡ x) → find q xs ≡ Some x
find-alone {A} q xs x m passes one = by-found (find q xs) refl
  where
    by-found : (o : Option A) → find q xs ≡ o → o ≡ Some x
    by-found None is = absurd (true≢false (sym passes ∙ All-among (λ y. q y ≡ false) xs x (All-from_recursion (λ y. q y ≡ false) xs (find-none q xs is)) m))
    by-found (Some y) is = (let found = find-some q xs y is in ap (λ z. Some z) (one y found.0 found.1))

-- one that passes is found, if not this one
pub find-other : {A : Type 0} (q : A → Bool) (xs : List A) (x : A) → IsAmong xs x → q x ≡ true → (y : A) × (find q xs ≡ Some y) × IsAmong xs y × (q y ≡ true)
find-other {A} q xs x m passes = by-found (find q xs) refl
  where
    by-found : (o : Option A) → find q xs ≡ o → (y : A) × (find q xs ≡ Some y) × IsAmong xs y × (q y ≡ true)
    by-found None is = absurd (true≢false (sym passes ∙ All-among (λ y. q y ≡ false) xs x (All-from_recursion (λ y. q y ≡ false) xs (find-none q xs is)) m))
    by-found (Some y) is = (let found = find-some q xs y is in (y, is, found.0, found.1))

pub none-some : {A : Type 0} (x : A) → Some x ≡ None → ⊥
none-some x e = true≢false (ap (λ o. is_some o) e)

-- ---- no version of a key is behind its last

last-high : (o : Option Version) (vs : List Version) (v w : Version) → Apart Rises vs → IsAmong vs v → last_or o vs ≡ Some w → v.tx ≤ w.tx
last-high o [] v w apart m e = absurd (let no : ⊥ = (let few : m.0 < 0 = m.1.0 in omega (arith, few)) in no)
last-high o (x ∷ xs) v w apart m e = elim (among-cons x xs v m) [
  | inl first ↦ elim (last-among-or (Some x) xs w e) [
    | inl same ↦ (let one : x ≡ w = some-is x w same in let number : v.tx ≡ w.tx = ap (λ (u : Version). u.tx) (first ∙ one) in omega (arith, number))
    | inr rest ↦ (
        let high : x.tx ≤ w.tx = All-among (Rises x) xs w (All-from_recursion (Rises x) xs apart.0) rest in
        let number : v.tx ≡ x.tx = ap (λ (u : Version). u.tx) first in
        omega (arith, high, number))
  ]
  | inr rest ↦ last-high (Some x) xs v w apart.1 rest e
]

none-ends : (y : Version) (ys : List Version) → last_or (Some y) ys ≡ None → ⊥
none-ends y [] e = none-some y e
none-ends y (z ∷ zs) e = none-ends z zs e

none-last : (vs : List Version) (v : Version) → IsAmong vs v → last_or None vs ≡ None → ⊥
none-last [] v m e = (let few : m.0 < 0 = m.1.0 in omega (arith, few))
none-last (x ∷ xs) v m e = none-ends x xs e

pub among-low : (history : List Transaction) (key : List ℕ) (v : Version) → IsAmong (versions_of history key) v → v.tx ≤ last_number history key
among-low history key v m = by-last (last_version history key) refl
  where
    by-last : (o : Option Version) → last_version history key ≡ o → v.tx ≤ version_number (last_version history key)
    by-last None e = absurd (none-last (versions_of history key) v m e)
    by-last (Some w) e =
        subst (λ (o : Option Version). v.tx ≤ version_number o) (sym e)
        (last-high None (versions_of history key) v w (kept-apart Rises (is_of key) (versions_from 1 history) (from-rises 1 history)) m e)

-- a key of a table or an index, by its second octet
pub second-of : (key : List ℕ) → (begins_with table_prefix key || begins_with indexes_prefix key) ≡ true → (m : ℕ) × (m < 3) × (get_or key 1 0 ≡ m)
second-of key h = elim (cases_Bool (begins_with table_prefix key)) [
  | inl table ↦ (1, omega arith, ap (λ (k : List ℕ). get_or k 1 0) (begins-is table_prefix key table))
  | inr other ↦ (
      let index : begins_with indexes_prefix key ≡ true = ap (λ (b : Bool). b || begins_with indexes_prefix key) (sym other) ∙ h in
      (2, omega arith, ap (λ (k : List ℕ). get_or k 1 0) (begins-is indexes_prefix key index)))
]

-- ---- the rows that stood

module _ (history : List Transaction) (t : Table) (stood : List StoredRow) (of : IsTableOf history t) (all : RowsAre history t stood) where
  pub stood-number : (s : StoredRow) → IsAmong stood s → 1 ≤ s.tx
  stood-number s m =
      let found = zip-among (IsStoredRow t) all.0 stood s all.2 m in
      let alive = All-among (λ (w : Version). (last_version history w.key ≡ Some w) × (w.deleted ≡ false)) all.0 found.0 all.1.live found.1 in
      subst (λ (k : ℕ). 1 ≤ k) (sym found.2.1) (number-some history found.0 alive.0)

  pub stood-row : (s : StoredRow) → IsAmong stood s → IsRowOf history t s.row
  stood-row s m = subst (λ (r : StoredRow). IsRowOf history t r.row) (sym m.1.1) (row-of history t stood m.0 s of all m.1.0)

  pub row-stood : (row : List Value) → IsRowOf history t row → (s : StoredRow) × IsAmong stood s × (s.row ≡ row)
  row-stood row is =
      let v : Version = is.2.0 in
      let own : v.key ≡ key_of t row = last-of-key history (key_of t row) v is.2.1 in
      let begins : begins_with (rows_prefix t.tid) (key_of t row) ≡ true = begins-from (rows_prefix t.tid) (row_text (columns_of row t.key)) (key_of t row) refl in
      let found = zip-among-left (IsStoredRow t) all.0 stood v all.2 (all.1.all (key_of t row) v is.2.1 is.2.2 begins) in
      (found.0, found.1, text-same t found.0.row row found.2.0.0 is.1 (sym found.2.0.2 ∙ is.2.3))

-- ---- the indexes that stood

module _ (history : List Transaction) (t : Table) (indexes : List SqlIndex) (sound : IsSqlSound history) (of : IsTableOf history t) (are : IndexesAre history t indexes) where
  index-listed : (i : SqlIndex) → IsSqlIndexOf history t i → IsAmong indexes i
  index-listed i is =
      let v : Version = is.2.0 in
      let own : v.key ≡ index_key t.tid i.iid = last-of-key history (index_key t.tid i.iid) v is.2.1 in
      let begins : begins_with (index_prefix t.tid) (index_key t.tid i.iid) ≡ true = begins-from (index_prefix t.tid) (field4 i.iid) (index_key t.tid i.iid) refl in
      let found = zip-among-left (IsIndexVersion t) are.0 indexes v are.2 (are.1.all (index_key t.tid i.iid) v is.2.1 is.2.2 begins) in
      subst (IsAmong indexes) (one-index-version t of.0 v found.0 i found.2 (is.1, own, is.2.3)) found.1

  iids-rise : (j k : ℕ) (d : SqlIndex) → j < k → k < length indexes → (get_or indexes j d).iid < (get_or indexes k d).iid
  iids-rise j k d less l =
      let vs : List Version = are.0 in
      let long : length vs ≡ length indexes = zip-length (IsIndexVersion t) vs indexes are.2 in
      let first = zip-at (IsIndexVersion t) vs indexes j no_version d are.2 (omega (arith, less, l)) in
      let other = zip-at (IsIndexVersion t) vs indexes k no_version d are.2 l in
      let below : IsBelow (get_or vs j no_version).key (get_or vs k no_version).key = are.1.rising j k no_version less (omega (arith, long, l)) in
      index-less t.tid (get_or indexes j d).iid (get_or indexes k d).iid first.0.iid.1 other.0.iid.1
      (subst (λ (key : List ℕ). IsBelow (index_key t.tid (get_or indexes j d).iid) key) other.1 (subst (λ (key : List ℕ). IsBelow key (get_or vs k no_version).key) first.1 below))

  pub here : (k : ℕ) (d : SqlIndex) → k < length indexes → IsAmong indexes (get_or indexes k d)
  here k d l = (k, (l, at-any indexes k d (get_or indexes k d) l))

  -- they run from 1
  pub iid-at : (k : ℕ) (d : SqlIndex) → k < length indexes → (get_or indexes k d).iid ≡ k + 1
  iid-at k d l =
      at-place (λ (i : SqlIndex). i.iid) indexes d (λ j q. (index-of history t indexes (get_or indexes j d) of are (here j d q)).1.iid.0) (λ i j less q. iids-rise i j d less q)
      (λ j n q low high.
      let found = sound.gapless t (get_or indexes j d) n (index-of history t indexes (get_or indexes j d) of are (here j d q)) low high in
      let there = index-listed found.0 found.1 in
      (there.0, there.1.0, ap (λ (i : SqlIndex). i.iid) (at-any indexes there.0 d found.0 there.1.0 ∙ sym there.1.1) ∙ found.2))
      (length indexes) k l l

  -- none has a number behind them
  pub none-behind : (i : SqlIndex) → IsSqlIndexOf history t i → i.iid ≡ length indexes + 1 → ⊥
  none-behind i is number =
      let m = index-listed i is in
      let own : i.iid ≡ m.0 + 1 = ap (λ (j : SqlIndex). j.iid) m.1.1 ∙ iid-at m.0 i m.1.0 in
      let l : m.0 < length indexes = m.1.0 in
      omega (arith, number, own, l)
