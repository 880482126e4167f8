-- What stands under the keys of an index where keys are SQL's: an entry of a row, and each row's once.
use Rattle.std.proofs.Common.{◌≡◌, ◌≢◌, ◌≤◌, ◌<◌, ◌^◌, inl, inr, ℕ, suc, Bool, true, false, if◌then◌else◌, List, [], ◌∷◌, ◌++◌, length, drop, get_or, map, filter, All, AllPairs, Some, None, Vec, Global, refl, sym, ap, ◌∙◌, subst, append_assoc, arith}
use Rattle.std.proofs.lemmas.Bool.{true≢false}
use Rattle.std.proofs.lemmas.Cmp.{nat_list_cmp_total}
use Rattle.std.proofs.lemmas.List.Elements.{All-from_recursion, recursion_from_All}
use Rattle.std.proofs.lemmas.List.Kept.{AllPairs-cons}
use Rattle.std.proofs.lemmas.List.Sorted.{All-permutation, IsPermutation-map, IsPermutation-sym, ranks_by, sorted_far}
use Rattle.std.proofs.lemmas.Map.Keys.{IsDistinct-IsPermutation}
use Rattle.std.proofs.lemmas.Map.Made.{AllPairs-from_IsDistinct, IsDistinct-from_AllPairs}
use Rattle.std.proofs.lemmas.Slice.Eq.{bytes_eq-Decides}
use Rattle.std.specs.Cmp.Lexicographic.{slice_cmp}
use Rattle.std.specs.List.{AllByRecursion, AllZip, IsAmong}
use Rattle.std.specs.List.Sorted.{IsPermutation, IsSortedBy}
use Rattle.std.specs.Ordering.{is_lt, nat_cmp}
use Rattle.std.specs.Str.{bytes_eq}
use Rattle.std.specs.declared.cmp.Ordering.{Ordering}
use Rattle.std.specs.declared.cmp.Ordering.TheVariants.{Less, Equal, Greater}
use Rattle.im_octet.specs.Fields.{field4}
use Rattle.im_model.specs.declared.transactions.Transaction.{Transaction}
use Rattle.im_versions.specs.Versions.{last_version, is_live, begins_with, IsBelow, IsScan}
use Rattle.im_versions.specs.declared.versions.Version.{Version}
use Rattle.im_versions.proofs.ListLemmas.{All-among, among-itself}
use Rattle.im_versions.proofs.ScanLemmas.{below-turned, same-key}
use Rattle.im_versions.proofs.VersionLemmas.{last-of-key, below-strict}
use Rattle.im_sqltype.specs.Kinds.{AreOfKinds}
use Rattle.im_sqltype.specs.Texts.{row_text}
use Rattle.im_sqltype.specs.declared.values.Value.{Value}
use Rattle.im_sqltype.proofs.FrontLemmas.{row-front}
use Rattle.im_sqlmodel.specs.Keys.{tables_key, table_key, index_key, mark_key, rows_prefix, plain_prefix, unique_prefix}
use Rattle.im_sqlmodel.specs.Tables.{kinds_of, index_text}
use Rattle.im_sqlmodel.specs.Rows.{IsLiveAs, IsStoredRow, RowsAre, columns_of, key_of}
use Rattle.im_sqlmodel.specs.Writes.{entry_written}
use Rattle.im_sqlmodel.specs.Kept.{IsSqlIndexOf, IsRowOf, IsText, IsSqlSound}
use Rattle.im_sqlmodel.specs.declared.rows.StoredRow.{StoredRow}
use Rattle.im_sqlmodel.specs.declared.tables.SqlIndex.{SqlIndex}
use Rattle.im_sqlmodel.specs.declared.tables.Table.{Table}
use Rattle.im_sqlmodel.proofs.OnceLemmas.{value-live, one-value, one-stored}
use Rattle.im_sqlmodel.proofs.SortLemmas.{Rises, rises}
use Rattle.im_catalog.specs.Rows.{RowAt, entries_prefix}
use Rattle.im_catalog.proofs.FoundLemmas.{begins-is}
use Rattle.im_catalog.proofs.FrontLemmas.{begins-from}
use Rattle.im_catalog.proofs.OneLemmas.{one-index-version}
use Rattle.im_catalog.proofs.TableLemmas.{tid-cut}
use Rattle.im_catalog.proofs.ThereLemmas.{no_version}
use Rattle.im_plan.specs.Plans.{HasEntryText, IsKeyOfEntry}
use Rattle.im_plan.proofs.EntryLemmas.{rows-by-keys, zip-among, zip-among-left, zip-at, zip-length}
use Rattle.im_plan.proofs.ReachLemmas.{entry-parts}

-- ---- the parts of an entry's key

abbrev pub prefix_by : Bool → ℕ → ℕ → List ℕ
prefix_by unique tid iid = if unique then unique_prefix tid iid else plain_prefix tid iid

prefix-second : (unique : Bool) (tid iid : ℕ) (rest : List ℕ) → 5 ≤ get_or (prefix_by unique tid iid ++ rest) 1 0
prefix-second true tid iid rest = omega arith
prefix-second false tid iid rest = omega arith

-- no such key is one of another kind
not-low : (n : ℕ) (unique : Bool) (tid iid : ℕ) (rest key other : List ℕ) → n < 5 → key ≡ prefix_by unique tid iid ++ rest → get_or other 1 0 ≡ n → key ≡ other → ⊥
not-low n unique tid iid rest key other low e is same =
    let high : 5 ≤ get_or (prefix_by unique tid iid ++ rest) 1 0 = prefix-second unique tid iid rest in
    let second : get_or (prefix_by unique tid iid ++ rest) 1 0 ≡ n = ap (λ (k : List ℕ). get_or k 1 0) (sym e ∙ same) ∙ is in
    omega (arith, low, high, second)

numbers-cut : (tid iid other_tid other_iid : ℕ) (rest other : List ℕ) → tid < 2 ^ 32 → iid < 2 ^ 32 → other_tid < 2 ^ 32 → other_iid < 2 ^ 32
    → (field4 tid ++ field4 iid) ++ rest ≡ (field4 other_tid ++ field4 other_iid) ++ other → (tid ≡ other_tid) × (iid ≡ other_iid)
numbers-cut tid iid other_tid other_iid rest other p q r s e =
    let first = tid-cut tid other_tid (field4 iid ++ rest) (field4 other_iid ++ other) p r
    (sym (append_assoc (field4 tid) (field4 iid) rest) ∙ e ∙ append_assoc (field4 other_tid) (field4 other_iid) other) in
    let second = tid-cut iid other_iid rest other q s first.1 in
    (first.0, second.0)

pub prefix-cut : (unique other_unique : Bool) (tid iid other_tid other_iid : ℕ) (rest other : List ℕ) → tid < 2 ^ 32 → iid < 2 ^ 32 → other_tid < 2 ^ 32 → other_iid < 2 ^ 32
    → prefix_by unique tid iid ++ rest ≡ prefix_by other_unique other_tid other_iid ++ other → (tid ≡ other_tid) × (iid ≡ other_iid)
prefix-cut true true tid iid other_tid other_iid rest other p q r s e = numbers-cut tid iid other_tid other_iid rest other p q r s (ap (λ (k : List ℕ). drop 2 k) e)
prefix-cut false false tid iid other_tid other_iid rest other p q r s e = numbers-cut tid iid other_tid other_iid rest other p q r s (ap (λ (k : List ℕ). drop 2 k) e)
prefix-cut true false tid iid other_tid other_iid rest other p q r s e = absurd (let no : ⊥ = (let six : 6 ≡ 5 = ap (λ (k : List ℕ). get_or k 1 0) e in omega (arith, six)) in no)
prefix-cut false true tid iid other_tid other_iid rest other p q r s e = absurd (let no : ⊥ = (let five : 5 ≡ 6 = ap (λ (k : List ℕ). get_or k 1 0) e in omega (arith, five)) in no)

-- ---- an entry is a row's

-- the entry of a live row
pub record IsEntryHere (history : List Transaction) (t : Table) (i : SqlIndex) (key value : List ℕ) (row : List Value) : Type 0 where
  pub row_is : IsRowOf history t row
  pub key_is : key ≡ (entry_written t row i).key
  pub value_is : Some value ≡ (entry_written t row i).value

abbrev pub HasEntryHere : List Transaction → Table → SqlIndex → List ℕ → List ℕ → Type 0
HasEntryHere history t i key value = (row : List Value) × IsEntryHere history t i key value row

-- two indexes of one number are one
pub one-index : (history : List Transaction) (t : Table) (i j : SqlIndex) → IsSqlIndexOf history t i → IsSqlIndexOf history t j → i.iid ≡ j.iid → j ≡ i
one-index history t i j is js same =
    let key : index_key t.tid i.iid ≡ index_key t.tid j.iid = ap (index_key t.tid) same in
    let text : index_text i ≡ index_text j = one-value history (index_key t.tid j.iid) (index_text i) (index_text j) (subst (λ k. IsLiveAs history k (index_text i)) key is.2) js.2 in
    one-index-version t js.0.0 js.2.0 j i
    (js.1, last-of-key history (index_key t.tid j.iid) js.2.0 js.2.1, js.2.3)
    (is.1, last-of-key history (index_key t.tid j.iid) js.2.0 js.2.1 ∙ sym key, js.2.3 ∙ sym text)

entry-of-text : (history : List Transaction) (t : Table) (i : SqlIndex) (key value rest : List ℕ) → IsSqlSound history → IsSqlIndexOf history t i
    → key ≡ entries_prefix t i ++ rest → IsText history key value → HasEntryHere history t i key value
entry-of-text history t i key value rest sound of e (inl is) =
    absurd (not-low 0 i.unique t.tid i.iid rest key tables_key (omega arith) e refl is.2)
entry-of-text history t i key value rest sound of e (inr (inl is)) =
    absurd (not-low 1 i.unique t.tid i.iid rest key (table_key is.0.name) (omega arith) e refl is.2)
entry-of-text history t i key value rest sound of e (inr (inr (inl is))) =
    absurd (not-low 2 i.unique t.tid i.iid rest key (index_key is.0.tid is.1.iid) (omega arith) e refl is.4)
entry-of-text history t i key value rest sound of e (inr (inr (inr (inl is)))) =
    absurd (not-low 3 i.unique t.tid i.iid rest key (mark_key is.0.tid) (omega arith) e refl is.2)
entry-of-text history t i key value rest sound of e (inr (inr (inr (inr (inl is))))) =
    absurd (not-low 4 i.unique t.tid i.iid rest key (key_of is.0 is.1) (omega arith) e refl is.4)
entry-of-text history t i key value rest sound of e (inr (inr (inr (inr (inr is))))) =
    let u : Table = is.0 in
    let j : SqlIndex = is.1 in
    let row : List Value = is.2 in
    let parts = entry-parts u row j in
    let cut = prefix-cut i.unique j.unique t.tid i.iid u.tid j.iid rest (row_text (columns_of row j.columns) ++ parts.0) of.0.0.tid.1 of.1.iid.1 is.3.0.0.tid.1 is.3.1.iid.1
    (sym e ∙ is.5 ∙ parts.1) in
    let table : u ≡ t = sound.once u t is.3.0 of.0 (sym cut.0) in
    let index : j ≡ i = one-index history t i j of (subst (λ (w : Table). IsSqlIndexOf history w j) table is.3) cut.1 in (
      row,
      record {
        row_is = subst (λ (w : Table). IsRowOf history w row) table is.4;
        key_is = is.5 ∙ ap (λ (w : Table). (entry_written w row j).key) table ∙ ap (λ (k : SqlIndex). (entry_written t row k).key) index;
        value_is = is.6 ∙ ap (λ (w : Table). (entry_written w row j).value) table ∙ ap (λ (k : SqlIndex). (entry_written t row k).value) index;
      },
    )

-- the prefix begins with octet 00
abbrev pub behind_octet : Bool → ℕ → ℕ → List ℕ
behind_octet true tid iid = 6 ∷ field4 tid ++ field4 iid
behind_octet false tid iid = 5 ∷ field4 tid ++ field4 iid

first-octet : (unique : Bool) (tid iid : ℕ) (rest : List ℕ) → prefix_by unique tid iid ++ rest ≡ 0 ∷ (behind_octet unique tid iid ++ rest)
first-octet true tid iid rest = refl
first-octet false tid iid rest = refl

pub entry-live : (history : List Transaction) (t : Table) (i : SqlIndex) (v : Version) (rest : List ℕ) → IsSqlSound history → IsSqlIndexOf history t i
    → v.key ≡ entries_prefix t i ++ rest → last_version history v.key ≡ Some v → v.deleted ≡ false → HasEntryHere history t i v.key v.value
entry-live history t i v rest sound of e last live =
    let behind : List ℕ = behind_octet i.unique t.tid i.iid ++ rest in
    let key : v.key ≡ 0 ∷ behind = e ∙ first-octet i.unique t.tid i.iid rest in
    let value : IsLiveAs history (0 ∷ behind) v.value = subst (λ (k : List ℕ). IsLiveAs history k v.value) key (v, last, live, refl) in
    entry-of-text history t i v.key v.value rest sound of e (subst (λ (k : List ℕ). IsText history k v.value) (sym key) (sound.texts behind v.value value))

-- ---- the entries that a scan shows

-- those under a front of the index's keys
pub entries-there : (history : List Transaction) (t : Table) (i : SqlIndex) (front : List ℕ) (shown : List Version) → IsSqlSound history → IsSqlIndexOf history t i
    → (rest : List ℕ) × (front ≡ entries_prefix t i ++ rest) → IsScan history front shown → All (λ v. HasEntryHere history t i v.key v.value) shown
entries-there history t i front shown sound of is scan = λ k d l.
    let v : Version = get_or shown k d in
    let more : List ℕ = drop (length front) v.key in
    let key : v.key ≡ entries_prefix t i ++ (is.0 ++ more) =
    begins-is front v.key (scan.begin k d l) ∙ ap (λ (f : List ℕ). f ++ more) is.1 ∙ append_assoc (entries_prefix t i) is.0 more in
    entry-live history t i v (is.0 ++ more) sound of key (scan.live k d l).0 (scan.live k d l).1

pub entry-text : (history : List Transaction) (t : Table) (i : SqlIndex) (v : Version) → HasEntryHere history t i v.key v.value → HasEntryText t i v
entry-text history t i v has = (has.0, (has.1.row_is.1, has.1.key_is, has.1.value_is))

pub entry-texts : (history : List Transaction) (t : Table) (i : SqlIndex) (shown : List Version) → All (λ v. HasEntryHere history t i v.key v.value) shown → All (HasEntryText t i) shown
entry-texts history t i shown all = λ k d l. entry-text history t i (get_or shown k d) (all k d l)

key-of-entry : (history : List Transaction) (t : Table) (i : SqlIndex) (v : Version) (key : List ℕ) → (has : HasEntryHere history t i v.key v.value) → IsKeyOfEntry t i v key → key ≡ key_of t has.0
key-of-entry history t i v key has is = is has.0 (has.1.row_is.1, has.1.key_is, has.1.value_is)

-- ---- rows

some-one : (a b : Version) → Some a ≡ Some b → a ≡ b
some-one a b e = ap (λ o. elim o [ Some z ↦ z | None ↦ a ]) e

pub text-same : (t : Table) (a b : List Value) → AreOfKinds (kinds_of t) a → AreOfKinds (kinds_of t) b → row_text a ≡ row_text b → a ≡ b
text-same t a b kinds others e = (row-front (kinds_of t) a b [] [] kinds others (ap (λ (r : List ℕ). r ++ []) e)).0

-- of one key there is one row
pub row-same : (history : List Transaction) (t : Table) (a b : List Value) → IsRowOf history t a → IsRowOf history t b → key_of t a ≡ key_of t b → a ≡ b
row-same history t a b x y same =
    text-same t a b x.1 y.1 (one-value history (key_of t b) (row_text a) (row_text b) (subst (λ (k : List ℕ). IsLiveAs history k (row_text a)) same x.2) y.2)

row-stored : (history : List Transaction) (t : Table) (row : List Value) (s : StoredRow) → IsRowOf history t row → RowAt history t (key_of t row) (Some s) → s.row ≡ row
row-stored history t row s is at =
    let same : at.0 ≡ is.2.0 = some-one at.0 is.2.0 (sym at.1 ∙ is.2.1) in
    text-same t s.row row at.3.0.0 is.1 (sym at.3.0.2 ∙ ap (λ (v : Version). v.value) same ∙ is.2.3)

pub row-listed : (history : List Transaction) (t : Table) (rows : List StoredRow) (key : List ℕ) (s : StoredRow) → RowsAre history t rows → RowAt history t key (Some s) → IsAmong rows s
row-listed history t rows key s all at =
    let own : at.0.key ≡ key = last-of-key history key at.0 at.1 in
    let begins : begins_with (rows_prefix t.tid) key ≡ true = begins-from (rows_prefix t.tid) (row_text (columns_of s.row t.key)) key (sym own ∙ at.3.0.1) in
    let found = zip-among-left (IsStoredRow t) all.0 rows at.0 all.2 (all.1.all key at.0 at.1 at.2 begins) in
    subst (IsAmong rows) (one-stored t at.0 found.0 s found.2 at.3) found.1

-- ---- the rows of entries

module _ (history : List Transaction) (t : Table) (i : SqlIndex) (front : List ℕ) (shown : List Version) (keys : List (List ℕ)) where
  abbrev pub is_meant : StoredRow → Bool
  is_meant s = begins_with front (entry_written t s.row i).key

  pub key-meant : (rows : List StoredRow) (key : List ℕ) (s : StoredRow) → RowsAre history t rows → IsScan history front shown
      → All (λ v. HasEntryHere history t i v.key v.value) shown → AllZip (IsKeyOfEntry t i) shown keys
      → IsAmong keys key → RowAt history t key (Some s) → IsAmong rows s × (is_meant s ≡ true)
  key-meant rows key s all scan has zip m at =
      let entry = zip-among (IsKeyOfEntry t i) shown keys key zip m in
      let v : Version = entry.0 in
      let here = All-among (λ (w : Version). HasEntryHere history t i w.key w.value) shown v has entry.1 in
      let begins : begins_with front v.key ≡ true = All-among (λ (w : Version). begins_with front w.key ≡ true) shown v scan.begin entry.1 in
      let own : key ≡ key_of t here.0 = key-of-entry history t i v key here entry.2 in
      let row : s.row ≡ here.0 = row-stored history t here.0 s here.1.row_is (subst (λ (k : List ℕ). RowAt history t k (Some s)) own at) in (
        row-listed history t rows key s all at,
        ap (λ (r : List Value). begins_with front (entry_written t r i).key) row ∙ ap (begins_with front) (sym here.1.key_is) ∙ begins,
      )

  value-there : (unique : Bool) (row : List Value) → (entry_written t row (record i { unique = unique })).value ≡ Some (if unique then row_text (columns_of row t.key) else [])
  value-there true row = refl
  value-there false row = refl

  abbrev value_of : List Value → List ℕ
  value_of row = if i.unique then row_text (columns_of row t.key) else []

  pub row-has : (rows : List StoredRow) (s : StoredRow) → IsSqlSound history → IsSqlIndexOf history t i → RowsAre history t rows → IsScan history front shown
      → AllZip (IsKeyOfEntry t i) shown keys
      → IsAmong rows s → is_meant s ≡ true → (key : List ℕ) × IsAmong keys key × ((r : StoredRow) → RowAt history t key (Some r) → r ≡ s)
  row-has rows s sound of all scan zip m meant =
      let stored = zip-among (IsStoredRow t) all.0 rows s all.2 m in
      let w : Version = stored.0 in
      let alive = All-among (λ (u : Version). (last_version history u.key ≡ Some u) × (u.deleted ≡ false)) all.0 w all.1.live stored.1 in
      let last : last_version history (key_of t s.row) ≡ Some w = subst (λ (k : List ℕ). last_version history k ≡ Some w) stored.2.0.1 alive.0 in
      let is_row : IsRowOf history t s.row = (of.0, stored.2.0.0, (w, last, alive.1, stored.2.0.2)) in
      let told : (entry_written t s.row i).value ≡ Some (value_of s.row) = value-there i.unique s.row in
      let stands : IsLiveAs history (entry_written t s.row i).key (value_of s.row) = sound.entries t i s.row (value_of s.row) of is_row told in
      let v : Version = stands.0 in
      let shows : IsAmong shown v = scan.all (entry_written t s.row i).key v stands.1 stands.2 meant in
      let entry = zip-among-left (IsKeyOfEntry t i) shown keys v zip shows in
      let key : entry.0 ≡ key_of t s.row = entry.2 s.row (stored.2.0.0, last-of-key history (entry_written t s.row i).key v stands.1, ap (λ (x : List ℕ). Some x) stands.3 ∙ sym told) in (
        entry.0,
        entry.1,
        λ r at.
            let there : RowAt history t (key_of t s.row) (Some r) = subst (λ (k : List ℕ). RowAt history t k (Some r)) key at in
            let same : there.0 ≡ w = some-one there.0 w (sym there.1 ∙ last) in
            one-stored t w r s (subst (λ (u : Version). IsStoredRow t u r) same there.3) stored.2,
      )

  -- no two entries are of one row
  pub keys-apart : IsScan history front shown → All (λ v. HasEntryHere history t i v.key v.value) shown → AllZip (IsKeyOfEntry t i) shown keys → AllPairs (λ a b. a ≢ b) keys
  keys-apart scan has zip a b d less l same =
      let long : length shown ≡ length keys = zip-length (IsKeyOfEntry t i) shown keys zip in
      let v : Version = get_or shown a no_version in
      let w : Version = get_or shown b no_version in
      let first = has a no_version (let in_a : a < length shown = omega (arith, less, l, long) in in_a) in
      let second = has b no_version (let in_b : b < length shown = omega (arith, l, long) in in_b) in
      let key_a : get_or keys a d ≡ key_of t first.0 = key-of-entry history t i v (get_or keys a d) first (zip-at (IsKeyOfEntry t i) shown keys a no_version d zip (let in_a : a < length keys = omega (arith, less, l) in in_a)) in
      let key_b : get_or keys b d ≡ key_of t second.0 = key-of-entry history t i w (get_or keys b d) second (zip-at (IsKeyOfEntry t i) shown keys b no_version d zip l) in
      let row : first.0 ≡ second.0 = row-same history t first.0 second.0 first.1.row_is second.1.row_is (sym key_a ∙ same ∙ key_b) in
      let keys_same : v.key ≡ w.key = first.1.key_is ∙ ap (λ (r : List Value). (entry_written t r i).key) row ∙ sym second.1.key_is in
      let below : IsBelow v.key w.key = scan.rising a b no_version less (let in_b : b < length shown = omega (arith, l, long) in in_b) in
      below-strict v.key w.key below (subst (λ (k : List ℕ). IsBelow k v.key) keys_same (subst (λ (k : List ℕ). IsBelow v.key k) (sym keys_same) below))

-- ---- keys in order

-- what is among keys is among them in another order
pub among-moved : {A : Type 0} (xs ys : List A) (x : A) → IsPermutation xs ys → IsAmong xs x → IsAmong ys x
among-moved xs ys x moved m = All-among (IsAmong ys) xs x (All-permutation (IsAmong ys) ys xs (IsPermutation-sym xs ys moved) (among-itself ys)) m

pub bytes-flip : (a b : List ℕ) → bytes_eq a b ≡ bytes_eq b a
bytes-flip a b = elim (bytes_eq a b) as (λ (x : Bool). bytes_eq a b ≡ x → x ≡ bytes_eq b a) [
  | true ↦ λ e. sym ((bytes_eq-Decides b a).1 (sym ((bytes_eq-Decides a b).0 e)))
  | false ↦ λ e. elim (bytes_eq b a) as (λ (y : Bool). bytes_eq b a ≡ y → false ≡ y) [
    | true ↦ λ f. absurd (true≢false (sym ((bytes_eq-Decides a b).1 (sym ((bytes_eq-Decides b a).0 f))) ∙ e))
    | false ↦ λ f. refl
  ] refl
] refl

pub apart-moved : (xs ys : List (List ℕ)) → IsPermutation xs ys → AllPairs (λ a b. a ≢ b) xs → AllPairs (λ a b. a ≢ b) ys
apart-moved xs ys moved apart =
    AllPairs-from_IsDistinct bytes_eq-Decides ys (IsDistinct-IsPermutation bytes_eq bytes-flip xs ys moved (IsDistinct-from_AllPairs bytes_eq-Decides xs apart))

below-from : (a b : List ℕ) (o : Ordering) → o ≡ slice_cmp nat_cmp b a → is_lt o ≡ false → a ≢ b → IsBelow a b
below-from a b Less e none apart = absurd (true≢false none)
below-from a b Equal e none apart = absurd (apart (sym (same-key b a e)))
below-from a b Greater e none apart = below-turned b a e

abbrev octets_below : List ℕ → List ℕ → Bool
octets_below a b = is_lt (slice_cmp nat_cmp a b)

each-below : (x : List ℕ) (xs : List (List ℕ)) → AllByRecursion (λ y. octets_below y x ≡ false) xs → ((j : ℕ) (d : List ℕ) → j < length xs → x ≢ get_or xs j d) → AllByRecursion (IsBelow x) xs
each-below x [] all apart = tt
each-below x (y ∷ ys) all apart = (
  below-from x y (slice_cmp nat_cmp y x) refl all.0 (apart 0 y (omega arith)),
  each-below x ys all.1 (λ j d l. apart (suc j) d (omega (arith, l))),
)

-- keys that are sorted, no two of which are the same, rise
sorted-rise : (keys : List (List ℕ)) → Rises octets_below keys → AllPairs (λ a b. a ≢ b) keys → AllPairs IsBelow keys
sorted-rise [] rises apart = λ a b d less l. absurd (let no : ⊥ = omega (arith, less, l) in no)
sorted-rise (x ∷ xs) rises apart =
    AllPairs-cons IsBelow x xs
    (All-from_recursion (IsBelow x) xs (each-below x xs rises.0 (λ j d l. apart 0 (suc j) d (omega arith) (omega (arith, l)))))
    (sorted-rise xs rises.1 (λ a b d less l. apart (suc a) (suc b) d (omega (arith, less)) (omega (arith, l))))

-- ---- keys as vectors

abbrev pub Octets8 : Type 0
Octets8 = Vec ℕ Global

abbrev pub octets_of : List Octets8 → List (List ℕ)
octets_of keys = map (λ k. k.items) keys

map-not-below : (x : Octets8) (xs : List Octets8) → AllByRecursion (λ y. octets_below y.items x.items ≡ false) xs → AllByRecursion (λ y. octets_below y x.items ≡ false) (octets_of xs)
map-not-below x [] all = tt
map-not-below x (y ∷ ys) all = (all.0, map-not-below x ys all.1)

map-rises : (xs : List Octets8) → Rises (λ (x y : Octets8). octets_below x.items y.items) xs → Rises octets_below (octets_of xs)
map-rises [] rises = tt
map-rises (x ∷ xs) rises = (map-not-below x xs rises.0, map-rises xs rises.1)

keys-rise : (xs : List Octets8) → IsSortedBy (λ x y. octets_below x.items y.items) xs → AllPairs (λ a b. a ≢ b) (octets_of xs) → AllPairs IsBelow (octets_of xs)
keys-rise xs up apart =
    let lt = λ (x y : Octets8). octets_below x.items y.items in
    sorted-rise (octets_of xs) (map-rises xs (rises lt xs (sorted_far lt (ranks_by nat_list_cmp_total (λ (k : Octets8). k.items)) xs up))) apart

zip-octets : {B : Type 0} (R : List ℕ → B → Type 0) (keys : List Octets8) (ys : List B) → AllZip (λ k y. R k.items y) keys ys → AllZip R (octets_of keys) ys
zip-octets R [] [] zip = tt
zip-octets R [] (y ∷ ys) zip = absurd zip
zip-octets R (k ∷ ks) [] zip = absurd zip
zip-octets R (k ∷ ks) (y ∷ ys) zip = (zip.0, zip-octets R ks ys zip.1)

-- ---- the rows under the keys of entries

-- a key of a live row
abbrev pub IsLiveKey : List Transaction → Table → Octets8 → Type 0
IsLiveKey history t key = (row : List Value) × IsRowOf history t row × (key.items ≡ key_of t row)

each-live : (history : List Transaction) (t : Table) (i : SqlIndex) (shown : List Version) (keys : List Octets8) → AllByRecursion (λ v. HasEntryHere history t i v.key v.value) shown
    → AllZip (IsKeyOfEntry t i) shown (octets_of keys) → AllByRecursion (IsLiveKey history t) keys
each-live history t i [] [] has zip = tt
each-live history t i [] (k ∷ ks) has zip = absurd zip
each-live history t i (v ∷ vs) [] has zip = absurd zip
each-live history t i (v ∷ vs) (k ∷ ks) has zip = (
  (has.0.0, has.0.1.row_is, key-of-entry history t i v k.items has.0 zip.0),
  each-live history t i vs ks has.1 zip.1,
)

pub keys-live : (history : List Transaction) (t : Table) (i : SqlIndex) (front : List ℕ) (shown : List Version) (found keys : List Octets8) → IsSqlSound history → IsSqlIndexOf history t i
    → (rest : List ℕ) × (front ≡ entries_prefix t i ++ rest) → IsScan history front shown → AllZip (IsKeyOfEntry t i) shown (octets_of found) → IsPermutation found keys → All (IsLiveKey history t) keys
keys-live history t i front shown found keys sound of begins scan zip moved =
    All-permutation (IsLiveKey history t) found keys moved
    (All-from_recursion (IsLiveKey history t) found
    (each-live history t i shown found (recursion_from_All (λ (v : Version). HasEntryHere history t i v.key v.value) shown (entries-there history t i front shown sound of begins scan)) zip))

pub live-key-there : (history : List Transaction) (t : Table) (key : Octets8) → IsLiveKey history t key → is_live history key.items ≡ false → ⊥
live-key-there history t key has gone =
    true≢false (sym (value-live history (key_of t has.0) (row_text has.0) has.1.2) ∙ ap (is_live history) (sym has.2) ∙ gone)

pub rows-of-entries : (history : List Transaction) (t : Table) (i : SqlIndex) (front : List ℕ) (shown : List Version) (told keys : List Octets8) (rows found : List StoredRow) → IsSqlSound history
    → IsSqlIndexOf history t i → (rest : List ℕ) × (front ≡ entries_prefix t i ++ rest) → IsScan history front shown → AllZip (IsKeyOfEntry t i) shown (octets_of told) → IsPermutation told keys
    → IsSortedBy (λ x y. octets_below x.items y.items) keys → AllZip (λ key s. RowAt history t key.items (Some s)) keys found → RowsAre history t rows
    → found ≡ filter (λ s. begins_with front (entry_written t s.row i).key) rows
rows-of-entries history t i front shown told keys rows found sound of begins scan zip moved up there all =
    let has = entries-there history t i front shown sound of begins scan in
    let moved_octets : IsPermutation (octets_of told) (octets_of keys) = IsPermutation-map (λ (k : Octets8). k.items) told keys moved in
    let apart : AllPairs (λ (a b : List ℕ). a ≢ b) (octets_of keys) =
    apart-moved (octets_of told) (octets_of keys) moved_octets (keys-apart history t i front shown (octets_of told) scan has zip) in
    rows-by-keys history t (is_meant history t i front shown (octets_of told)) (octets_of keys) rows found all (keys-rise keys up apart)
    (zip-octets (λ key s. RowAt history t key (Some s)) keys found there)
    (λ key s m at. key-meant history t i front shown (octets_of told) rows key s all scan has zip
    (among-moved (octets_of keys) (octets_of told) key (IsPermutation-sym (octets_of told) (octets_of keys) moved_octets) m) at)
    (λ s m meant.
    let key = row-has history t i front shown (octets_of told) rows s sound of all scan zip m meant in
    (key.0, among-moved (octets_of told) (octets_of keys) key.0 moved_octets key.1, key.2))
