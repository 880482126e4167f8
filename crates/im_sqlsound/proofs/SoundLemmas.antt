-- Where live keys are judged to be SQL's, they are.
use Rattle.std.proofs.Common.{◌≡◌, ◌≢◌, ◌≤◌, ◌<◌, ◌+◌, ◌-◌, ◌^◌, ◌||◌, inl, inr, ℕ, true, false, List, [], ◌∷◌, ◌++◌, length, take, map, flat_map, filter, find, get_or, nat_eq, AllPairs, Option, Some, None, refl, sym, ap, ap₂, ◌∙◌, subst, arith}
use Rattle.std.proofs.lemmas.Bool.{true≢false, not-true, eqb-true, false_from_ne_true, cases_lt, or_cases, eq-eqb}
use Rattle.std.proofs.lemmas.List.{length-map, length-take-le, take-take, take_all}
use Rattle.std.proofs.lemmas.List.Elements.{All-from_recursion}
use Rattle.std.proofs.lemmas.Slice.Eq.{bytes_eq-Decides}
use Rattle.std.specs.List.{AllByRecursion, IsAmong}
use Rattle.im_octet.specs.Fields.{field4}
use Rattle.im_octet.proofs.Common.{some-is}
use Rattle.im_model.specs.declared.transactions.Transaction.{Transaction}
use Rattle.im_versions.specs.Versions.{last_version, last_number, is_live, is_written, is_of, versions_of, begins_with, IsScan}
use Rattle.im_versions.specs.declared.versions.Version.{Version}
use Rattle.im_versions.proofs.ListLemmas.{All-among, among-first, among-left, among-nil, among-right}
use Rattle.im_versions.proofs.VersionLemmas.{last-of-key}
use Rattle.im_sqltype.specs.declared.values.Value.{Value}
use Rattle.im_sqlmodel.specs.Keys.{tables_key, table_prefix, indexes_prefix, index_prefix, rows_prefix, mark_key}
use Rattle.im_sqlmodel.specs.Kept.{IsTableOf, IsSqlIndexOf, IsRowOf, IsText, IsSqlSound}
use Rattle.im_sqlmodel.specs.Rows.{IsLiveAs, CountIs, IsIndexVersion, IsStoredRow, key_of}
use Rattle.im_sqlmodel.specs.Sorts.{sorted}
use Rattle.im_sqlmodel.specs.Writes.{entry_written}
use Rattle.im_sqlmodel.specs.declared.rows.StoredRow.{StoredRow}
use Rattle.im_sqlmodel.specs.declared.tables.SqlIndex.{SqlIndex}
use Rattle.im_sqlmodel.specs.declared.tables.Table.{Table}
use Rattle.im_sqlmodel.specs.declared.written.Written.{Written}
use Rattle.im_catalog.proofs.FrontLemmas.{among-kept, begins-from, begins-shorter}
use Rattle.im_catalog.proofs.HistoryLemmas.{among-either}
use Rattle.im_plan.proofs.BestLemmas.{at-any}
use Rattle.im_plan.proofs.EntryLemmas.{zip-among-left}
use Rattle.im_sqlsound.specs.Sounding.{kind_shown, under, said_by, entries_of, IsTableVersion, IsFound, AreFound, IsCountShown, IsMarked, IsSoundAlone, IsMarkShown, AreSettled, Hang, AreByNumber}
use Rattle.im_sqlsound.specs.declared.found.TableFound.{TableFound}
use Rattle.im_sqlsound.proofs.AmongLemmas.{among-map, map-among, among-flat, flat-among, among-sorted, sorted-among, by_key, none-out, one-of}
use Rattle.im_sqlsound.proofs.GroupLemmas.{AreTold, InGroup, groups, sizes-one, groups-few, groups-hit}
use Rattle.im_sql.proofs.NextLemmas.{Apart, apart-from, pairs-from, all-of, find-none, find-some}
use Rattle.im_sqlsound.proofs.ShownLemmas.{shown-live, live-shown, live-under, under-shown, table-live, table-found, index-live, index-found, row-live, row-found, sum-groups}

-- a key that is live has a version
written-version : (o : Option Version) → is_written o ≡ true → (v : Version) × (o ≡ Some v) × (v.deleted ≡ false)
written-version None e = absurd (true≢false (sym e))
written-version (Some v) e = (v, refl, not-true v.deleted e)

-- numbers of items that are apart
abbrev pub tid_of : TableFound → ℕ
tid_of f = f.table.tid

all-mapped : (n : ℕ) (fs : List TableFound) → AllByRecursion (λ (g : TableFound). n ≢ tid_of g) fs → AllByRecursion (λ (m : ℕ). n ≢ m) (map tid_of fs)
all-mapped n [] all = tt
all-mapped n (f ∷ fs) all = (all.0, all-mapped n fs all.1)

apart-mapped : (fs : List TableFound) → Apart (λ (a b : TableFound). tid_of a ≢ tid_of b) fs → Apart (λ (m n : ℕ). m ≢ n) (map tid_of fs)
apart-mapped [] h = tt
apart-mapped (f ∷ fs) h = (all-mapped (tid_of f) fs h.0, apart-mapped fs h.1)

pub tids-mapped : (fs : List TableFound) → AllPairs (λ a b. a.table.tid ≢ b.table.tid) fs → AllPairs (λ m n. m ≢ n) (map tid_of fs)
tids-mapped fs h = pairs-from (λ (m n : ℕ). m ≢ n) (map tid_of fs) (apart-mapped fs (apart-from (λ (a b : TableFound). tid_of a ≢ tid_of b) fs h))

-- ---- what was settled

pub settled-behind : (history : List Transaction) (k : ℕ) (before shown : List Version) → k < length history → IsSqlSound (take k history) → IsScan (take k history) (0 ∷ []) before
    → IsScan (take (k + 1) history) (0 ∷ []) shown → AreSettled before shown → (n : ℕ) (key : List ℕ) (v : Version) → (begins_with table_prefix key || begins_with indexes_prefix key) ≡ true
    → last_version (take n (take (k + 1) history)) key ≡ Some v → v.deleted ≡ false → last_version (take (k + 1) history) key ≡ Some v
settled-behind history k before shown less sound old new settled n key v begins last alive = elim (cases_lt n (k + 1)) [
  | inl within ↦ (
      let low : n ≤ k = omega (arith, within) in
      let one : take n (take (k + 1) history) ≡ take n history = take-take n (k + 1) history (omega (arith, within)) in
      let other : take n (take k history) ≡ take n history = take-take n k history low in
      let before_it : last_version (take k history) key ≡ Some v =
      sound.settled n key v begins (ap (λ (h : List Transaction). last_version h key) (other ∙ sym one) ∙ last) alive in
      let own : v.key ≡ key = last-of-key (take k history) key v before_it in
      let there : IsAmong shown v = stood own before_it in
      ap (last_version (take (k + 1) history)) (sym own) ∙ (shown-live (take (k + 1) history) shown v new there).0)
  | inr beyond ↦ (
      let long : length (take (k + 1) history) ≡ k + 1 = length-take-le (k + 1) history (omega (arith, less)) in
      sym (ap (λ (h : List Transaction). last_version h key) (take_all n (take (k + 1) history) (omega (arith, long, beyond)))) ∙ last)
]
  where
    at-kind : (octet : ℕ) → v.key ≡ key → begins_with (0 ∷ octet ∷ []) key ≡ true → last_version (take k history) key ≡ Some v → IsAmong (kind_shown octet before) v
    at-kind octet own front there =
        among-kept (λ (w : Version). begins_with (0 ∷ octet ∷ []) w.key) before v (old.all key v there alive (begins-shorter (0 ∷ []) (octet ∷ []) key front))
        (ap (begins_with (0 ∷ octet ∷ [])) own ∙ front)

    stood : v.key ≡ key → last_version (take k history) key ≡ Some v → IsAmong shown v
    stood own there = elim (or_cases (begins_with table_prefix key) (begins_with indexes_prefix key) begins) [
      | inl table ↦ All-among (IsAmong shown) (kind_shown 1 before) v settled.0 (at-kind 1 own table there)
      | inr index ↦ All-among (IsAmong shown) (kind_shown 2 before) v settled.1 (at-kind 2 own index there)
    ]

-- ---- all else

module _ (history : List Transaction) (shown changes : List Version) (fs : List TableFound) (scan : IsScan history (0 ∷ []) shown) (by : AreByNumber history changes) (found : AreFound shown fs)
    (judged : Hang shown changes fs) where
  told : AreTold fs
  told = (
    apart-from (λ (a b : TableFound). a.table.tid ≢ b.table.tid) fs judged.numbered.1.1,
    all-of (λ (f : TableFound). f.table.tid < 2 ^ 32) fs (λ f m. (table-live history shown fs scan found f m).0.tid.1),
  )

  in-group : (v : Version) → IsAmong shown v → InGroup fs v
  in-group v m =
      groups-hit fs v (sizes-one (groups fs) shown (λ w n. groups-few w fs told) (sum-groups history shown fs scan found ∙ sym judged.all) v m)

  -- ---- what stands under a key

  -- the entry that a version is
  entry-said : (v : Version) → IsAmong (kind_shown 5 shown ++ kind_shown 6 shown) v → (f : TableFound) × IsAmong fs f × ((s : StoredRow) × IsAmong f.rows s
      × ((i : SqlIndex) × IsAmong f.indexes i × (said_by v ≡ entry_written f.table s.row i)))
  entry-said v m =
      let said : IsAmong (sorted by_key (flat_map entries_of fs)) (said_by v) =
      subst (λ (ws : List Written). IsAmong ws (said_by v)) judged.entered (among-map said_by (kind_shown 5 shown ++ kind_shown 6 shown) v m) in
      let found = flat-among entries_of fs (said_by v) (sorted-among by_key (flat_map entries_of fs) (said_by v) said) in
      let f : TableFound = found.0 in
      let row = flat-among (λ (s : StoredRow). map (entry_written f.table s.row) f.indexes) f.rows (said_by v) found.2 in
      let index = map-among (entry_written f.table (row.0).row) f.indexes (said_by v) row.2 in
      (f, found.1, (row.0, row.1, (index.0, index.1, index.2)))

  entry-text : (v : Version) → IsAmong (kind_shown 5 shown ++ kind_shown 6 shown) v → IsText history v.key v.value
  entry-text v m =
      let said = entry-said v m in
      let f : TableFound = said.0 in
      let s : StoredRow = said.2.0 in
      let i : SqlIndex = said.2.2.0 in
      inr (inr (inr (inr (inr (
        f.table,
        i,
        s.row,
        index-live history shown fs scan found f i said.1 said.2.2.1,
        (row-live history shown fs scan found f s said.1 said.2.1).0,
        ap (λ (w : Written). w.key) said.2.2.2,
        ap (λ (w : Written). w.value) said.2.2.2,
      )))))

  count-text : (v : Version) → IsAmong (under tables_key shown) v → IsCountShown shown (length fs) → IsText history v.key v.value
  count-text v m (inl none) = absurd (among-nil v (subst (λ (vs : List Version). IsAmong vs v) none.0 m))
  count-text v m (inr some) =
      let only : IsAmong (some.0 ∷ []) v = subst (λ (vs : List Version). IsAmong vs v) some.1 m in
      let same : v ≡ some.0 = first-of v some.0 only in
      inl (length fs, some.3, ap (λ (w : Version). w.key) same ∙ some.2, ap (λ (w : Version). w.value) same ∙ some.4)
    where
      first-of : (v w : Version) → IsAmong (w ∷ []) v → v ≡ w
      first-of v w m = m.1.1 ∙ at-none m.0 m.1.0
        where
          at-none : (k : ℕ) → k < 1 → get_or (w ∷ []) k v ≡ w
          at-none k l = ap (λ (j : ℕ). get_or (w ∷ []) j v) (let none : k ≡ 0 = omega (arith, l) in none)

  text-of : (v : Version) → IsAmong shown v → InGroup fs v → IsText history v.key v.value
  text-of v m (inl begins) = count-text v (among-kept (λ (w : Version). begins_with tables_key w.key) shown v m begins) judged.numbered.0
  text-of v m (inr (inl begins)) =
      let table = zip-among-left (λ (w : Version) (g : TableFound). IsTableVersion w g.table) (kind_shown 1 shown) fs v found.tables
      (among-kept (λ (w : Version). begins_with (0 ∷ 1 ∷ []) w.key) shown v m begins) in
      inr (inl ((table.0).table, table.2.0, table.2.1, table.2.2))
  text-of v m (inr (inr (inl two))) =
      let f : TableFound = two.0 in
      let is = All-among (IsFound shown) fs f found.each two.1 in
      let index = zip-among-left (IsIndexVersion f.table) (under (index_prefix f.table.tid) shown) f.indexes v is.indexes
      (among-kept (λ (w : Version). begins_with (index_prefix f.table.tid) w.key) shown v m two.2) in
      inr (inr (inl (f.table, index.0, table-live history shown fs scan found f two.1, index.2.0, index.2.1, index.2.2)))
  text-of v m (inr (inr (inr (inl begins)))) =
      let mark = All-among (IsMarkShown fs) (kind_shown 3 shown) v judged.marks (among-kept (λ (w : Version). begins_with (0 ∷ 3 ∷ []) w.key) shown v m begins) in
      inr (inr (inr (inl ((mark.0).table, table-live history shown fs scan found mark.0 mark.1, mark.2, mark.3))))
  text-of v m (inr (inr (inr (inr (inl four))))) =
      let f : TableFound = four.0 in
      let is = All-among (IsFound shown) fs f found.each four.1 in
      let row = zip-among-left (IsStoredRow f.table) (under (rows_prefix f.table.tid) shown) f.rows v is.rows
      (among-kept (λ (w : Version). begins_with (rows_prefix f.table.tid) w.key) shown v m four.2) in
      inr (inr (inr (inr (inl (f.table, (row.0).row, table-live history shown fs scan found f four.1, row.2.0.0, row.2.0.1, row.2.0.2)))))
  text-of v m (inr (inr (inr (inr (inr (inl begins)))))) =
      entry-text v (among-left (kind_shown 5 shown) (kind_shown 6 shown) v (among-kept (λ (w : Version). begins_with (0 ∷ 5 ∷ []) w.key) shown v m begins))
  text-of v m (inr (inr (inr (inr (inr (inr begins)))))) =
      entry-text v (among-right (kind_shown 5 shown) (kind_shown 6 shown) v (among-kept (λ (w : Version). begins_with (0 ∷ 6 ∷ []) w.key) shown v m begins))

  texts-are : (rest value : List ℕ) → IsLiveAs history (0 ∷ rest) value → IsText history (0 ∷ rest) value
  texts-are rest value live =
      let v : Version = live.0 in
      let own : v.key ≡ 0 ∷ rest = last-of-key history (0 ∷ rest) v live.1 in
      let m : IsAmong shown v = live-shown history shown rest value scan live in
      subst (IsText history (0 ∷ rest)) live.3 (subst (λ (k : List ℕ). IsText history k v.value) own (text-of v m (in-group v m)))

  -- ---- tables

  counted-by : IsCountShown shown (length fs) → CountIs history (length fs)
  counted-by (inl none) = inl (false_from_ne_true (is_live history tables_key) gone, none.1)
    where
      gone : is_live history tables_key ≡ true → ⊥
      gone lives =
          let v = written-version (last_version history tables_key) lives in
          among-nil v.0 (subst (λ (vs : List Version). IsAmong vs v.0) none.0
          (live-under history shown tables_key [] tables_key (v.0).value scan refl refl (v.0, v.1, v.2, refl)))
  counted-by (inr some) =
      let v : Version = some.0 in
      let m : IsAmong (under tables_key shown) v = subst (λ (vs : List Version). IsAmong vs v) (sym some.1) (among-first v []) in
      let alive = shown-live history shown v scan (under-shown shown tables_key v m) in
      inr (some.3, (v, ap (last_version history) (sym some.2) ∙ alive.0, alive.1, some.4))

  numbered-are : (t : Table) → IsTableOf history t → (1 ≤ t.tid) × (t.tid ≤ length fs)
  numbered-are t of =
      let f = table-found history shown fs scan found t of in
      subst (λ (u : Table). (1 ≤ u.tid) × (u.tid ≤ length fs)) f.2
      (All-among (λ (g : TableFound). (1 ≤ g.table.tid) × (g.table.tid ≤ length fs)) fs f.0 judged.numbered.1.0 f.1)

  filled-are : (tid : ℕ) → 1 ≤ tid → tid ≤ length fs → (t : Table) × IsTableOf history t × (t.tid ≡ tid)
  filled-are tid low high = by-find (find (λ f. nat_eq (tid_of f) tid) fs) refl
    where
      long : length (map tid_of fs) ≡ length fs
      long = length-map fs tid_of

      by-find : (o : Option TableFound) → find (λ f. nat_eq (tid_of f) tid) fs ≡ o → (t : Table) × IsTableOf history t × (t.tid ≡ tid)
      by-find (Some f) e =
          let is = find-some (λ (g : TableFound). nat_eq (tid_of g) tid) fs f e in
          (f.table, table-live history shown fs scan found f is.0, eqb-true (tid_of f) tid is.1)
      by-find None e =
          let others = find-none (λ (g : TableFound). nat_eq (tid_of g) tid) fs e in
          absurd (none-out (map tid_of fs) tid (tids-mapped fs judged.numbered.1.1)
          (λ n m.
          let f = map-among tid_of fs n m in
          let is = All-among (λ (g : TableFound). (1 ≤ g.table.tid) × (g.table.tid ≤ length fs)) fs f.0 judged.numbered.1.0 f.1 in
          let some : 1 ≤ n = subst (λ (j : ℕ). 1 ≤ j) (sym f.2) is.0 in
          let few : n ≤ length fs = subst (λ (j : ℕ). j ≤ length fs) (sym f.2) is.1 in
          (some, omega (arith, few, long)))
          low (omega (arith, high, long))
          (λ n m same.
          let f = map-among tid_of fs n m in
          let fails : nat_eq (tid_of f.0) tid ≡ false =
          All-among (λ (g : TableFound). nat_eq (tid_of g) tid ≡ false) fs f.0 (All-from_recursion (λ (g : TableFound). nat_eq (tid_of g) tid ≡ false) fs others) f.1 in
          true≢false (sym (eq-eqb (tid_of f.0) tid (sym f.2 ∙ same)) ∙ fails)))

  once-is : (t u : Table) → IsTableOf history t → IsTableOf history u → t.tid ≡ u.tid → t ≡ u
  once-is t u p q same =
      let f = table-found history shown fs scan found t p in
      let g = table-found history shown fs scan found u q in
      let one : f.0 ≡ g.0 = one-of tid_of fs f.0 g.0 judged.numbered.1.1 f.1 g.1 (ap (λ (w : Table). w.tid) f.2 ∙ same ∙ ap (λ (w : Table). w.tid) (sym g.2)) in
      sym f.2 ∙ ap (λ (h : TableFound). h.table) one ∙ g.2

  -- ---- indexes and rows

  gapless-are : (t : Table) (i : SqlIndex) (iid : ℕ) → IsSqlIndexOf history t i → 1 ≤ iid → iid ≤ i.iid → (j : SqlIndex) × IsSqlIndexOf history t j × (j.iid ≡ iid)
  gapless-are t i iid of low high =
      let place = table-found history shown fs scan found t of.0 in
      let f : TableFound = place.0 in
      let m = index-found history shown fs scan found f i place.1 (subst (λ (u : Table). IsSqlIndexOf history u i) (sym place.2) of) in
      let gapless = (All-among (IsSoundAlone changes) fs f judged.each place.1).0 in
      let number : i.iid ≡ m.0 + 1 = ap (λ (d : SqlIndex). d.iid) m.1.1 ∙ gapless m.0 i m.1.0 in
      let within : m.0 < length f.indexes = m.1.0 in
      let l : iid - 1 < length f.indexes = omega (arith, low, high, number, within) in
      let j : SqlIndex = get_or f.indexes (iid - 1) i in
      let there : IsAmong f.indexes j = (iid - 1, (l, at-any f.indexes (iid - 1) i j l)) in
      let told : j.iid ≡ iid - 1 + 1 = gapless (iid - 1) i l in
      (j, subst (λ (u : Table). IsSqlIndexOf history u j) place.2 (index-live history shown fs scan found f j place.1 there), omega (arith, told, low))

  marks-are : (t : Table) (row : List Value) → IsRowOf history t row → (v : Version) × IsAmong (versions_of history (mark_key t.tid)) v × (v.tx ≡ last_number history (key_of t row))
  marks-are t row of =
      let place = table-found history shown fs scan found t of.0 in
      let f : TableFound = place.0 in
      let stored = row-found history shown fs scan found f row place.1 (subst (λ (u : Table). IsRowOf history u row) (sym place.2) of) in
      let s : StoredRow = stored.0 in
      let marked = (All-among (IsSoundAlone changes) fs f judged.each place.1).1 in
      let mark = All-among (IsMarked changes f.table) f.rows s marked stored.1 in
      let v : Version = mark.0 in
      let key : List ℕ = mark_key t.tid in
      let own : v.key ≡ key = mark.2 ∙ ap (λ (u : Table). mark_key u.tid) place.2 in
      let kept : IsAmong (filter (is_of key) changes) v = among-kept (is_of key) changes v mark.1 ((bytes_eq-Decides v.key key).1 own) in
      let number : s.tx ≡ last_number history (key_of t row) =
      sym (row-live history shown fs scan found f s place.1 stored.1).1 ∙ ap₂ (λ (u : Table) (r : List Value). last_number history (key_of u r)) place.2 stored.2 in
      (v, subst (λ (vs : List Version). IsAmong vs v) (by.0.each key (begins-from (0 ∷ []) (3 ∷ field4 t.tid) key refl)) kept, mark.3 ∙ number)

  entries-are : (t : Table) (i : SqlIndex) (row : List Value) (value : List ℕ) → IsSqlIndexOf history t i → IsRowOf history t row → (entry_written t row i).value ≡ Some value
      → IsLiveAs history (entry_written t row i).key value
  entries-are t i row value index of given =
      let place = table-found history shown fs scan found t of.0 in
      let f : TableFound = place.0 in
      let m = index-found history shown fs scan found f i place.1 (subst (λ (u : Table). IsSqlIndexOf history u i) (sym place.2) index) in
      let stored = row-found history shown fs scan found f row place.1 (subst (λ (u : Table). IsRowOf history u row) (sym place.2) of) in
      let s : StoredRow = stored.0 in
      let w : Written = entry_written f.table s.row i in
      let given_by : IsAmong (entries_of f) w =
      among-flat (λ (r : StoredRow). map (entry_written f.table r.row) f.indexes) f.rows s w stored.1 (among-map (entry_written f.table s.row) f.indexes i m) in
      let said : IsAmong (map said_by (kind_shown 5 shown ++ kind_shown 6 shown)) w =
      subst (λ (ws : List Written). IsAmong ws w) (sym judged.entered) (among-sorted by_key (flat_map entries_of fs) w (among-flat entries_of fs f w place.1 given_by)) in
      let version = map-among said_by (kind_shown 5 shown ++ kind_shown 6 shown) w said in
      let v : Version = version.0 in
      let there : IsAmong shown v = elim (among-either (kind_shown 5 shown) (kind_shown 6 shown) v version.1) [
        | inl five ↦ under-shown shown (0 ∷ 5 ∷ []) v five
        | inr six ↦ under-shown shown (0 ∷ 6 ∷ []) v six
      ] in
      let alive = shown-live history shown v scan there in
      let same : entry_written t row i ≡ said_by v = sym (ap₂ (λ (u : Table) (r : List Value). entry_written u r i) place.2 stored.2) ∙ version.2 in
      (v, ap (last_version history) (ap (λ (e : Written). e.key) same) ∙ alive.0, alive.1, some-is v.value value (sym (ap (λ (e : Written). e.value) same) ∙ given))

  pub judged-sound : ((n : ℕ) (key : List ℕ) (v : Version) → (begins_with table_prefix key || begins_with indexes_prefix key) ≡ true → last_version (take n history) key ≡ Some v → v.deleted ≡ false
      → last_version history key ≡ Some v) → IsSqlSound history
  judged-sound settled = record {
    texts = texts-are;
    count = length fs;
    counted = counted-by judged.numbered.0;
    numbered = numbered-are;
    filled = filled-are;
    once = once-is;
    gapless = gapless-are;
    marks = marks-are;
    entries = entries-are;
    settled = settled;
  }
