-- Where a transaction's own keys say before it and behind it what rows give, it is a step.
use Rattle.std.proofs.Common.{◌≡◌, ◌≤◌, ◌<◌, ◌+◌, ◌-◌, ◌⊎◌, ◌↔◌, inl, inr, ℕ, Bool, true, false, if◌then◌else◌, List, [], ◌∷◌, ◌++◌, length, take, drop, map, filter, flat_map, get_or, Option, Some, None, refl, sym, ap, ◌∙◌, subst, arith}
use Rattle.std.proofs.lemmas.Bool.{true≢false}
use Rattle.std.proofs.lemmas.List.{append-nil, length-take-le, take_more}
use Rattle.std.proofs.lemmas.Slice.Eq.{bytes_eq-Decides}
use Rattle.std.specs.List.{IsAmong}
use Rattle.std.specs.declared.cmp.Ordering.{Ordering}
use Rattle.im_octet.specs.Fields.{field4}
use Rattle.im_model.specs.History.{no_transaction}
use Rattle.im_model.specs.declared.transactions.Transaction.{Transaction}
use Rattle.im_versions.specs.Versions.{all_versions, versions_of, last_version, is_of, begins_with}
use Rattle.im_versions.specs.declared.versions.Version.{Version}
use Rattle.im_versions.proofs.ListLemmas.{All-among, among-cons, among-filter, among-first, among-left, among-nil, among-right}
use Rattle.im_versions.proofs.VersionLemmas.{last-of-key, versions-within}
use Rattle.im_octet.proofs.Common.{some-is}
use Rattle.im_sqltype.specs.Orders.{octets_cmp}
use Rattle.im_sqltype.specs.Texts.{row_text}
use Rattle.im_sqltype.specs.declared.values.Value.{Value}
use Rattle.im_sqlmodel.specs.Keys.{table_key, index_prefix, index_key, mark_key, rows_prefix}
use Rattle.im_sqlmodel.specs.Kept.{IsTableOf, IsSqlIndexOf, IsRowOf, IsText, IsSqlSound}
use Rattle.im_sqlmodel.specs.Rows.{IsLiveAs, IsIndexVersion, IsStoredRow, columns_of, key_of}
use Rattle.im_sqlmodel.specs.Tables.{table_text}
use Rattle.im_sqlmodel.specs.Writes.{entry_written}
use Rattle.im_sqlmodel.specs.declared.rows.StoredRow.{StoredRow}
use Rattle.im_sqlmodel.specs.declared.tables.SqlIndex.{SqlIndex}
use Rattle.im_sqlmodel.specs.declared.tables.Table.{Table}
use Rattle.im_sqlmodel.specs.declared.written.Written.{Written}
use Rattle.im_catalog.specs.Parts.{HasParts}
use Rattle.im_catalog.proofs.FoundLemmas.{begins-is}
use Rattle.im_catalog.proofs.FrontLemmas.{among-kept, begins-from}
use Rattle.im_catalog.proofs.HistoryLemmas.{among-either}
use Rattle.im_catalog.proofs.OneLemmas.{one-index-version}
use Rattle.im_catalog.proofs.TableLemmas.{one-table, table-read}
use Rattle.im_plan.proofs.EntryLemmas.{zip-among, zip-among-left}
use Rattle.im_plan.proofs.EntryRowLemmas.{one-index, text-same}
use Rattle.im_sqlsound.specs.Sounding.{said_by, entries_of, IsMarked, IsMarkShown, AreByNumber}
use Rattle.im_sqlsound.specs.Stepping.{live_last, live_of, live_own, own_entries, IsPartBy, AreParts, AreOwnEntries, IsKnownKey, AreMarked, StoodOf, StandsOf}
use Rattle.im_sqlsound.specs.declared.found.TableFound.{TableFound}
use Rattle.im_sqlsound.proofs.AmongLemmas.{among-map, map-among, among-flat, flat-among, among-sorted, sorted-among, by_key}
use Rattle.im_sqlmodel.proofs.CarriedLemmas.{entry-zero, versions-pushed}
use Rattle.im_sqlsound.proofs.EntryLemmas.{same-numbers, row-alone}
use Rattle.im_sqlsound.proofs.StepLemmas.{IsLeft, IsNew, entry-told, last-new, either, table-still, table-back, index-still, index-back, step-sound}

-- ---- what is live of the keys of versions

choose : (b : Bool) (xs : List Version) (v : Version) → b ≡ true → IsAmong xs v → IsAmong (if b then xs else []) v
choose true xs v e m = m
choose false xs v e m = absurd (true≢false (sym e))

chosen : (b : Bool) (xs : List Version) (v : Version) → IsAmong (if b then xs else []) v → (b ≡ true) × IsAmong xs v
chosen true xs v m = (refl, m)
chosen false xs v m = absurd (among-nil v m)

alone : (w v : Version) → IsAmong (w ∷ []) v → v ≡ w
alone w v m = elim (among-cons w [] v m) [
  | inl same ↦ same
  | inr none ↦ absurd (among-nil v none)
]

last-in : (o : Option Version) (v : Version) → IsAmong (live_last o) v → (o ≡ Some v) × (v.deleted ≡ false)
last-in None v m = absurd (among-nil v m)
last-in (Some w) v m = by-test w.deleted refl m
  where
    by-test : (b : Bool) → w.deleted ≡ b → IsAmong (if b then [] else w ∷ []) v → (Some w ≡ Some v) × (v.deleted ≡ false)
    by-test true e n = absurd (among-nil v n)
    by-test false e n = (let same : v ≡ w = alone w v n in (ap (λ (u : Version). Some u) (sym same), ap (λ (u : Version). u.deleted) same ∙ e))

in-last : (o : Option Version) (v : Version) → o ≡ Some v → v.deleted ≡ false → IsAmong (live_last o) v
in-last o v e alive = subst (λ (p : Option Version). IsAmong (live_last p) v) (sym e) (subst (λ (b : Bool). IsAmong (if b then [] else v ∷ []) v) (sym alive) (among-first v []))

-- such a version is the last of its key, is live and begins with the front
pub record IsOwn (history : List Transaction) (front : List ℕ) (own : List Version) (v : Version) : Type 0 where
  pub last : last_version history v.key ≡ Some v
  pub alive : v.deleted ≡ false
  pub begins : begins_with front v.key ≡ true
  pub of : (o : Version) × IsAmong own o × (o.key ≡ v.key)

live-own : (history : List Transaction) (front : List ℕ) (own : List Version) (v : Version) → IsAmong (live_own history front own) v → IsOwn history front own v
live-own history front own v m =
    let found = flat-among (live_of history front) own v m in
    let o : Version = found.0 in
    let test = chosen (begins_with front o.key) (live_last (last_version history o.key)) v found.2 in
    let is = last-in (last_version history o.key) v test.1 in
    let key : v.key ≡ o.key = last-of-key history o.key v is.0 in
    record {
      last = ap (last_version history) key ∙ is.0;
      alive = is.1;
      begins = ap (begins_with front) key ∙ test.0;
      of = (o, found.1, sym key);
    }

own-live : (history : List Transaction) (front : List ℕ) (own : List Version) (key : List ℕ) (v : Version) → (o : Version) × IsAmong own o × (o.key ≡ key) → begins_with front key ≡ true
    → last_version history key ≡ Some v → v.deleted ≡ false → IsAmong (live_own history front own) v
own-live history front own key v of begins last alive =
    among-flat (live_of history front) own of.0 v of.1
    (choose (begins_with front (of.0).key) (live_last (last_version history (of.0).key)) v (ap (begins_with front) of.2 ∙ begins)
    (in-last (last_version history (of.0).key) v (ap (last_version history) of.2 ∙ last) alive))

-- ---- parts of tables

module _ (catalogue history : List Transaction) (own : List Version) (fs : List TableFound) (parts : AreParts catalogue history own fs) where
  part-by : (f : TableFound) → IsAmong fs f → (v : Version) × IsAmong parts.0 v × IsPartBy catalogue history own v f
  part-by f m = zip-among (IsPartBy catalogue history own) parts.0 fs f parts.2 m

  part-table : (f : TableFound) → IsAmong fs f → IsTableOf catalogue f.table
  part-table f m =
      let by = part-by f m in
      let v : Version = by.0 in
      let alive = All-among (λ (w : Version). (last_version catalogue w.key ≡ Some w) × (w.deleted ≡ false)) parts.0 v (parts.1).live by.1 in
      (by.2.0.0, (v, ap (last_version catalogue) (sym by.2.0.1) ∙ alive.0, alive.1, by.2.0.2))

  table-part : (t : Table) → IsTableOf catalogue t → (f : TableFound) × IsAmong fs f × (f.table ≡ t)
  table-part t is =
      let v : Version = is.1.0 in
      let key : v.key ≡ table_key t.name = last-of-key catalogue (table_key t.name) v is.1.1 in
      let there : IsAmong parts.0 v = (parts.1).all (table_key t.name) v is.1.1 is.1.2 refl in
      let by = zip-among-left (IsPartBy catalogue history own) parts.0 fs v parts.2 there in
      let f : TableFound = by.0 in
      let names : f.table.name ≡ t.name = ap (λ (k : List ℕ). drop 2 k) (sym by.2.0.1 ∙ key) in
      let text : table_text f.table ≡ table_text t = sym by.2.0.2 ∙ is.1.3 in
      let has : HasParts t.name (table_text f.table) f.table = record { is = table-read f.table by.2.0.0; named = names; says = refl } in
      (f, by.1, one-table t.name (table_text f.table) f.table t has (table-read t is.0) refl text)

  part-index : (f : TableFound) (i : SqlIndex) → IsAmong fs f → IsAmong f.indexes i → IsSqlIndexOf catalogue f.table i
  part-index f i m n =
      let are = (part-by f m).2.1.indexes in
      let by = zip-among (IsIndexVersion f.table) are.0 f.indexes i are.2 n in
      let v : Version = by.0 in
      let alive = All-among (λ (w : Version). (last_version catalogue w.key ≡ Some w) × (w.deleted ≡ false)) are.0 v (are.1).live by.1 in
      (part-table f m, by.2.0, (v, ap (last_version catalogue) (sym by.2.1) ∙ alive.0, alive.1, by.2.2))

  index-part : (f : TableFound) (i : SqlIndex) → IsAmong fs f → IsSqlIndexOf catalogue f.table i → IsAmong f.indexes i
  index-part f i m is =
      let t : Table = f.table in
      let are = (part-by f m).2.1.indexes in
      let v : Version = is.2.0 in
      let key : v.key ≡ index_key t.tid i.iid = last-of-key catalogue (index_key t.tid i.iid) v is.2.1 in
      let there : IsAmong are.0 v = (are.1).all (index_key t.tid i.iid) v is.2.1 is.2.2 (begins-from (index_prefix t.tid) (field4 i.iid) (index_key t.tid i.iid) refl) in
      let by = zip-among-left (IsIndexVersion t) are.0 f.indexes v are.2 there in
      subst (IsAmong f.indexes) (one-index-version t is.0.0 v by.0 i by.2 (is.1, key, is.2.3)) by.1

  part-row : (f : TableFound) (s : StoredRow) → IsAmong fs f → IsAmong f.rows s → (v : Version) × IsOwn history (rows_prefix f.table.tid) own v × IsStoredRow f.table v s
  part-row f s m n =
      let by = zip-among (IsStoredRow f.table) (live_own history (rows_prefix f.table.tid) own) f.rows s (part-by f m).2.1.rows n in
      (by.0, live-own history (rows_prefix f.table.tid) own by.0 by.1, by.2)

  row-part : (f : TableFound) (v : Version) → IsAmong fs f → IsAmong (live_own history (rows_prefix f.table.tid) own) v → (s : StoredRow) × IsAmong f.rows s × IsStoredRow f.table v s
  row-part f v m n = zip-among-left (IsStoredRow f.table) (live_own history (rows_prefix f.table.tid) own) f.rows v (part-by f m).2.1.rows n

  -- a live row whose key they have
  row-listed : (f : TableFound) (row : List Value) → IsAmong fs f → (is : IsRowOf history f.table row) → (o : Version) × IsAmong own o × (o.key ≡ key_of f.table row)
      → (s : StoredRow) × IsAmong f.rows s × (s.row ≡ row) × (s.tx ≡ (is.2.0).tx)
  row-listed f row m is of =
      let t : Table = f.table in
      let v : Version = is.2.0 in
      let begins : begins_with (rows_prefix t.tid) (key_of t row) ≡ true = begins-from (rows_prefix t.tid) (row_text (columns_of row t.key)) (key_of t row) refl in
      let there : IsAmong (live_own history (rows_prefix t.tid) own) v = own-live history (rows_prefix t.tid) own (key_of t row) v of begins is.2.1 is.2.2 in
      let found = row-part f v m there in
      (found.0, found.1, text-same t (found.0).row row found.2.0.0 is.1 (sym found.2.0.2 ∙ is.2.3), found.2.1)

  -- ---- entries

  abbrev live_entries : List Version
  live_entries = live_own history (0 ∷ 5 ∷ []) own ++ live_own history (0 ∷ 6 ∷ []) own

  abbrev by_version : Version → Version → Ordering
  by_version a b = octets_cmp a.key b.key

  live-entry : (v : Version) → IsAmong live_entries v → (last_version history v.key ≡ Some v) × (v.deleted ≡ false) × ((o : Version) × IsAmong own o × (o.key ≡ v.key))
  live-entry v m = elim (among-either (live_own history (0 ∷ 5 ∷ []) own) (live_own history (0 ∷ 6 ∷ []) own) v m) [
    | inl five ↦ (let is = live-own history (0 ∷ 5 ∷ []) own v five in (is.last, is.alive, is.of))
    | inr six ↦ (let is = live-own history (0 ∷ 6 ∷ []) own v six in (is.last, is.alive, is.of))
  ]

  -- an entry that a row gives is live, and they have its key
  given-live : AreOwnEntries history own fs → (f : TableFound) (s : StoredRow) (i : SqlIndex) → IsAmong fs f → IsAmong f.rows s → IsAmong f.indexes i
      → (v : Version) × IsAmong live_entries v × (said_by v ≡ entry_written f.table s.row i)
  given-live entered f s i m n p =
      let w : Written = entry_written f.table s.row i in
      let given : IsAmong (flat_map entries_of fs) w =
      among-flat entries_of fs f w m (among-flat (λ (r : StoredRow). map (entry_written f.table r.row) f.indexes) f.rows s w n (among-map (entry_written f.table s.row) f.indexes i p)) in
      let said : IsAmong (map said_by (own_entries history own)) w = subst (λ (ws : List Written). IsAmong ws w) (sym entered) (among-sorted by_key (flat_map entries_of fs) w given) in
      let found = map-among said_by (own_entries history own) w said in
      (found.0, sorted-among by_version live_entries found.0 found.1, sym found.2)

  -- one that is live and whose key they have is given by a row
  live-given : AreOwnEntries history own fs → (v : Version) → IsAmong live_entries v
      → (f : TableFound) × (s : StoredRow) × (i : SqlIndex) × IsAmong fs f × IsAmong f.rows s × IsAmong f.indexes i × (said_by v ≡ entry_written f.table s.row i)
  live-given entered v m =
      let said : IsAmong (map said_by (own_entries history own)) (said_by v) = among-map said_by (own_entries history own) v (among-sorted by_version live_entries v m) in
      let given : IsAmong (flat_map entries_of fs) (said_by v) =
      sorted-among by_key (flat_map entries_of fs) (said_by v) (subst (λ (ws : List Written). IsAmong ws (said_by v)) entered said) in
      let table = flat-among entries_of fs (said_by v) given in
      let f : TableFound = table.0 in
      let row = flat-among (λ (r : StoredRow). map (entry_written f.table r.row) f.indexes) f.rows (said_by v) table.2 in
      let s : StoredRow = row.0 in
      let index = map-among (entry_written f.table s.row) f.indexes (said_by v) row.2 in
      (f, s, index.0, table.1, row.1, index.1, index.2)

-- ---- an entry's key begins with 00 05 or 00 06

entry-begins : (t : Table) (row : List Value) (i : SqlIndex) → (begins_with (0 ∷ 5 ∷ []) (entry_written t row i).key ≡ true) ⊎ (begins_with (0 ∷ 6 ∷ []) (entry_written t row i).key ≡ true)
entry-begins t row i = by-test i.unique _ _ refl refl
  where
    by-test : (b : Bool) (x y : Written) → begins_with (0 ∷ 6 ∷ []) x.key ≡ true → begins_with (0 ∷ 5 ∷ []) y.key ≡ true
        → (begins_with (0 ∷ 5 ∷ []) (if b then x else y).key ≡ true) ⊎ (begins_with (0 ∷ 6 ∷ []) (if b then x else y).key ≡ true)
    by-test true x y p q = inr p
    by-test false x y p q = inl q

-- ---- keys that are known

known-second : (fs : List TableFound) (key : List ℕ) → IsKnownKey fs key → 3 ≤ get_or key 1 0
known-second fs key (inl three) = (let e : get_or key 1 0 ≡ 3 = ap (λ (k : List ℕ). get_or k 1 0) (begins-is (0 ∷ 3 ∷ []) key three) in omega (arith, e))
known-second fs key (inr (inl five)) = (let e : get_or key 1 0 ≡ 5 = ap (λ (k : List ℕ). get_or k 1 0) (begins-is (0 ∷ 5 ∷ []) key five) in omega (arith, e))
known-second fs key (inr (inr (inl six))) = (let e : get_or key 1 0 ≡ 6 = ap (λ (k : List ℕ). get_or k 1 0) (begins-is (0 ∷ 6 ∷ []) key six) in omega (arith, e))
known-second fs key (inr (inr (inr row))) = (let e : get_or key 1 0 ≡ 4 = ap (λ (k : List ℕ). get_or k 1 0) (begins-is (rows_prefix (row.0).table.tid) key row.2) in omega (arith, e))

-- ---- the step

module _ (history : List Transaction) (tx : Transaction) (sound : IsSqlSound history) (own changes : List Version)
    (has : (v : Version) → IsAmong own v → IsNew history tx v.key)
    (all : (rest : List ℕ) → IsNew history tx (0 ∷ rest) → (v : Version) × IsAmong own v × (v.key ≡ 0 ∷ rest))
    (changed : (v : Version) → IsAmong changes v → v.tx ≡ length history + 1 → IsNew history tx v.key)
    (stood : StoodOf history own) (stands : StandsOf history (history ++ tx ∷ []) own changes) where
  abbrev after : List Transaction
  after = history ++ tx ∷ []

  known : (rest : List ℕ) → IsNew history tx (0 ∷ rest) → IsKnownKey stood.tables (0 ∷ rest)
  known rest new =
      let found = all rest new in
      subst (IsKnownKey stood.tables) found.2 (All-among (λ (v : Version). IsKnownKey stood.tables v.key) own found.0 stood.known found.1)

  catalogue-left : (rest : List ℕ) → get_or (0 ∷ rest) 1 0 < 3 → IsLeft history tx (0 ∷ rest)
  catalogue-left rest low = elim (either history tx (0 ∷ rest)) [
    | inl left ↦ left
    | inr new ↦ absurd (let no : ⊥ = (let high : 3 ≤ get_or (0 ∷ rest) 1 0 = known-second stood.tables (0 ∷ rest) (known rest new) in omega (arith, low, high)) in no)
  ]

  table-now : (t : Table) → IsTableOf history t → IsTableOf after t
  table-now t is = table-still history tx catalogue-left t is

  -- ---- rows and entries behind it

  abbrev part-of : (t : Table) → IsTableOf after t → (f : TableFound) × IsAmong stands.tables f × (f.table ≡ t)
  part-of t is = table-part history after own stands.tables stands.parts t (table-back history tx catalogue-left t is)

  row-after : (f : TableFound) (s : StoredRow) → IsAmong stands.tables f → IsAmong f.rows s → IsRowOf after f.table s.row
  row-after f s m n =
      let is = part-row history after own stands.tables stands.parts f s m n in
      let v : Version = is.0 in
      (table-now f.table (part-table history after own stands.tables stands.parts f m), is.2.0.0, (v, ap (last_version after) (sym is.2.0.1) ∙ is.1.last, is.1.alive, is.2.0.2))

  index-after : (f : TableFound) (i : SqlIndex) → IsAmong stands.tables f → IsAmong f.indexes i → IsSqlIndexOf after f.table i
  index-after f i m n = index-still history tx catalogue-left f.table i (part-index history after own stands.tables stands.parts f i m n)

  new-own : (t : Table) (row : List Value) → IsNew history tx (key_of t row) → (o : Version) × IsAmong own o × (o.key ≡ key_of t row)
  new-own t row new = all (drop 1 (key_of t row)) new

  marks-new : (t : Table) (row : List Value) → IsRowOf after t row → IsNew history tx (key_of t row) → IsNew history tx (mark_key t.tid)
  marks-new t row is new =
      let part = part-of t is.0 in
      let f : TableFound = part.0 in
      by-table f part.1 part.2 (subst (λ (u : Table). IsRowOf after u row) (sym part.2) is) (subst (λ (u : Table). IsNew history tx (key_of u row)) (sym part.2) new)
    where
      by-table : (f : TableFound) → IsAmong stands.tables f → f.table ≡ t → IsRowOf after f.table row → IsNew history tx (key_of f.table row) → IsNew history tx (mark_key t.tid)
      by-table f m same is new =
          let listed = row-listed history after own stands.tables stands.parts f row m is (new-own f.table row new) in
          let s : StoredRow = listed.0 in
          let last = last-new history tx (key_of f.table row) new in
          let one : is.2.0 ≡ last.0 = some-is is.2.0 last.0 (sym is.2.1 ∙ last.1) in
          let number : s.tx ≡ length history + 1 = listed.3 ∙ ap (λ (v : Version). v.tx) one ∙ last.2 in
          let mark = All-among (IsMarked changes f.table) f.rows s (All-among (AreMarked changes) stands.tables f stands.marked m) listed.1 in
          let written : IsNew history tx (mark.0).key = changed mark.0 mark.1 (mark.3 ∙ number) in
          subst (IsNew history tx) (mark.2 ∙ ap (λ (u : Table). mark_key u.tid) same) written

  entries-new : (t : Table) (i : SqlIndex) (row : List Value) (value : List ℕ) → IsSqlIndexOf after t i → IsRowOf after t row → IsNew history tx (key_of t row) → (entry_written t row i).value ≡ Some value
      → IsLiveAs after (entry_written t row i).key value
  entries-new t i row value index is new given =
      let part = part-of t is.0 in
      let f : TableFound = part.0 in
      subst (λ (u : Table). (entry_written u row i).value ≡ Some value → IsLiveAs after (entry_written u row i).key value) part.2
      (by-table f part.1 (subst (λ (u : Table). IsSqlIndexOf after u i) (sym part.2) index) (subst (λ (u : Table). IsRowOf after u row) (sym part.2) is)
      (subst (λ (u : Table). IsNew history tx (key_of u row)) (sym part.2) new)) given
    where
      by-table : (f : TableFound) → IsAmong stands.tables f → IsSqlIndexOf after f.table i → IsRowOf after f.table row → IsNew history tx (key_of f.table row)
          → (entry_written f.table row i).value ≡ Some value → IsLiveAs after (entry_written f.table row i).key value
      by-table f m index is new given =
          let listed = row-listed history after own stands.tables stands.parts f row m is (new-own f.table row new) in
          let s : StoredRow = listed.0 in
          let there = index-part history after own stands.tables stands.parts f i m (index-back history tx catalogue-left f.table i index) in
          let found = given-live history after own stands.tables stands.parts stands.entered f s i m listed.1 there in
          let v : Version = found.0 in
          let live = live-entry history after own stands.tables stands.parts v found.1 in
          let said : said_by v ≡ entry_written f.table row i = found.2 ∙ ap (λ (r : List Value). entry_written f.table r i) listed.2 in
          let key : v.key ≡ (entry_written f.table row i).key = ap (λ (w : Written). w.key) said in
          (v, ap (last_version after) (sym key) ∙ live.0, live.1, some-is v.value value (ap (λ (w : Written). w.value) said ∙ given))

  -- ---- texts

  entry-text-new : (front rest value : List ℕ) → (live : IsLiveAs after (0 ∷ rest) value) → IsAmong (live_entries history after own stands.tables stands.parts) live.0 → IsText after (0 ∷ rest) value
  entry-text-new front rest value live m =
      let found = live-given history after own stands.tables stands.parts stands.entered live.0 m in
      let f : TableFound = found.0 in
      let s : StoredRow = found.1 in
      let i : SqlIndex = found.2 in
      let key : (live.0).key ≡ 0 ∷ rest = last-of-key after (0 ∷ rest) live.0 live.1 in
      inr (inr (inr (inr (inr (
        f.table,
        i,
        s.row,
        index-after f i found.3 found.5,
        row-after f s found.3 found.4,
        sym key ∙ ap (λ (w : Written). w.key) found.6,
        ap (λ (x : List ℕ). Some x) (sym live.3) ∙ ap (λ (w : Written). w.value) found.6,
      )))))

  texts-new : (rest value : List ℕ) → IsNew history tx (0 ∷ rest) → IsLiveAs after (0 ∷ rest) value → IsText after (0 ∷ rest) value
  texts-new rest value new live = by-known (known rest new)
    where
      of : (o : Version) × IsAmong own o × (o.key ≡ 0 ∷ rest)
      of = all rest new

      there : (front : List ℕ) → begins_with front (0 ∷ rest) ≡ true → IsAmong (live_own after front own) live.0
      there front begins = own-live after front own (0 ∷ rest) live.0 of begins live.1 live.2

      key : (live.0).key ≡ 0 ∷ rest
      key = last-of-key after (0 ∷ rest) live.0 live.1

      by-known : IsKnownKey stood.tables (0 ∷ rest) → IsText after (0 ∷ rest) value
      by-known (inl three) =
          let mark = All-among (IsMarkShown stands.tables) (live_own after (0 ∷ 3 ∷ []) own) live.0 stands.marks (there (0 ∷ 3 ∷ []) three) in
          let f : TableFound = mark.0 in
          inr (inr (inr (inl (f.table, table-now f.table (part-table history after own stands.tables stands.parts f mark.1), sym key ∙ mark.2, sym live.3 ∙ mark.3))))
      by-known (inr (inl five)) =
          entry-text-new (0 ∷ 5 ∷ []) rest value live (among-left (live_own after (0 ∷ 5 ∷ []) own) (live_own after (0 ∷ 6 ∷ []) own) live.0 (there (0 ∷ 5 ∷ []) five))
      by-known (inr (inr (inl six))) =
          entry-text-new (0 ∷ 6 ∷ []) rest value live (among-right (live_own after (0 ∷ 5 ∷ []) own) (live_own after (0 ∷ 6 ∷ []) own) live.0 (there (0 ∷ 6 ∷ []) six))
      by-known (inr (inr (inr row))) =
          let t : Table = (row.0).table in
          let part = table-part history after own stands.tables stands.parts t (part-table history history own stood.tables stood.parts row.0 row.1) in
          let f : TableFound = part.0 in
          let found = row-part history after own stands.tables stands.parts f live.0 part.1
          (subst (λ (u : Table). IsAmong (live_own after (rows_prefix u.tid) own) live.0) (sym part.2) (there (rows_prefix t.tid) row.2)) in
          inr (inr (inr (inr (inl (
            f.table,
            (found.0).row,
            table-now f.table (part-table history after own stands.tables stands.parts f part.1),
            found.2.0.0,
            sym key ∙ found.2.0.1,
            sym live.3 ∙ found.2.0.2,
          )))))

  -- ---- entries before it

  -- an entry that is live before it and that it writes is given by a row that it writes
  still-none : (t : Table) (i : SqlIndex) (row : List Value) → IsSqlIndexOf history t i → IsRowOf history t row → IsLeft history tx (key_of t row) → IsNew history tx (entry_written t row i).key → ⊥
  still-none t i row index is left new =
      let w : Written = entry_written t row i in
      let told = entry-told t row i in
      let live : IsLiveAs history w.key told.0 = sound.entries t i row told.0 index is told.1 in
      let v : Version = live.0 in
      let own_key : v.key ≡ w.key = last-of-key history w.key v live.1 in
      let zero = entry-zero t row i in
      let of = all zero.0 (subst (IsNew history tx) zero.1 new) in
      let there : IsAmong (live_entries history history own stood.tables stood.parts) v = elim (entry-begins t row i) [
        | inl five ↦ among-left (live_own history (0 ∷ 5 ∷ []) own) (live_own history (0 ∷ 6 ∷ []) own) v (own-live history (0 ∷ 5 ∷ []) own w.key v (of.0, of.1, of.2 ∙ sym zero.1) five live.1 live.2)
        | inr six ↦ among-right (live_own history (0 ∷ 5 ∷ []) own) (live_own history (0 ∷ 6 ∷ []) own) v (own-live history (0 ∷ 6 ∷ []) own w.key v (of.0, of.1, of.2 ∙ sym zero.1) six live.1 live.2)
      ] in
      let found = live-given history history own stood.tables stood.parts stood.entered v there in
      by-row found.0 found.1 found.2 found.3 found.4 (part-index history history own stood.tables stood.parts found.0 found.2 found.3 found.5) (sym own_key ∙ ap (λ (x : Written). x.key) found.6)
    where
      by-table : (u : Table) (j : SqlIndex) (r : List Value) → u ≡ t → IsSqlIndexOf history u j → IsRowOf history u r → i.iid ≡ j.iid → (entry_written t row i).key ≡ (entry_written u r j).key → IsNew history tx (key_of u r) → ⊥
      by-table u j r same other row_is number e written =
          let second : IsSqlIndexOf history t j = subst (λ (x : Table). IsSqlIndexOf history x j) same other in
          let third : IsRowOf history t r = subst (λ (x : Table). IsRowOf history x r) same row_is in
          let one : j ≡ i = one-index history t i j index second number in
          let keys : (entry_written t row i).key ≡ (entry_written t r i).key = e ∙ ap (λ (x : Table). (entry_written x r j).key) same ∙ ap (λ (k : SqlIndex). (entry_written t r k).key) one in
          let rows : key_of t row ≡ key_of t r = row-alone history t i row r sound index is third keys in
          subst (λ (x : Table). IsNew history tx (key_of x r)) same written (subst (IsLeft history tx) rows left)

      by-row : (f : TableFound) (s : StoredRow) (j : SqlIndex) → IsAmong stood.tables f → IsAmong f.rows s → IsSqlIndexOf history f.table j → (entry_written t row i).key ≡ (entry_written f.table s.row j).key → ⊥
      by-row f s j m n other e =
          let part = part-row history history own stood.tables stood.parts f s m n in
          let v : Version = part.0 in
          let row_is : IsRowOf history f.table s.row = (other.0, part.2.0.0, (v, ap (last_version history) (sym part.2.0.1) ∙ part.1.last, part.1.alive, part.2.0.2)) in
          let numbers = same-numbers t f.table i j row s.row index.0.0 other.0.0 index.1 other.1 e in
          let tables : f.table ≡ t = sound.once f.table t other.0 index.0 (sym numbers.0) in
          by-table f.table j s.row tables other row_is numbers.1 e (let o = part.1.of in subst (IsNew history tx) (o.2 ∙ part.2.0.1) (has o.0 o.1))

  gone-new : (t : Table) (i : SqlIndex) (row : List Value) → IsSqlIndexOf history t i → IsRowOf history t row → IsNew history tx (key_of t row) → IsNew history tx (entry_written t row i).key
  gone-new t i row index is new =
      let part = table-part history history own stood.tables stood.parts t is.0 in
      subst (λ (u : Table). IsNew history tx (entry_written u row i).key) part.2
      (by-table part.0 part.1 (subst (λ (u : Table). IsSqlIndexOf history u i) (sym part.2) index) (subst (λ (u : Table). IsRowOf history u row) (sym part.2) is)
      (subst (λ (u : Table). IsNew history tx (key_of u row)) (sym part.2) new))
    where
      by-table : (f : TableFound) → IsAmong stood.tables f → IsSqlIndexOf history f.table i → IsRowOf history f.table row → IsNew history tx (key_of f.table row) → IsNew history tx (entry_written f.table row i).key
      by-table f m index is new =
          let listed = row-listed history history own stood.tables stood.parts f row m is (new-own f.table row new) in
          let found = given-live history history own stood.tables stood.parts stood.entered f listed.0 i m listed.1 (index-part history history own stood.tables stood.parts f i m index) in
          let live = live-entry history history own stood.tables stood.parts found.0 found.1 in
          let o = live.2 in
          subst (IsNew history tx)
          (o.2 ∙ ap (λ (w : Written). w.key) found.2 ∙ ap (λ (r : List Value). (entry_written f.table r i).key) listed.2) (has o.0 o.1)

  pub own-sound : IsSqlSound after
  own-sound = step-sound history tx catalogue-left sound (record {
    catalogue = catalogue-left;
    texts = texts-new;
    marks = marks-new;
    entries = entries-new;
    still = still-none;
    gone = gone-new;
  })

-- ---- the transaction of a number, by the versions up to it

module _ (history : List Transaction) (number : ℕ) (some : 1 ≤ number) (within : number ≤ length history) (own changes : List Version) (by : AreByNumber (take number history) changes)
    (of : (v : Version) → IsAmong own v ↔ (IsAmong changes v × (v.tx ≡ number))) where
  abbrev before : List Transaction
  before = take (number - 1) history

  abbrev this : Transaction
  this = get_or history (number - 1) no_transaction

  long : length before + 1 ≡ number
  long = (let e : length before ≡ number - 1 = length-take-le (number - 1) history (omega (arith, within)) in omega (arith, e, some))

  whole : take number history ≡ before ++ this ∷ []
  whole = ap (λ (k : ℕ). take k history) (let e : number ≡ (number - 1) + 1 = omega (arith, some) in e) ∙ take_more history (number - 1) no_transaction (omega (arith, some, within))

  of-key : (key : List ℕ) → begins_with (0 ∷ []) key ≡ true → filter (is_of key) changes ≡ versions_of (before ++ this ∷ []) key
  of-key key begins = by.0.each key begins ∙ ap (λ (h : List Transaction). versions_of h key) whole

  number-new : (v : Version) → IsAmong changes v → v.tx ≡ length before + 1 → IsNew before this v.key
  number-new v m e none =
      let begins : begins_with (0 ∷ []) v.key ≡ true = All-among (λ (w : Version). begins_with (0 ∷ []) w.key ≡ true) changes v by.0.begin m in
      let kept : IsAmong (filter (is_of v.key) changes) v = among-kept (is_of v.key) changes v m ((bytes_eq-Decides v.key v.key).1 refl) in
      let same : filter (is_of v.key) changes ≡ versions_of before v.key =
      of-key v.key begins ∙ versions-pushed before this v.key ∙ ap (λ (vs : List Version). versions_of before v.key ++ vs) none ∙ append-nil (versions_of before v.key) in
      let old : IsAmong (versions_of before v.key) v = subst (λ (vs : List Version). IsAmong vs v) same kept in
      let few : v.tx ≤ length before =
      (All-among (λ (w : Version). (1 ≤ w.tx) × (w.tx ≤ length before)) (all_versions before) v (versions-within before) (among-filter (is_of v.key) (all_versions before) v old).1).1 in
      omega (arith, few, e)

  own-new : (v : Version) → IsAmong own v → IsNew before this v.key
  own-new v m = (let is = (of v).0 m in number-new v is.0 (is.1 ∙ sym long))

  new-among : (rest : List ℕ) → IsNew before this (0 ∷ rest) → (v : Version) × IsAmong own v × (v.key ≡ 0 ∷ rest)
  new-among rest new =
      let found = last-new before this (0 ∷ rest) new in
      let v : Version = found.0 in
      let kept : IsAmong (filter (is_of (0 ∷ rest)) changes) v =
      subst (λ (vs : List Version). IsAmong vs v) (sym (of-key (0 ∷ rest) (begins-from (0 ∷ []) rest (0 ∷ rest) refl))) found.3 in
      let is = among-filter (is_of (0 ∷ rest)) changes v kept in
      (v, (of v).1 (is.1, found.2 ∙ long), (bytes_eq-Decides v.key (0 ∷ rest)).0 is.0)

  pub number-sound : IsSqlSound before → StoodOf before own → StandsOf before (take number history) own changes → IsSqlSound (take number history)
  number-sound sound stood stands =
      subst IsSqlSound (sym whole)
      (own-sound before this sound own changes own-new new-among number-new stood (subst (λ (h : List Transaction). StandsOf before h own changes) whole stands))
