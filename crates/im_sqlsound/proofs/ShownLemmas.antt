-- The tables, indexes and rows that live keys say are those of the history.
use Rattle.std.proofs.Common.{◌≡◌, ◌+◌, ℕ, false, List, [], ◌∷◌, ◌++◌, length, drop, sum_by, Some, refl, sym, ap, ◌∙◌, subst, arith}
use Rattle.std.proofs.lemmas.List.Sums.{sum_by-cons}
use Rattle.std.specs.List.{AllByRecursion, IsAmong}
use Rattle.im_octet.specs.Fields.{field4}
use Rattle.im_model.specs.declared.transactions.Transaction.{Transaction}
use Rattle.im_versions.specs.Versions.{last_version, last_number, version_number, begins_with, IsScan}
use Rattle.im_versions.specs.declared.versions.Version.{Version}
use Rattle.im_versions.proofs.ListLemmas.{All-among, among-filter}
use Rattle.im_versions.proofs.VersionLemmas.{last-of-key}
use Rattle.im_sqltype.specs.Texts.{row_text}
use Rattle.im_sqltype.specs.declared.values.Value.{Value}
use Rattle.im_sqlmodel.specs.Keys.{tables_key, table_key, index_prefix, index_key, rows_prefix}
use Rattle.im_sqlmodel.specs.Kept.{IsTableOf, IsSqlIndexOf, IsRowOf}
use Rattle.im_sqlmodel.specs.Rows.{IsLiveAs, IsIndexVersion, IsStoredRow, columns_of, key_of}
use Rattle.im_sqlmodel.specs.Tables.{table_text, index_text}
use Rattle.im_sqlmodel.specs.declared.rows.StoredRow.{StoredRow}
use Rattle.im_sqlmodel.specs.declared.tables.SqlIndex.{SqlIndex}
use Rattle.im_sqlmodel.specs.declared.tables.Table.{Table}
use Rattle.im_catalog.specs.Parts.{HasParts}
use Rattle.im_catalog.proofs.FrontLemmas.{among-kept, begins-from}
use Rattle.im_catalog.proofs.OneLemmas.{one-index-version}
use Rattle.im_catalog.proofs.TableLemmas.{one-table, table-read}
use Rattle.im_plan.proofs.EntryLemmas.{zip-among, zip-among-left, zip-length}
use Rattle.im_plan.proofs.EntryRowLemmas.{text-same}
use Rattle.im_sqlsound.specs.Sounding.{kind_shown, under, IsTableVersion, IsFound, AreFound}
use Rattle.im_sqlsound.specs.declared.found.TableFound.{TableFound}
use Rattle.im_sqlsound.proofs.GroupLemmas.{sizes, sizes-append, fronts, groups}
use Rattle.im_sql.proofs.NextLemmas.{all-of}

pub shown-live : (history : List Transaction) (shown : List Version) (v : Version) → IsScan history (0 ∷ []) shown → IsAmong shown v → (last_version history v.key ≡ Some v) × (v.deleted ≡ false)
shown-live history shown v scan m = All-among (λ (w : Version). (last_version history w.key ≡ Some w) × (w.deleted ≡ false)) shown v scan.live m

-- a live key that begins with 00 is shown
pub live-shown : (history : List Transaction) (shown : List Version) (rest value : List ℕ) → IsScan history (0 ∷ []) shown → (live : IsLiveAs history (0 ∷ rest) value) → IsAmong shown live.0
live-shown history shown rest value scan live = scan.all (0 ∷ rest) live.0 live.1 live.2 (begins-from (0 ∷ []) rest (0 ∷ rest) refl)

-- so of a key whose front is one of those that are asked for
pub live-under : (history : List Transaction) (shown : List Version) (front rest key value : List ℕ) → IsScan history (0 ∷ []) shown → key ≡ 0 ∷ drop 1 key → key ≡ front ++ rest
    → (live : IsLiveAs history key value) → IsAmong (under front shown) live.0
live-under history shown front rest key value scan zero front_is live =
    let own : (live.0).key ≡ key = last-of-key history key live.0 live.1 in
    let there : IsAmong shown live.0 = scan.all key live.0 live.1 live.2 (begins-from (0 ∷ []) (drop 1 key) key zero) in
    among-kept (λ (v : Version). begins_with front v.key) shown live.0 there (begins-from front rest (live.0).key (own ∙ front_is))

pub under-shown : (shown : List Version) (front : List ℕ) (v : Version) → IsAmong (under front shown) v → IsAmong shown v
under-shown shown front v m = (among-filter (λ (w : Version). begins_with front w.key) shown v m).1

module _ (history : List Transaction) (shown : List Version) (fs : List TableFound) (scan : IsScan history (0 ∷ []) shown) (found : AreFound shown fs) where
  abbrev is_found : (f : TableFound) → IsAmong fs f → IsFound shown f
  is_found f m = All-among (IsFound shown) fs f found.each m

  -- ---- tables

  pub table-live : (f : TableFound) → IsAmong fs f → IsTableOf history f.table
  table-live f m =
      let by = zip-among (λ (v : Version) (g : TableFound). IsTableVersion v g.table) (kind_shown 1 shown) fs f found.tables m in
      let v : Version = by.0 in
      let alive = shown-live history shown v scan (under-shown shown (0 ∷ 1 ∷ []) v by.1) in
      (by.2.0, (v, ap (last_version history) (sym by.2.1) ∙ alive.0, alive.1, by.2.2))

  pub table-found : (t : Table) → IsTableOf history t → (f : TableFound) × IsAmong fs f × (f.table ≡ t)
  table-found t of =
      let v : Version = of.1.0 in
      let own : v.key ≡ table_key t.name = last-of-key history (table_key t.name) v of.1.1 in
      let there : IsAmong (kind_shown 1 shown) v = live-under history shown (0 ∷ 1 ∷ []) t.name (table_key t.name) (table_text t) scan refl refl of.1 in
      let by = zip-among-left (λ (w : Version) (g : TableFound). IsTableVersion w g.table) (kind_shown 1 shown) fs v found.tables there in
      let f : TableFound = by.0 in
      let names : f.table.name ≡ t.name = ap (λ (k : List ℕ). drop 2 k) (sym by.2.1 ∙ own) in
      let text : table_text f.table ≡ table_text t = sym by.2.2 ∙ of.1.3 in
      let has : HasParts t.name (table_text f.table) f.table = record { is = table-read f.table by.2.0; named = names; says = refl } in
      (f, by.1, one-table t.name (table_text f.table) f.table t has (table-read t of.0) refl text)

  -- ---- indexes

  pub index-live : (f : TableFound) (i : SqlIndex) → IsAmong fs f → IsAmong f.indexes i → IsSqlIndexOf history f.table i
  index-live f i m n =
      let by = zip-among (IsIndexVersion f.table) (under (index_prefix f.table.tid) shown) f.indexes i (is_found f m).indexes n in
      let v : Version = by.0 in
      let alive = shown-live history shown v scan (under-shown shown (index_prefix f.table.tid) v by.1) in
      (table-live f m, by.2.0, (v, ap (last_version history) (sym by.2.1) ∙ alive.0, alive.1, by.2.2))

  pub index-found : (f : TableFound) (i : SqlIndex) → IsAmong fs f → IsSqlIndexOf history f.table i → IsAmong f.indexes i
  index-found f i m of =
      let t : Table = f.table in
      let v : Version = of.2.0 in
      let own : v.key ≡ index_key t.tid i.iid = last-of-key history (index_key t.tid i.iid) v of.2.1 in
      let there : IsAmong (under (index_prefix t.tid) shown) v = live-under history shown (index_prefix t.tid) (field4 i.iid) (index_key t.tid i.iid) (index_text i) scan refl refl of.2 in
      let by = zip-among-left (IsIndexVersion t) (under (index_prefix t.tid) shown) f.indexes v (is_found f m).indexes there in
      subst (IsAmong f.indexes) (one-index-version t of.0.0 v by.0 i by.2 (of.1, own, of.2.3)) by.1

  -- ---- rows

  pub row-live : (f : TableFound) (s : StoredRow) → IsAmong fs f → IsAmong f.rows s → IsRowOf history f.table s.row × (last_number history (key_of f.table s.row) ≡ s.tx)
  row-live f s m n =
      let by = zip-among (IsStoredRow f.table) (under (rows_prefix f.table.tid) shown) f.rows s (is_found f m).rows n in
      let v : Version = by.0 in
      let alive = shown-live history shown v scan (under-shown shown (rows_prefix f.table.tid) v by.1) in
      let last : last_version history (key_of f.table s.row) ≡ Some v = ap (last_version history) (sym by.2.0.1) ∙ alive.0 in
      ((table-live f m, by.2.0.0, (v, last, alive.1, by.2.0.2)), ap version_number last ∙ sym by.2.1)

  pub row-found : (f : TableFound) (row : List Value) → IsAmong fs f → IsRowOf history f.table row → (s : StoredRow) × IsAmong f.rows s × (s.row ≡ row)
  row-found f row m of =
      let t : Table = f.table in
      let v : Version = of.2.0 in
      let there : IsAmong (under (rows_prefix t.tid) shown) v =
      live-under history shown (rows_prefix t.tid) (row_text (columns_of row t.key)) (key_of t row) (row_text row) scan refl refl of.2 in
      let by = zip-among-left (IsStoredRow t) (under (rows_prefix t.tid) shown) f.rows v (is_found f m).rows there in
      (by.0, by.1, text-same t (by.0).row row by.2.0.0 of.1 (sym by.2.0.2 ∙ of.2.3))

  -- ---- how many keys there are

  sizes-fronts : (n : ℕ) (count : TableFound → ℕ) (gs : List TableFound)
      → AllByRecursion (λ (g : TableFound). length (under (0 ∷ n ∷ field4 g.table.tid) shown) ≡ count g) gs → sizes (fronts n gs) shown ≡ sum_by count gs
  sizes-fronts n count [] all = refl
  sizes-fronts n count (g ∷ gs) all =
      let sum : sum_by count (g ∷ gs) ≡ count g + sum_by count gs = sum_by-cons count g gs in
      let here : length (under (0 ∷ n ∷ field4 g.table.tid) shown) ≡ count g = all.0 in
      let rest : sizes (fronts n gs) shown ≡ sum_by count gs = sizes-fronts n count gs all.1 in
      (let step : length (under (0 ∷ n ∷ field4 g.table.tid) shown) + sizes (fronts n gs) shown ≡ count g + sum_by count gs = omega (arith, here, rest) in step) ∙ sym sum

  abbrev count_indexes : TableFound → ℕ
  count_indexes f = length f.indexes

  abbrev count_rows : TableFound → ℕ
  count_rows f = length f.rows

  pub sum-groups : sizes (groups fs) shown
      ≡ length (under tables_key shown) + length fs + sum_by (λ f. length f.indexes) fs + length (kind_shown 3 shown)
      + sum_by (λ f. length f.rows) fs + length (kind_shown 5 shown) + length (kind_shown 6 shown)
  sum-groups =
      let both : sizes (fronts 2 fs ++ fronts 4 fs) shown ≡ sizes (fronts 2 fs) shown + sizes (fronts 4 fs) shown = sizes-append (fronts 2 fs) (fronts 4 fs) shown in
      let two : sizes (fronts 2 fs) shown ≡ sum_by count_indexes fs =
      sizes-fronts 2 count_indexes fs (all-of (λ (g : TableFound). length (under (0 ∷ 2 ∷ field4 g.table.tid) shown) ≡ count_indexes g) fs
      (λ g m. zip-length (IsIndexVersion g.table) (under (index_prefix g.table.tid) shown) g.indexes (is_found g m).indexes)) in
      let four : sizes (fronts 4 fs) shown ≡ sum_by count_rows fs =
      sizes-fronts 4 count_rows fs (all-of (λ (g : TableFound). length (under (0 ∷ 4 ∷ field4 g.table.tid) shown) ≡ count_rows g) fs
      (λ g m. zip-length (IsStoredRow g.table) (under (rows_prefix g.table.tid) shown) g.rows (is_found g m).rows)) in
      let tables : length (kind_shown 1 shown) ≡ length fs = zip-length (λ (v : Version) (g : TableFound). IsTableVersion v g.table) (kind_shown 1 shown) fs found.tables in
      omega (arith, both, two, four, tables)
