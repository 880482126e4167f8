-- Live keys that are SQL's are judged to be.
use Rattle.std.proofs.Common.{◌≡◌, ◌≢◌, ◌≤◌, ◌<◌, ◌+◌, ◌^◌, ◌||◌, ◌⊎◌, inl, inr, ℕ, Bool, true, false, List, [], ◌∷◌, ◌++◌, length, take, drop, map, flat_map, filter, get_or, nat_eq, All, AllPairs, Some, refl, sym, ap, ◌∙◌, subst, arith}
use Rattle.std.proofs.lemmas.Bool.{true≢false, or_left, or_right, eq-eqb, eqb-true}
use Rattle.std.proofs.lemmas.List.{length-map, take-take}
use Rattle.std.proofs.lemmas.List.Elements.{All-from_recursion}
use Rattle.std.proofs.lemmas.List.Kept.{AllPairs-filter}
use Rattle.std.proofs.lemmas.Slice.Eq.{bytes_eq-Decides}
use Rattle.std.specs.List.{AllByRecursion, AllZip, IsAmong}
use Rattle.im_octet.specs.Fields.{field4}
use Rattle.im_octet.proofs.Common.{some-is}
use Rattle.im_model.specs.declared.transactions.Transaction.{Transaction}
use Rattle.im_versions.specs.Versions.{last_version, is_live, is_of, begins_with, IsBelow, IsScan}
use Rattle.im_versions.specs.declared.versions.Version.{Version}
use Rattle.im_versions.proofs.ListLemmas.{All-among, among-cons, among-filter, among-first, among-left, among-nil, among-right, rising-unique}
use Rattle.im_versions.proofs.VersionLemmas.{last-of-key, below-strict, scan-unique}
use Rattle.im_sqltype.specs.Texts.{row_text}
use Rattle.im_sqltype.specs.declared.values.Value.{Value}
use Rattle.im_sqlmodel.specs.Keys.{tables_key, table_prefix, table_key, indexes_prefix, index_prefix, index_key, rows_prefix, mark_key}
use Rattle.im_sqlmodel.specs.Kept.{IsTableOf, IsSqlIndexOf, IsRowOf, IsText, IsSqlSound}
use Rattle.im_sqlmodel.specs.Rows.{IsLiveAs, IsIndexVersion, IsStoredRow, columns_of, key_of}
use Rattle.im_sqlmodel.specs.Sorts.{sorted}
use Rattle.im_sqlmodel.specs.Writes.{entry_written}
use Rattle.im_sqlmodel.specs.declared.rows.StoredRow.{StoredRow}
use Rattle.im_sqlmodel.specs.declared.tables.SqlIndex.{SqlIndex}
use Rattle.im_sqlmodel.specs.declared.tables.Table.{Table}
use Rattle.im_sqlmodel.specs.declared.written.Written.{Written}
use Rattle.im_sqlmodel.proofs.OnceLemmas.{value-live}
use Rattle.im_catalog.proofs.FoundLemmas.{begins-is, entry-is, other-second, table-there}
use Rattle.im_catalog.proofs.FrontLemmas.{among-kept, begins-from, begins-shorter, scan-front}
use Rattle.im_catalog.proofs.HistoryLemmas.{among-either}
use Rattle.im_catalog.proofs.ThereLemmas.{no_version, rows-are, indexes-are}
use Rattle.im_plan.proofs.BestLemmas.{at-any}
use Rattle.im_plan.proofs.EntryLemmas.{zip-at, zip-length}
use Rattle.im_sqlsound.specs.Sounding.{kind_shown, under, said_by, entries_of, IsTableVersion, IsFound, IsFoundBy, AreFound, IsCountShown, AreNumbered, AreGapless, IsMarked, IsSoundAlone, IsMarkShown, AreEntered, IsAll, Hang, AreByNumber}
use Rattle.im_sqlsound.specs.declared.found.TableFound.{TableFound}
use Rattle.im_sqlsound.proofs.AmongLemmas.{among-map, map-among, among-flat, flat-among, among-sorted, sorted-among, sorted-rising, by_key, no-more, up_to, length-up_to, among-up_to}
use Rattle.im_sql.proofs.CountLemmas.{few-by}
use Rattle.im_sqlsound.proofs.EntryLemmas.{entries-apart}
use Rattle.im_sqlsound.proofs.GroupLemmas.{AreTold, InGroup, groups, hits, apart-both, one-sizes, groups-few, hit-groups}
use Rattle.im_sql.proofs.NextLemmas.{Apart, apart-from, pairs-from, all-of}
use Rattle.im_sqlsound.proofs.NumberLemmas.{index-less, at-place}
use Rattle.im_sql.proofs.ShortLemmas.{Below}
use Rattle.im_sqlsound.proofs.ShownLemmas.{shown-live, under-shown, table-live, table-found, index-live, index-found, row-live, row-found, sum-groups}
use Rattle.im_sqlsound.proofs.SoundLemmas.{tid_of, tids-mapped}
use Rattle.im_sqlsound.proofs.TablesLemmas.{found-whole}

-- what stands at a place of a list
abbrev here : {A : Type 0} (xs : List A) (k : ℕ) (d : A) → k < length xs → IsAmong xs (get_or xs k d)
here xs k d l = (k, (l, at-any xs k d (get_or xs k d) l))

all-here : {A : Type 0} (P : A → Type 0) (xs : List A) → ((x : A) → IsAmong xs x → P x) → All P xs
all-here P xs h = All-from_recursion P xs (all-of P xs h)

-- ---- tables, indexes and rows are there to be found

-- an item for each of a list
each-of : {A B : Type 0} (R : A → B → Type 0) (xs : List A) → ((x : A) → IsAmong xs x → (y : B) × R x y) → (ys : List B) × AllZip R xs ys
each-of R [] h = ([], tt)
each-of {A} {B} R (x ∷ xs) h =
    let first = h x (among-first x xs) in
    let rest = each-of R xs (λ y m. h y (among-behind-first x xs y m)) in
    (first.0 ∷ rest.0, (first.1, rest.1))
  where
    among-behind-first : (z : A) (zs : List A) (y : A) → IsAmong zs y → IsAmong (z ∷ zs) y
    among-behind-first z zs y m = among-right (z ∷ []) zs y m

module _ (history : List Transaction) (shown : List Version) (sound : IsSqlSound history) (scan : IsScan history (0 ∷ []) shown) where
  -- what is shown under a front is the scan of it
  front-scan : (octet : ℕ) (rest : List ℕ) → IsScan history (0 ∷ octet ∷ rest) (under (0 ∷ octet ∷ rest) shown)
  front-scan octet rest = scan-front history (0 ∷ []) (0 ∷ octet ∷ rest) shown (λ key begins. begins-shorter (0 ∷ []) (octet ∷ rest) key begins) scan

  table-said : (v : Version) → IsAmong (kind_shown 1 shown) v → (t : Table) × IsTableVersion v t × IsTableOf history t
  table-said v m =
      let is = among-filter (λ (w : Version). begins_with (0 ∷ 1 ∷ []) w.key) shown v m in
      let alive = shown-live history shown v scan is.1 in
      let name : List ℕ = drop 2 v.key in
      let key : v.key ≡ table_key name = begins-is (0 ∷ 1 ∷ []) v.key is.0 in
      let last : last_version history (table_key name) ≡ Some v = ap (last_version history) (sym key) ∙ alive.0 in
      let said = table-there history name v sound (sym last) alive.1 in
      let t : Table = said.0 in
      let named : v.key ≡ table_key t.name = key ∙ ap table_key (sym said.2) in
      (t, (said.1, named, said.3), (said.1, (v, ap (last_version history) (sym named) ∙ alive.0, alive.1, said.3)))

  found-by : (v : Version) → IsAmong (kind_shown 1 shown) v → (f : TableFound) × IsFoundBy shown v f
  found-by v m =
      let said = table-said v m in
      let t : Table = said.0 in
      let indexes = indexes-are history t sound said.2 in
      let rows = rows-are history t sound said.2 in
      let shown_indexes : indexes.1.0 ≡ under (index_prefix t.tid) shown = scan-unique history (index_prefix t.tid) indexes.1.0 (under (index_prefix t.tid) shown) indexes.1.1 (front-scan 2 (field4 t.tid)) in
      let shown_rows : rows.1.0 ≡ under (rows_prefix t.tid) shown = scan-unique history (rows_prefix t.tid) rows.1.0 (under (rows_prefix t.tid) shown) rows.1.1 (front-scan 4 (field4 t.tid)) in (
        record { table = t; indexes = indexes.0; rows = rows.0 },
        (
          said.1,
          record {
            table = said.1.0;
            indexes = subst (λ (vs : List Version). AllZip (IsIndexVersion t) vs indexes.0) shown_indexes indexes.1.2;
            rows = subst (λ (vs : List Version). AllZip (IsStoredRow t) vs rows.0) shown_rows rows.1.2;
          },
        ),
      )

  pub sound-found : (fs : List TableFound) × AreFound shown fs
  sound-found =
      let all = each-of (IsFoundBy shown) (kind_shown 1 shown) found-by in
      (all.0, found-whole shown all.0 all.1)

-- ---- what was settled stands

pub sound-settled : (history : List Transaction) (k : ℕ) (before shown : List Version) → k < length history → IsScan (take k history) (0 ∷ []) before → IsScan (take (k + 1) history) (0 ∷ []) shown
    → IsSqlSound (take (k + 1) history) → (octet : ℕ) → (octet ≡ 1) ⊎ (octet ≡ 2) → All (λ v. IsAmong shown v) (kind_shown octet before)
sound-settled history k before shown less old new sound octet which = all-here (λ v. IsAmong shown v) (kind_shown octet before) (λ v m.
    let is = among-filter (λ (w : Version). begins_with (0 ∷ octet ∷ []) w.key) before v m in
    let alive = shown-live (take k history) before v old is.1 in
    let same : take k (take (k + 1) history) ≡ take k history = take-take k (k + 1) history (omega arith) in
    let stands : last_version (take (k + 1) history) v.key ≡ Some v =
    sound.settled k v.key v (either v which is.0) (ap (λ (h : List Transaction). last_version h v.key) same ∙ alive.0) alive.1 in
    new.all v.key v stands alive.1 (begins-shorter (0 ∷ []) (octet ∷ []) v.key is.0))
  where
    either : (v : Version) → (octet ≡ 1) ⊎ (octet ≡ 2) → begins_with (0 ∷ octet ∷ []) v.key ≡ true → (begins_with table_prefix v.key || begins_with indexes_prefix v.key) ≡ true
    either v (inl one) begins = or_left (begins_with table_prefix v.key) (begins_with indexes_prefix v.key) (subst (λ (n : ℕ). begins_with (0 ∷ n ∷ []) v.key ≡ true) one begins)
    either v (inr two) begins = or_right (begins_with table_prefix v.key) (begins_with indexes_prefix v.key) (subst (λ (n : ℕ). begins_with (0 ∷ n ∷ []) v.key ≡ true) two begins)

-- ---- all else

module _ (history : List Transaction) (shown changes : List Version) (fs : List TableFound) (sound : IsSqlSound history) (scan : IsScan history (0 ∷ []) shown) (by : AreByNumber history changes)
    (found : AreFound shown fs) where
  abbrev live_table : (f : TableFound) → IsAmong fs f → IsTableOf history f.table
  live_table f m = table-live history shown fs scan found f m

  text-at : (v : Version) → IsAmong shown v → IsText history v.key v.value
  text-at v m =
      let alive = shown-live history shown v scan m in
      let rest : List ℕ = drop 1 v.key in
      let key : v.key ≡ 0 ∷ rest = begins-is (0 ∷ []) v.key (All-among (λ (w : Version). begins_with (0 ∷ []) w.key ≡ true) shown v scan.begin m) in
      let live : IsLiveAs history (0 ∷ rest) v.value = (v, ap (last_version history) (sym key) ∙ alive.0, alive.1, refl) in
      subst (λ (k : List ℕ). IsText history k v.value) (sym key) (sound.texts rest v.value live)

  -- ---- tables

  pub tids-apart : AllPairs (λ a b. a.table.tid ≢ b.table.tid) fs
  tids-apart i j d less l same =
      let a : TableFound = get_or fs i d in
      let b : TableFound = get_or fs j d in
      let low : i < length fs = omega (arith, less, l) in
      let one : a.table ≡ b.table = sound.once a.table b.table (live_table a (here fs i d low)) (live_table b (here fs j d l)) same in
      let long : length (kind_shown 1 shown) ≡ length fs = zip-length (λ (v : Version) (g : TableFound). IsTableVersion v g.table) (kind_shown 1 shown) fs found.tables in
      let first = zip-at (λ (v : Version) (g : TableFound). IsTableVersion v g.table) (kind_shown 1 shown) fs i no_version d found.tables low in
      let other = zip-at (λ (v : Version) (g : TableFound). IsTableVersion v g.table) (kind_shown 1 shown) fs j no_version d found.tables l in
      let keys : (get_or (kind_shown 1 shown) i no_version).key ≡ (get_or (kind_shown 1 shown) j no_version).key = first.1 ∙ ap (λ (t : Table). table_key t.name) one ∙ sym other.1 in
      let rising = AllPairs-filter (λ (u w : Version). IsBelow u.key w.key) (λ (v : Version). begins_with (0 ∷ 1 ∷ []) v.key) shown scan.rising in
      let below : IsBelow (get_or (kind_shown 1 shown) i no_version).key (get_or (kind_shown 1 shown) j no_version).key = rising i j no_version less (omega (arith, long, l)) in
      let itself = subst (λ (k : List ℕ). IsBelow k (get_or (kind_shown 1 shown) j no_version).key) keys below in
      below-strict (get_or (kind_shown 1 shown) j no_version).key (get_or (kind_shown 1 shown) j no_version).key itself itself

  count-is : sound.count ≡ length fs
  count-is =
      let few : sound.count ≤ length fs =
      few-by (λ (k : ℕ) (f : TableFound). nat_eq (tid_of f) k) sound.count fs
      (λ j k f a b c d p q. sym (eqb-true (tid_of f) j p) ∙ eqb-true (tid_of f) k q)
      (λ k low high.
      let t = sound.filled k low high in
      let f = table-found history shown fs scan found t.0 t.1 in
      (f.0, f.1, eq-eqb (tid_of f.0) k (ap (λ (u : Table). u.tid) f.2 ∙ t.2))) in
      let mapped : length (map tid_of fs) ≡ length fs = length-map fs tid_of in
      let long : length (up_to sound.count) ≡ sound.count = length-up_to sound.count in
      let no_more : length (map tid_of fs) ≤ length (up_to sound.count) =
      no-more (map tid_of fs) (up_to sound.count) (tids-mapped fs tids-apart) (λ n m.
      let f = map-among tid_of fs n m in
      let is = sound.numbered (f.0).table (live_table f.0 f.1) in
      subst (IsAmong (up_to sound.count)) (sym f.2) (among-up_to sound.count (tid_of f.0) is.0 is.1)) in
      omega (arith, few, mapped, long, no_more)

  -- only the number of tables stands under a key that begins with its
  count-key : (v : Version) → IsAmong shown v → begins_with tables_key v.key ≡ true → v.key ≡ tables_key
  count-key v m begins = by-text (text-at v m)
    where
      zero_is : get_or v.key 1 0 ≡ 0
      zero_is = ap (λ (k : List ℕ). get_or k 1 0) (begins-is tables_key v.key begins)

      by-text : IsText history v.key v.value → v.key ≡ tables_key
      by-text (inl is) = is.2
      by-text (inr (inl is)) = absurd (other-second 0 1 v.key (table_key is.0.name) (λ same. omega (arith, same)) zero_is refl is.2)
      by-text (inr (inr (inl is))) = absurd (other-second 0 2 v.key (index_key is.0.tid is.1.iid) (λ same. omega (arith, same)) zero_is refl is.4)
      by-text (inr (inr (inr (inl is)))) = absurd (other-second 0 3 v.key (mark_key is.0.tid) (λ same. omega (arith, same)) zero_is refl is.2)
      by-text (inr (inr (inr (inr (inl is))))) = absurd (other-second 0 4 v.key (key_of is.0 is.1) (λ same. omega (arith, same)) zero_is refl is.4)
      by-text (inr (inr (inr (inr (inr is))))) = absurd (entry-is 0 v.key is.0 is.2 is.1 (omega arith) zero_is is.5)

  -- a version under such a key is the last of that key
  count-version : (key : List ℕ) (v : Version) → last_version history key ≡ Some v → v.deleted ≡ false → begins_with tables_key key ≡ true → last_version history tables_key ≡ Some v
  count-version key v last alive begins =
      let own : v.key ≡ key = last-of-key history key v last in
      let m : IsAmong shown v = scan.all key v last alive (begins-shorter (0 ∷ []) (0 ∷ []) key begins) in
      let is : v.key ≡ tables_key = count-key v m (ap (begins_with tables_key) own ∙ begins) in
      ap (last_version history) (sym is ∙ own) ∙ last

  scan-nothing : is_live history tables_key ≡ false → IsScan history tables_key []
  scan-nothing none = record {
    rising = λ i j d less l. absurd (let no : ⊥ = omega (arith, less, l) in no);
    live = λ k d l. absurd (let no : ⊥ = omega (arith, l) in no);
    begin = λ k d l. absurd (let no : ⊥ = omega (arith, l) in no);
    all = λ key v last alive begins. absurd (true≢false (sym (value-live history tables_key v.value (v, count-version key v last alive begins, alive, refl)) ∙ none));
  }

  scan-one : (w : Version) → last_version history tables_key ≡ Some w → w.deleted ≡ false → IsScan history tables_key (w ∷ [])
  scan-one w is gone =
      let own : w.key ≡ tables_key = last-of-key history tables_key w is in
      record {
        rising = λ i j d less l. absurd (let no : ⊥ = omega (arith, less, l) in no);
        live = all-here (λ (v : Version). (last_version history v.key ≡ Some v) × (v.deleted ≡ false)) (w ∷ []) (λ v m. elim (among-cons w [] v m) [
          | inl same ↦ subst (λ (u : Version). (last_version history u.key ≡ Some u) × (u.deleted ≡ false)) (sym same) (ap (last_version history) own ∙ is, gone)
          | inr none ↦ absurd (among-nil v none)
        ]);
        begin = all-here (λ (v : Version). begins_with tables_key v.key ≡ true) (w ∷ []) (λ v m. elim (among-cons w [] v m) [
          | inl same ↦ subst (λ (u : Version). begins_with tables_key u.key ≡ true) (sym same) (begins-from tables_key [] w.key own)
          | inr none ↦ absurd (among-nil v none)
        ]);
        all = λ key v last alive begins.
            subst (IsAmong (w ∷ [])) (some-is w v (sym is ∙ count-version key v last alive begins)) (among-first w []);
      }

  tables-scan : IsScan history tables_key (under tables_key shown)
  tables-scan = scan-front history (0 ∷ []) tables_key shown (λ key begins. begins-shorter (0 ∷ []) (0 ∷ []) key begins) scan

  count-shown : IsCountShown shown (length fs)
  count-shown = elim sound.counted [
    | inl none ↦ inl (scan-unique history tables_key (under tables_key shown) [] tables-scan (scan-nothing none.0), sym count-is ∙ none.1)
    | inr some ↦ (
        let w : Version = some.1.0 in
        let fits : sound.count < 2 ^ 32 = some.0 in
        let same : sound.count ≡ length fs = count-is in
        inr (
          w,
          scan-unique history tables_key (under tables_key shown) (w ∷ []) tables-scan (scan-one w some.1.1 some.1.2),
          last-of-key history tables_key w some.1.1,
          (let below : length fs < 2 ^ 32 = omega (arith, fits, same) in below),
          some.1.3 ∙ ap field4 same,
        ))
  ]

  pub numbered-are : AreNumbered shown fs
  numbered-are = (
    count-shown,
    (
      all-here (λ (f : TableFound). (1 ≤ f.table.tid) × (f.table.tid ≤ length fs)) fs (λ f m.
          let is = sound.numbered f.table (live_table f m) in
          (is.0, subst (λ (n : ℕ). f.table.tid ≤ n) count-is is.1)),
      tids-apart,
    ),
  )

  told : AreTold fs
  told = (
    apart-from (λ (a b : TableFound). a.table.tid ≢ b.table.tid) fs tids-apart,
    all-of (λ (f : TableFound). f.table.tid < 2 ^ 32) fs (λ f m. (live_table f m).0.tid.1),
  )

  -- ---- indexes

  iids-rise : (f : TableFound) → IsAmong fs f → (j k : ℕ) (d : SqlIndex) → j < k → k < length f.indexes → (get_or f.indexes j d).iid < (get_or f.indexes k d).iid
  iids-rise f m j k d less l =
      let t : Table = f.table in
      let vs : List Version = under (index_prefix t.tid) shown in
      let is = All-among (IsFound shown) fs f found.each m in
      let long : length vs ≡ length f.indexes = zip-length (IsIndexVersion t) vs f.indexes is.indexes in
      let first = zip-at (IsIndexVersion t) vs f.indexes j no_version d is.indexes (omega (arith, less, l)) in
      let other = zip-at (IsIndexVersion t) vs f.indexes k no_version d is.indexes l in
      let rising = AllPairs-filter (λ (u w : Version). IsBelow u.key w.key) (λ (v : Version). begins_with (index_prefix t.tid) v.key) shown scan.rising in
      let below : IsBelow (get_or vs j no_version).key (get_or vs k no_version).key = rising j k no_version less (omega (arith, long, l)) in
      index-less t.tid (get_or f.indexes j d).iid (get_or f.indexes k d).iid first.0.iid.1 other.0.iid.1
      (subst (λ (key : List ℕ). IsBelow (index_key t.tid (get_or f.indexes j d).iid) key) other.1 (subst (λ (key : List ℕ). IsBelow key (get_or vs k no_version).key) first.1 below))

  iids-apart : (f : TableFound) → IsAmong fs f → Apart (λ (i j : SqlIndex). i.iid ≢ j.iid) f.indexes
  iids-apart f m = apart-from (λ (i j : SqlIndex). i.iid ≢ j.iid) f.indexes (λ j k d less l same.
      let up : (get_or f.indexes j d).iid < (get_or f.indexes k d).iid = iids-rise f m j k d less l in
      omega (arith, up, same))

  gapless-each : (f : TableFound) → IsAmong fs f → AreGapless f.indexes
  gapless-each f m k d l =
      at-place (λ (i : SqlIndex). i.iid) f.indexes d (λ j q. (index-live history shown fs scan found f (get_or f.indexes j d) m (here f.indexes j d q)).1.iid.0)
      (λ i j less q. iids-rise f m i j d less q)
      (λ j n q low high.
      let found_by = sound.gapless f.table (get_or f.indexes j d) n (index-live history shown fs scan found f (get_or f.indexes j d) m (here f.indexes j d q)) low high in
      let there = index-found history shown fs scan found f found_by.0 m found_by.1 in
      (there.0, there.1.0, ap (λ (i : SqlIndex). i.iid) (at-any f.indexes there.0 d found_by.0 there.1.0 ∙ sym there.1.1) ∙ found_by.2))
      (length f.indexes) k l l

  -- ---- rows and marks

  rows-apart : (f : TableFound) → IsAmong fs f → Apart (λ (r s : StoredRow). key_of f.table r.row ≢ key_of f.table s.row) f.rows
  rows-apart f m = apart-from (λ (r s : StoredRow). key_of f.table r.row ≢ key_of f.table s.row) f.rows (λ j k d less l same.
      let t : Table = f.table in
      let vs : List Version = under (rows_prefix t.tid) shown in
      let is = All-among (IsFound shown) fs f found.each m in
      let long : length vs ≡ length f.rows = zip-length (IsStoredRow t) vs f.rows is.rows in
      let first = zip-at (IsStoredRow t) vs f.rows j no_version d is.rows (omega (arith, less, l)) in
      let other = zip-at (IsStoredRow t) vs f.rows k no_version d is.rows l in
      let rising = AllPairs-filter (λ (u w : Version). IsBelow u.key w.key) (λ (v : Version). begins_with (rows_prefix t.tid) v.key) shown scan.rising in
      let below : IsBelow (get_or vs j no_version).key (get_or vs k no_version).key = rising j k no_version less (omega (arith, long, l)) in
      let itself = subst (λ (key : List ℕ). IsBelow key (get_or vs k no_version).key) (first.0.1 ∙ same ∙ sym other.0.1) below in
      below-strict (get_or vs k no_version).key (get_or vs k no_version).key itself itself)

  pub marks-are : All (IsMarkShown fs) (kind_shown 3 shown)
  marks-are = all-here (IsMarkShown fs) (kind_shown 3 shown) (λ v m.
      let is = among-filter (λ (w : Version). begins_with (0 ∷ 3 ∷ []) w.key) shown v m in
      by-text v (ap (λ (k : List ℕ). get_or k 1 0) (begins-is (0 ∷ 3 ∷ []) v.key is.0)) (text-at v is.1))
    where
      by-text : (v : Version) → get_or v.key 1 0 ≡ 3 → IsText history v.key v.value → IsMarkShown fs v
      by-text v three (inl is) = absurd (other-second 3 0 v.key tables_key (λ same. omega (arith, same)) three refl is.2)
      by-text v three (inr (inl is)) = absurd (other-second 3 1 v.key (table_key is.0.name) (λ same. omega (arith, same)) three refl is.2)
      by-text v three (inr (inr (inl is))) = absurd (other-second 3 2 v.key (index_key is.0.tid is.1.iid) (λ same. omega (arith, same)) three refl is.4)
      by-text v three (inr (inr (inr (inl is)))) =
          let f = table-found history shown fs scan found is.0 is.1 in
          (f.0, f.1, is.2 ∙ ap (λ (t : Table). mark_key t.tid) (sym f.2), is.3)
      by-text v three (inr (inr (inr (inr (inl is))))) = absurd (other-second 3 4 v.key (key_of is.0 is.1) (λ same. omega (arith, same)) three refl is.4)
      by-text v three (inr (inr (inr (inr (inr is))))) = absurd (entry-is 3 v.key is.0 is.2 is.1 (omega arith) three is.5)

  marked-each : (f : TableFound) → IsAmong fs f → All (IsMarked changes f.table) f.rows
  marked-each f m = all-here (IsMarked changes f.table) f.rows (λ s n.
      let row = row-live history shown fs scan found f s m n in
      let mark = sound.marks f.table s.row row.0 in
      let key : List ℕ = mark_key f.table.tid in
      let kept : IsAmong (filter (is_of key) changes) mark.0 =
      subst (λ (vs : List Version). IsAmong vs mark.0) (sym (by.0.each key (begins-from (0 ∷ []) (3 ∷ field4 f.table.tid) key refl))) mark.1 in
      let is = among-filter (is_of key) changes mark.0 kept in
      (mark.0, is.1, (bytes_eq-Decides (mark.0).key key).0 is.0, mark.2 ∙ row.1))

  pub each-are : All (IsSoundAlone changes) fs
  each-are = all-here (IsSoundAlone changes) fs (λ f m. (gapless-each f m, marked-each f m))

  -- ---- entries

  abbrev kinds_five : List Version
  kinds_five = kind_shown 5 shown

  abbrev kinds_six : List Version
  kinds_six = kind_shown 6 shown

  five-six : (u v : Version) → IsAmong kinds_five u → IsAmong kinds_six v → IsBelow u.key v.key
  five-six u v m n =
      let five : u.key ≡ 0 ∷ 5 ∷ drop 2 u.key = begins-is (0 ∷ 5 ∷ []) u.key (among-filter (λ (w : Version). begins_with (0 ∷ 5 ∷ []) w.key) shown u m).0 in
      let six : v.key ≡ 0 ∷ 6 ∷ drop 2 v.key = begins-is (0 ∷ 6 ∷ []) v.key (among-filter (λ (w : Version). begins_with (0 ∷ 6 ∷ []) w.key) shown v n).0 in
      subst (λ (k : List ℕ). IsBelow u.key k) (sym six) (subst (λ (k : List ℕ). IsBelow k (0 ∷ 6 ∷ drop 2 v.key)) (sym five) refl)

  said-apart : (vs : List Version) → Apart (λ (a b : Version). IsBelow a.key b.key) vs → Apart Below (map said_by vs)
  said-apart [] h = tt
  said-apart (v ∷ vs) h = (each vs h.0, said-apart vs h.1)
    where
      each : (ws : List Version) → AllByRecursion (λ (w : Version). IsBelow v.key w.key) ws → AllByRecursion (Below (said_by v)) (map said_by ws)
      each [] all = tt
      each (w ∷ ws) all = (all.0, each ws all.1)

  said-rises : Apart Below (map said_by (kinds_five ++ kinds_six))
  said-rises =
      let R : Version → Version → Type 0 = λ u w. IsBelow u.key w.key in
      said-apart (kinds_five ++ kinds_six)
      (apart-both R kinds_five kinds_six
      (apart-from R kinds_five (AllPairs-filter R (λ (v : Version). begins_with (0 ∷ 5 ∷ []) v.key) shown scan.rising))
      (apart-from R kinds_six (AllPairs-filter R (λ (v : Version). begins_with (0 ∷ 6 ∷ []) v.key) shown scan.rising))
      (all-of (λ (u : Version). AllByRecursion (R u) kinds_six) kinds_five (λ u m. all-of (R u) kinds_six (λ v n. five-six u v m n))))

  -- the entry that a version is, is a row's
  entry-given : (v : Version) → IsAmong shown v → 5 ≤ get_or v.key 1 0 → IsAmong (flat_map entries_of fs) (said_by v)
  entry-given v m high = by-text (text-at v m)
    where
      low : (n : ℕ) (other : List ℕ) → n < 5 → get_or other 1 0 ≡ n → v.key ≡ other → ⊥
      low n other less is same = (let own : get_or v.key 1 0 ≡ n = ap (λ (k : List ℕ). get_or k 1 0) same ∙ is in omega (arith, high, less, own))

      by-text : IsText history v.key v.value → IsAmong (flat_map entries_of fs) (said_by v)
      by-text (inl is) = absurd (low 0 tables_key (omega arith) refl is.2)
      by-text (inr (inl is)) = absurd (low 1 (table_key is.0.name) (omega arith) refl is.2)
      by-text (inr (inr (inl is))) = absurd (low 2 (index_key is.0.tid is.1.iid) (omega arith) refl is.4)
      by-text (inr (inr (inr (inl is)))) = absurd (low 3 (mark_key is.0.tid) (omega arith) refl is.2)
      by-text (inr (inr (inr (inr (inl is))))) = absurd (low 4 (key_of is.0 is.1) (omega arith) refl is.4)
      by-text (inr (inr (inr (inr (inr is))))) =
          let t : Table = is.0 in
          let i : SqlIndex = is.1 in
          let row : List Value = is.2 in
          let of = table-found history shown fs scan found t is.3.0 in
          let f : TableFound = of.0 in
          let index = index-found history shown fs scan found f i of.1 (subst (λ (u : Table). IsSqlIndexOf history u i) (sym of.2) is.3) in
          let stored = row-found history shown fs scan found f row of.1 (subst (λ (u : Table). IsRowOf history u row) (sym of.2) is.4) in
          let w : Written = entry_written f.table (stored.0).row i in
          let first : said_by v ≡ entry_written t row i = (λ j. record { key = is.5 j; value = is.6 j }) in
          let same : said_by v ≡ w =
          first ∙ ap (λ (u : Table). entry_written u row i) (sym of.2) ∙ ap (λ (r : List Value). entry_written f.table r i) (sym stored.2) in
          subst (IsAmong (flat_map entries_of fs)) (sym same)
          (among-flat entries_of fs f w of.1 (among-flat (λ (s : StoredRow). map (entry_written f.table s.row) f.indexes) f.rows stored.0 w stored.1
          (among-map (entry_written f.table (stored.0).row) f.indexes i index)))

  second-of : (n : ℕ) (v : Version) → IsAmong (kind_shown n shown) v → get_or v.key 1 0 ≡ n
  second-of n v m = ap (λ (k : List ℕ). get_or k 1 0) (begins-is (0 ∷ n ∷ []) v.key (among-filter (λ (w : Version). begins_with (0 ∷ n ∷ []) w.key) shown v m).0)

  -- each entry of a row stands
  entry-stands : (w : Written) → IsAmong (flat_map entries_of fs) w → IsAmong (map said_by (kinds_five ++ kinds_six)) w
  entry-stands w m =
      let of = flat-among entries_of fs w m in
      let f : TableFound = of.0 in
      let row = flat-among (λ (s : StoredRow). map (entry_written f.table s.row) f.indexes) f.rows w of.2 in
      let s : StoredRow = row.0 in
      let index = map-among (entry_written f.table s.row) f.indexes w row.2 in
      let i : SqlIndex = index.0 in
      let one = index-live history shown fs scan found f i of.1 index.1 in
      let stored = (row-live history shown fs scan found f s of.1 row.1).0 in
      by-kind f s i i.unique refl w index.2 one stored
    where
      stood : (octet : ℕ) (v : Version) (rest : List ℕ) → (octet ≡ 5) ⊎ (octet ≡ 6) → v.key ≡ 0 ∷ octet ∷ rest → last_version history v.key ≡ Some v → v.deleted ≡ false → IsAmong (kinds_five ++ kinds_six) v
      stood octet v rest which key last alive =
          let there : IsAmong shown v = scan.all v.key v last alive (begins-from (0 ∷ []) (octet ∷ rest) v.key key) in
          let kept : IsAmong (kind_shown octet shown) v = among-kept (λ (u : Version). begins_with (0 ∷ octet ∷ []) u.key) shown v there (begins-from (0 ∷ octet ∷ []) rest v.key key) in
          elim which [
            | inl five ↦ among-left kinds_five kinds_six v (subst (λ (n : ℕ). IsAmong (kind_shown n shown) v) five kept)
            | inr six ↦ among-right kinds_five kinds_six v (subst (λ (n : ℕ). IsAmong (kind_shown n shown) v) six kept)
          ]

      said : (w e : Written) (value : List ℕ) (octet : ℕ) (rest : List ℕ) → w ≡ e → e.value ≡ Some value → (octet ≡ 5) ⊎ (octet ≡ 6) → e.key ≡ 0 ∷ octet ∷ rest → IsLiveAs history e.key value
          → IsAmong (map said_by (kinds_five ++ kinds_six)) w
      said w e value octet rest same given which key live =
          let v : Version = live.0 in
          let own : v.key ≡ e.key = last-of-key history e.key v live.1 in
          let there = stood octet v rest which (own ∙ key) (ap (last_version history) own ∙ live.1) live.2 in
          let text : Some v.value ≡ e.value = ap (λ (x : List ℕ). Some x) live.3 ∙ sym given in
          let one : said_by v ≡ e = (λ j. record { key = own j; value = text j }) in
          subst (IsAmong (map said_by (kinds_five ++ kinds_six))) (one ∙ sym same) (among-map said_by (kinds_five ++ kinds_six) v there)

      by-kind : (f : TableFound) (s : StoredRow) (i : SqlIndex) (unique : Bool) → i.unique ≡ unique → (w : Written) → w ≡ entry_written f.table s.row i → IsSqlIndexOf history f.table i → IsRowOf history f.table s.row
          → IsAmong (map said_by (kinds_five ++ kinds_six)) w
      by-kind f s i true is w same one stored =
          let text : List ℕ = row_text (columns_of s.row f.table.key) in
          let e : Written = entry_written f.table s.row i in
          let given : e.value ≡ Some text = ap (λ (b : Bool). (entry_written f.table s.row (record i { unique = b })).value) is in
          said w e text 6 (drop 2 e.key) same given (inr refl) (ap (λ (b : Bool). (entry_written f.table s.row (record i { unique = b })).key) is ∙ sym (ap (λ (b : Bool). 0 ∷ 6 ∷ drop 2 (entry_written f.table s.row (record i { unique = b })).key) is))
          (sound.entries f.table i s.row text one stored given)
      by-kind f s i false is w same one stored =
          let e : Written = entry_written f.table s.row i in
          let given : e.value ≡ Some [] = ap (λ (b : Bool). (entry_written f.table s.row (record i { unique = b })).value) is in
          said w e [] 5 (drop 2 e.key) same given (inl refl) (ap (λ (b : Bool). (entry_written f.table s.row (record i { unique = b })).key) is ∙ sym (ap (λ (b : Bool). 0 ∷ 5 ∷ drop 2 (entry_written f.table s.row (record i { unique = b })).key) is))
          (sound.entries f.table i s.row [] one stored given)

  pub entered-are : AreEntered shown fs
  entered-are =
      rising-unique Below (λ a b. below-strict a.key b.key) (map said_by (kinds_five ++ kinds_six)) (sorted by_key (flat_map entries_of fs))
      (pairs-from Below (map said_by (kinds_five ++ kinds_six)) said-rises)
      (pairs-from Below (sorted by_key (flat_map entries_of fs)) (sorted-rising (flat_map entries_of fs)
      (entries-apart history fs sound live_table (λ f i m n. index-live history shown fs scan found f i m n) (λ f s m n. (row-live history shown fs scan found f s m n).0)
      (apart-from (λ (f g : TableFound). f.table.tid ≢ g.table.tid) fs tids-apart) iids-apart rows-apart)))
      (λ w m.
      let version = map-among said_by (kinds_five ++ kinds_six) w m in
      let v : Version = version.0 in
      let given : IsAmong (flat_map entries_of fs) (said_by v) = elim (among-either kinds_five kinds_six v version.1) [
        | inl five ↦ (let is : get_or v.key 1 0 ≡ 5 = second-of 5 v five in entry-given v (under-shown shown (0 ∷ 5 ∷ []) v five) (omega (arith, is)))
        | inr six ↦ (let is : get_or v.key 1 0 ≡ 6 = second-of 6 v six in entry-given v (under-shown shown (0 ∷ 6 ∷ []) v six) (omega (arith, is)))
      ] in
      among-sorted by_key (flat_map entries_of fs) w (subst (IsAmong (flat_map entries_of fs)) (sym version.2) given))
      (λ w m. entry-stands w (sorted-among by_key (flat_map entries_of fs) w m))

  -- ---- no other keys

  in-group : (v : Version) → IsText history v.key v.value → InGroup fs v
  in-group v (inl is) = inl (begins-from tables_key [] v.key is.2)
  in-group v (inr (inl is)) = inr (inl (begins-from (0 ∷ 1 ∷ []) is.0.name v.key is.2))
  in-group v (inr (inr (inl is))) =
      let f = table-found history shown fs scan found is.0 is.2 in
      inr (inr (inl (f.0, f.1, begins-from (index_prefix (f.0).table.tid) (field4 is.1.iid) v.key (is.4 ∙ ap (λ (t : Table). index_key t.tid is.1.iid) (sym f.2)))))
  in-group v (inr (inr (inr (inl is)))) = inr (inr (inr (inl (begins-from (0 ∷ 3 ∷ []) (field4 is.0.tid) v.key is.2))))
  in-group v (inr (inr (inr (inr (inl is))))) =
      let f = table-found history shown fs scan found is.0 is.2 in
      inr (inr (inr (inr (inl (f.0, f.1, begins-from (rows_prefix (f.0).table.tid) (row_text (columns_of is.1 (f.0).table.key)) v.key (is.4 ∙ ap (λ (t : Table). key_of t is.1) (sym f.2)))))))
  in-group v (inr (inr (inr (inr (inr is))))) = inr (inr (inr (inr (inr (by-kind is.0 is.1 is.2 is.1.unique refl is.5)))))
    where
      by-kind : (t : Table) (i : SqlIndex) (row : List Value) (unique : Bool) → i.unique ≡ unique → v.key ≡ (entry_written t row i).key
          → (begins_with (0 ∷ 5 ∷ []) v.key ≡ true) ⊎ (begins_with (0 ∷ 6 ∷ []) v.key ≡ true)
      by-kind t i row true is e = inr (begins-from (0 ∷ 6 ∷ []) _ v.key (e ∙ ap (λ (b : Bool). (entry_written t row (record i { unique = b })).key) is))
      by-kind t i row false is e = inl (begins-from (0 ∷ 5 ∷ []) _ v.key (e ∙ ap (λ (b : Bool). (entry_written t row (record i { unique = b })).key) is))

  pub all-are : IsAll shown fs
  all-are =
      sym (one-sizes (groups fs) shown (λ v m.
      let few : hits (groups fs) v ≤ 1 = groups-few v fs told in
      let some : 1 ≤ hits (groups fs) v = hit-groups fs v (in-group v (text-at v m)) in
      omega (arith, few, some)))
      ∙ sum-groups history shown fs scan found

  pub sound-hangs : Hang shown changes fs
  sound-hangs = record { numbered = numbered-are; each = each-are; marks = marks-are; entered = entered-are; all = all-are }
