-- The entries that rows of a sound history give have keys of their own, each.
use Rattle.std.proofs.Common.{◌≡◌, ◌≢◌, inl, inr, ℕ, Bool, true, false, if◌then◌else◌, List, [], ◌∷◌, ◌++◌, length, map, flat_map, drop, Some, refl, sym, ap, ◌∙◌}
use Rattle.std.proofs.lemmas.Bool.{true≢false, cases_Bool}
use Rattle.std.proofs.lemmas.List.Elements.{All-from_recursion}
use Rattle.std.specs.List.{AllByRecursion, IsAmong}
use Rattle.im_model.specs.declared.transactions.Transaction.{Transaction}
use Rattle.im_versions.specs.declared.versions.Version.{Version}
use Rattle.im_versions.proofs.ListLemmas.{All-among, among-first, among-rest}
use Rattle.im_sqltype.specs.Kinds.{AreOfKinds}
use Rattle.im_sqltype.specs.Texts.{row_text}
use Rattle.im_sqltype.specs.declared.values.Value.{Value}
use Rattle.im_sqlmodel.specs.Kept.{IsTableOf, IsSqlIndexOf, IsRowOf, IsSqlSound}
use Rattle.im_sqlmodel.specs.Keys.{rows_prefix}
use Rattle.im_sqlmodel.specs.Rows.{columns_of, key_of}
use Rattle.im_sqlmodel.specs.Tables.{IsTable, IsTableIndex, kinds_of}
use Rattle.im_sqlmodel.specs.Writes.{entry_written}
use Rattle.im_sqlmodel.specs.declared.rows.StoredRow.{StoredRow}
use Rattle.im_sqlmodel.specs.declared.tables.SqlIndex.{SqlIndex}
use Rattle.im_sqlmodel.specs.declared.tables.Table.{Table}
use Rattle.im_sqlmodel.specs.declared.written.Written.{Written}
use Rattle.im_plan.specs.Plans.{entry_kinds, IsEntryOfRow}
use Rattle.im_plan.proofs.EntryRowLemmas.{one-index, prefix-cut}
use Rattle.im_plan.proofs.KeyBehindLemmas.{plain-key, behind-front, primary-behind, plain-key-behind}
use Rattle.im_plan.proofs.ReachLemmas.{entry-parts}
use Rattle.im_sqlsound.specs.Sounding.{entries_of}
use Rattle.im_sqlsound.specs.declared.found.TableFound.{TableFound}
use Rattle.im_sqlsound.proofs.AmongLemmas.{Differ, map-among, flat-among}
use Rattle.im_sqlsound.proofs.GroupLemmas.{all-both, apart-both}
use Rattle.im_sql.proofs.NextLemmas.{Apart, all-of}
use Rattle.im_sql.proofs.WorkLemmas.{entry-alone}

-- ---- lists of lists whose items are apart

abbrev pub Across : {A : Type 0} → (A → A → Type 0) → List A → List A → Type 0
Across R xs ys = AllByRecursion (λ x. AllByRecursion (R x) ys) xs

across-each : {A B : Type 0} (R : B → B → Type 0) (f : A → List B) (y : B) (xs : List A) → AllByRecursion (λ x. AllByRecursion (R y) (f x)) xs → AllByRecursion (R y) (flat_map f xs)
across-each R f y [] all = tt
across-each R f y (x ∷ xs) all = all-both (R y) (f x) (flat_map f xs) all.0 (across-each R f y xs all.1)

across-flat : {A B : Type 0} (R : B → B → Type 0) (f : A → List B) (ys : List B) (xs : List A) → AllByRecursion (λ x. Across R ys (f x)) xs → Across R ys (flat_map f xs)
across-flat R f [] xs all = tt
across-flat {A} {B} R f (y ∷ ys) xs all = (across-each R f y xs (firsts xs all), across-flat R f ys xs (rests xs all))
  where
    firsts : (zs : List A) → AllByRecursion (λ x. Across R (y ∷ ys) (f x)) zs → AllByRecursion (λ x. AllByRecursion (R y) (f x)) zs
    firsts [] h = tt
    firsts (z ∷ zs) h = (h.0.0, firsts zs h.1)

    rests : (zs : List A) → AllByRecursion (λ x. Across R (y ∷ ys) (f x)) zs → AllByRecursion (λ x. Across R ys (f x)) zs
    rests [] h = tt
    rests (z ∷ zs) h = (h.0.1, rests zs h.1)

-- each list's items are apart, and those of two lists
apart-flat : {A B : Type 0} (R : B → B → Type 0) (f : A → List B) (xs : List A) → AllByRecursion (λ x. Apart R (f x)) xs → Apart (λ x y. Across R (f x) (f y)) xs → Apart R (flat_map f xs)
apart-flat R f [] each cross = tt
apart-flat R f (x ∷ xs) each cross =
    apart-both R (f x) (flat_map f xs) each.0 (apart-flat R f xs each.1 cross.1) (across-flat R f (f x) xs cross.0)

-- so where the items of any two are apart
across-of : {A : Type 0} (R : A → A → Type 0) (xs ys : List A) → ((x y : A) → IsAmong xs x → IsAmong ys y → R x y) → Across R xs ys
across-of R xs ys h = all-of (λ x. AllByRecursion (R x) ys) xs (λ x m. all-of (R x) ys (λ y n. h x y m n))

apart-of : {A : Type 0} (R S : A → A → Type 0) (xs : List A) → Apart S xs → ((x y : A) → IsAmong xs x → IsAmong xs y → S x y → R x y) → Apart R xs
apart-of R S [] apart h = tt
apart-of {A} R S (x ∷ xs) apart h = (
  all-of (R x) xs (λ y m. h x y (among-first x xs) (among-rest x xs y m) (All-among (S x) xs y (All-from_recursion (S x) xs apart.0) m)),
  apart-of R S xs apart.1 (λ y z m n. h y z (among-rest x xs y m) (among-rest x xs z n)),
)

apart-map : {A B : Type 0} (R : B → B → Type 0) (f : A → B) (xs : List A) → Apart (λ x y. R (f x) (f y)) xs → Apart R (map f xs)
apart-map R f [] h = tt
apart-map {A} {B} R f (x ∷ xs) h = (each xs h.0, apart-map R f xs h.1)
  where
    each : (ys : List A) → AllByRecursion (λ y. R (f x) (f y)) ys → AllByRecursion (R (f x)) (map f ys)
    each [] all = tt
    each (y ∷ ys) all = (all.0, each ys all.1)

-- ---- entries of one key

-- are of one table and one index
pub same-numbers : (t u : Table) (i j : SqlIndex) (a b : List Value) → IsTable t → IsTable u → IsTableIndex t i → IsTableIndex u j → (entry_written t a i).key ≡ (entry_written u b j).key
    → (t.tid ≡ u.tid) × (i.iid ≡ j.iid)
same-numbers t u i j a b x y p q same =
    let first = entry-parts t a i in
    let second = entry-parts u b j in
    prefix-cut i.unique j.unique t.tid i.iid u.tid j.iid (row_text (columns_of a i.columns) ++ first.0) (row_text (columns_of b j.columns) ++ second.0) x.tid.1 p.iid.1 y.tid.1 q.iid.1
    (sym first.1 ∙ same ∙ second.1)

plain-value : (t : Table) (row : List Value) (i : SqlIndex) → i.unique ≡ false → (entry_written t row i).value ≡ Some []
plain-value t row i plain = by-test i.unique _ _ plain refl
  where
    by-test : (b : Bool) (x y : Written) → b ≡ false → y.value ≡ Some [] → (if b then x else y).value ≡ Some []
    by-test true x y e given = absurd (true≢false e)
    by-test false x y e given = given

-- of an index that isn't unique: of one row
pub plain-alone : (t : Table) (i : SqlIndex) (a b : List Value) → IsTable t → IsTableIndex t i → i.unique ≡ false → AreOfKinds (kinds_of t) a → AreOfKinds (kinds_of t) b
    → (entry_written t a i).key ≡ (entry_written t b i).key → key_of t a ≡ key_of t b
plain-alone t i a b is index plain p q same =
    let v : Version = record { tx = 0; deleted = false; key = (entry_written t a i).key; value = [] } in
    let first : IsEntryOfRow t i v a = (p, refl, sym (plain-value t a i plain)) in
    let second : IsEntryOfRow t i v b = (q, same, sym (plain-value t b i plain)) in
    let has = plain-key t i v a is index plain first in
    let read : List Value = has.1 ++ has.2 in
    let text : List ℕ = row_text (drop (length i.columns) read) in
    let behind = primary-behind i (entry_kinds t i) v.key read has.5 (behind-front v.key has.0 read has.3 has.6) text refl in
    let of = plain-key-behind t i v (rows_prefix t.tid ++ text) text is index plain behind refl in
    sym (of a first) ∙ of b second

-- of any index
pub row-alone : (history : List Transaction) (t : Table) (i : SqlIndex) (a b : List Value) → IsSqlSound history → IsSqlIndexOf history t i → IsRowOf history t a → IsRowOf history t b
    → (entry_written t a i).key ≡ (entry_written t b i).key → key_of t a ≡ key_of t b
row-alone history t i a b sound index p q same = elim (cases_Bool i.unique) [
  | inl unique ↦ entry-alone history t i a b sound index p q unique same
  | inr plain ↦ plain-alone t i a b index.0.0 index.1 plain p.1 q.1 same
]

-- ---- all entries

module _ (history : List Transaction) (fs : List TableFound) (sound : IsSqlSound history) (tables : (f : TableFound) → IsAmong fs f → IsTableOf history f.table)
    (indexes : (f : TableFound) (i : SqlIndex) → IsAmong fs f → IsAmong f.indexes i → IsSqlIndexOf history f.table i)
    (rows : (f : TableFound) (s : StoredRow) → IsAmong fs f → IsAmong f.rows s → IsRowOf history f.table s.row) where
  abbrev entries_by : TableFound → StoredRow → List Written
  entries_by f s = map (entry_written f.table s.row) f.indexes

  -- of two rows
  rows-apart : (f : TableFound) (r s : StoredRow) → IsAmong fs f → IsAmong f.rows r → IsAmong f.rows s → key_of f.table r.row ≢ key_of f.table s.row → Across Differ (entries_by f r) (entries_by f s)
  rows-apart f r s m p q apart = across-of Differ (entries_by f r) (entries_by f s) (λ x y a b same.
      let i = map-among (entry_written f.table r.row) f.indexes x a in
      let j = map-among (entry_written f.table s.row) f.indexes y b in
      let first = indexes f i.0 m i.1 in
      let second = indexes f j.0 m j.1 in
      let keys : (entry_written f.table r.row i.0).key ≡ (entry_written f.table s.row j.0).key =
      ap (λ (w : Written). w.key) (sym i.2) ∙ same ∙ ap (λ (w : Written). w.key) j.2 in
      let numbers = same-numbers f.table f.table i.0 j.0 r.row s.row first.0.0 second.0.0 first.1 second.1 keys in
      let one : j.0 ≡ i.0 = one-index history f.table i.0 j.0 first second numbers.1 in
      apart (row-alone history f.table i.0 r.row s.row sound first (rows f r m p) (rows f s m q) (keys ∙ ap (λ (k : SqlIndex). (entry_written f.table s.row k).key) one)))

  -- of one row
  row-apart : (f : TableFound) (s : StoredRow) → IsAmong fs f → IsAmong f.rows s → Apart (λ (i j : SqlIndex). i.iid ≢ j.iid) f.indexes → Apart Differ (entries_by f s)
  row-apart f s m p apart =
      apart-map Differ (entry_written f.table s.row) f.indexes (apart-of (λ (i j : SqlIndex). Differ (entry_written f.table s.row i) (entry_written f.table s.row j)) (λ (i j : SqlIndex). i.iid ≢ j.iid) f.indexes apart
      (λ i j a b differ same.
      let first = indexes f i m a in
      let second = indexes f j m b in
      differ (same-numbers f.table f.table i j s.row s.row first.0.0 second.0.0 first.1 second.1 same).1))

  -- of one table
  table-apart : (f : TableFound) → IsAmong fs f → Apart (λ (i j : SqlIndex). i.iid ≢ j.iid) f.indexes → Apart (λ (r s : StoredRow). key_of f.table r.row ≢ key_of f.table s.row) f.rows
      → Apart Differ (entries_of f)
  table-apart f m numbers keys =
      apart-flat Differ (entries_by f) f.rows (all-of (λ (s : StoredRow). Apart Differ (entries_by f s)) f.rows (λ s p. row-apart f s m p numbers))
      (apart-of (λ (r s : StoredRow). Across Differ (entries_by f r) (entries_by f s)) (λ (r s : StoredRow). key_of f.table r.row ≢ key_of f.table s.row) f.rows keys (λ r s p q differ. rows-apart f r s m p q differ))

  -- of two tables
  tables-apart : (f g : TableFound) → IsAmong fs f → IsAmong fs g → f.table.tid ≢ g.table.tid → Across Differ (entries_of f) (entries_of g)
  tables-apart f g m n apart = across-of Differ (entries_of f) (entries_of g) (λ x y a b same.
      let r = flat-among (entries_by f) f.rows x a in
      let s = flat-among (entries_by g) g.rows y b in
      let i = map-among (entry_written f.table (r.0).row) f.indexes x r.2 in
      let j = map-among (entry_written g.table (s.0).row) g.indexes y s.2 in
      let first = indexes f i.0 m i.1 in
      let second = indexes g j.0 n j.1 in
      apart (same-numbers f.table g.table i.0 j.0 (r.0).row (s.0).row first.0.0 second.0.0 first.1 second.1
      (ap (λ (w : Written). w.key) (sym i.2) ∙ same ∙ ap (λ (w : Written). w.key) j.2)).0)

  pub entries-apart : Apart (λ (f g : TableFound). f.table.tid ≢ g.table.tid) fs → ((f : TableFound) → IsAmong fs f → Apart (λ (i j : SqlIndex). i.iid ≢ j.iid) f.indexes)
      → ((f : TableFound) → IsAmong fs f → Apart (λ (r s : StoredRow). key_of f.table r.row ≢ key_of f.table s.row) f.rows) → Apart Differ (flat_map entries_of fs)
  entries-apart tids iids keys =
      apart-flat Differ entries_of fs (all-of (λ (f : TableFound). Apart Differ (entries_of f)) fs (λ f m. table-apart f m (iids f m) (keys f m)))
      (apart-of (λ (f g : TableFound). Across Differ (entries_of f) (entries_of g)) (λ (f g : TableFound). f.table.tid ≢ g.table.tid) fs tids (λ f g m n differ. tables-apart f g m n differ))
