-- Before its first row a statement's table is the one that stood.
use Rattle.std.proofs.Common.{◌≡◌, ◌≢◌, ◌<◌, ◌++◌, ℕ, Bool, true, false, List, [], length, get_or, Some, refl, sym, ap, ◌∙◌, subst, if◌then◌else◌, arith}
use Rattle.std.specs.List.{IsAmong}
use Rattle.im_model.specs.declared.transactions.Transaction.{Transaction}
use Rattle.im_versions.specs.Versions.{last_version, IsBelow}
use Rattle.im_versions.specs.declared.versions.Version.{Version}
use Rattle.im_versions.proofs.ListLemmas.{All-among}
use Rattle.im_versions.proofs.VersionLemmas.{below-strict}
use Rattle.im_sqltype.specs.Texts.{row_text}
use Rattle.im_sqltype.specs.declared.values.Value.{Value}
use Rattle.im_sqlmodel.specs.Keys.{rows_prefix}
use Rattle.im_sqlmodel.specs.Rows.{IndexesAre, IsIndexVersion, IsStoredRow, RowsAre, columns_of, key_of}
use Rattle.im_sqlmodel.specs.Writes.{entry_written}
use Rattle.im_sqlmodel.specs.Kept.{IsTableOf, IsSqlIndexOf, IsRowOf, IsSqlSound}
use Rattle.im_sqlmodel.specs.declared.rows.StoredRow.{StoredRow}
use Rattle.im_sqlmodel.specs.declared.tables.SqlIndex.{SqlIndex}
use Rattle.im_sqlmodel.specs.declared.tables.Table.{Table}
use Rattle.im_sqlmodel.specs.declared.written.Written.{Written}
use Rattle.im_sqlmodel.proofs.OnceLemmas.{one-value}
use Rattle.im_catalog.proofs.ThereLemmas.{no_version}
use Rattle.im_plan.proofs.EntryLemmas.{zip-at, zip-length, zip-among, rows-rise}
use Rattle.im_sql.specs.Working.{IsWorking}

-- a row of the list is a row of the history
pub row-of : (history : List Transaction) (t : Table) (rows : List StoredRow) (k : ℕ) (d : StoredRow) → IsTableOf history t → RowsAre history t rows → k < length rows
    → IsRowOf history t (get_or rows k d).row
row-of history t rows k d of all l =
    let here = zip-at (IsStoredRow t) all.0 rows k no_version d all.2 l in
    let long : length all.0 ≡ length rows = zip-length (IsStoredRow t) all.0 rows all.2 in
    let v : Version = get_or all.0 k no_version in
    let alive = all.1.live k no_version (omega (arith, long, l)) in
    (of, here.0.0, (v, ap (last_version history) (sym here.0.1) ∙ alive.0, alive.1, here.0.2))

-- an index of the list is one of the history
pub index-of : (history : List Transaction) (t : Table) (indexes : List SqlIndex) (i : SqlIndex) → IsTableOf history t → IndexesAre history t indexes → IsAmong indexes i → IsSqlIndexOf history t i
index-of history t indexes i of are m =
    let found = zip-among (IsIndexVersion t) are.0 indexes i are.2 m in
    let v : Version = found.0 in
    let alive = All-among (λ (w : Version). (last_version history w.key ≡ Some w) × (w.deleted ≡ false)) are.0 v are.1.live found.1 in
    (of, found.2.0, (v, ap (last_version history) (sym found.2.1) ∙ alive.0, alive.1, found.2.2))

-- the value of an entry of a unique index is the primary key's text
pub unique-value : (b : Bool) (x y : Written) (text : List ℕ) → b ≡ true → x.value ≡ Some text → (if b then x else y).value ≡ Some text
unique-value b x y text e given = ap (λ (c : Bool). (if c then x else y).value) e ∙ given

-- two rows of one entry in a unique index have one key
pub entry-alone : (history : List Transaction) (t : Table) (i : SqlIndex) (a b : List Value) → IsSqlSound history → IsSqlIndexOf history t i → IsRowOf history t a → IsRowOf history t b → i.unique ≡ true
    → (entry_written t a i).key ≡ (entry_written t b i).key → key_of t a ≡ key_of t b
entry-alone history t i a b sound index p q unique same =
    let first = sound.entries t i a (row_text (columns_of a t.key)) index p (unique-value i.unique _ _ (row_text (columns_of a t.key)) unique refl) in
    let second = sound.entries t i b (row_text (columns_of b t.key)) index q (unique-value i.unique _ _ (row_text (columns_of b t.key)) unique refl) in
    ap (λ text. rows_prefix t.tid ++ text)
    (one-value history (entry_written t b i).key (row_text (columns_of a t.key)) (row_text (columns_of b t.key))
    (first.0, ap (last_version history) (sym same) ∙ first.1, first.2, first.3) second)

-- rows whose keys rise have distinct keys
below-apart : (a b : List ℕ) → IsBelow a b → a ≢ b
below-apart a b below same =
    let itself : IsBelow b b = subst (λ k. IsBelow k b) same below in
    below-strict b b itself itself

pub working-first : (history : List Transaction) (t : Table) (indexes : List SqlIndex) (rows : List StoredRow) → IsSqlSound history → IsTableOf history t → IndexesAre history t indexes → RowsAre history t rows
    → IsWorking t indexes rows [] rows
working-first history t indexes rows sound of are all = record {
  row = λ key. refl;
  unique = λ i row m unique. refl;
  apart = λ j k d less l. below-apart (key_of t (get_or rows j d).row) (key_of t (get_or rows k d).row) (rows-rise history t rows all j k d less l);
  alone = λ i m unique j k d less l same.
      below-apart (key_of t (get_or rows j d).row) (key_of t (get_or rows k d).row) (rows-rise history t rows all j k d less l)
      (entry-alone history t i (get_or rows j d).row (get_or rows k d).row sound (index-of history t indexes i of are m)
      (row-of history t rows j d of all (omega (arith, less, l))) (row-of history t rows k d of all l) unique same);
}
