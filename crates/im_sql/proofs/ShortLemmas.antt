-- What a statement writes is within the limits of a transaction's entries.
use Rattle.std.proofs.Common.{◌≡◌, ◌≢◌, ◌≤◌, ◌+◌, ◌*◌, ℕ, suc, Bool, true, false, not, cond, nat_lt, if◌then◌else◌, List, [], ◌∷◌, ◌++◌, length, map, flat_map, filter, get_or, bytes_eq, All, Option, Some, None, Result, Ok, Err, is_some, refl, sym, ap, ◌∙◌, subst, length-append, arith}
use Rattle.std.proofs.lemmas.Bool.{true≢false, ltb-false, or_parts}
use Rattle.std.proofs.lemmas.List.Elements.{All-append, All-from_recursion, recursion_from_All}
use Rattle.std.specs.List.{AllByRecursion, list_any}
use Rattle.std.specs.declared.cmp.Ordering.{Ordering}
use Rattle.std.specs.declared.cmp.Ordering.TheVariants.{Less, Equal, Greater}
use Rattle.im_octet.specs.Fields.{field2, field4}
use Rattle.im_octet.proofs.FieldLemmas.{length-field2, length-field4}
use Rattle.im_model.specs.History.{IsHistory, Follow, IsEntry}
use Rattle.im_model.specs.declared.entries.Entry.{Entry}
use Rattle.im_model.specs.declared.transactions.Transaction.{Transaction}
use Rattle.im_versions.specs.Versions.{is_shown, version_of, versions_in, versions_from, all_versions, IsBelow}
use Rattle.im_versions.specs.declared.versions.Version.{Version}
use Rattle.im_versions.proofs.ListLemmas.{All-among}
use Rattle.im_versions.proofs.ScanLemmas.{below-trans, below-turned, same-key}
use Rattle.im_versions.proofs.VersionLemmas.{below-strict, last-of-key, last-among-all}
use Rattle.im_draft.specs.Drafts.{deletion, entry_of, no_attributes, IsFine}
use Rattle.im_draft.specs.declared.drafts.Draft.{Draft}
use Rattle.im_sqltype.specs.Orders.{octets_cmp}
use Rattle.im_sqltype.specs.Texts.{row_text}
use Rattle.im_sqltype.specs.declared.values.Value.{Value}
use Rattle.im_sqlparse.specs.Formed.{IsName}
use Rattle.im_sqlmodel.specs.Creations.{draft_written, index_written}
use Rattle.im_sqlmodel.specs.Keys.{tables_key, table_key, index_key, mark_key, rows_prefix}
use Rattle.im_sqlmodel.specs.Kept.{IsTableOf, IsSqlIndexOf, IsRowOf, IsSqlSound}
use Rattle.im_sqlmodel.specs.Options.{by_option, by_ordering, first_found}
use Rattle.im_sqlmodel.specs.Tables.{IsTable, IsTableIndex, IsTyped, type_code, limit_of, column_text, numbers_text, table_text, index_text}
use Rattle.im_sqlmodel.specs.Rows.{IsLiveAs, IndexesAre, RowsAre, columns_of, key_of}
use Rattle.im_sqlmodel.specs.Writes.{row_written, entry_written, all_written, deleted, put_written, put_all, Work, stored_at, rows_without, rows_with, dropped, write_row, is_long, cells_fault, key_fault, length_fault, duplicate_fault, unique_fault, row_fault, write_rows, marked, rows_dropped}
use Rattle.im_sqlmodel.specs.declared.answers.SqlError.{SqlError}
use Rattle.im_sqlmodel.specs.declared.answers.SqlError.TheVariants as error
use Rattle.im_sqlmodel.specs.declared.rows.StoredRow.{StoredRow}
use Rattle.im_sqlmodel.specs.declared.tables.Column.{Column}
use Rattle.im_sqlmodel.specs.declared.tables.SqlIndex.{SqlIndex}
use Rattle.im_sqlmodel.specs.declared.tables.Table.{Table}
use Rattle.im_sqlmodel.specs.declared.written.Written.{Written}
use Rattle.im_catalog.proofs.TableLemmas.{few-numbers}
use Rattle.im_sql.specs.Writing.{table_entries, MayBePlaced, AreFine}
use Rattle.im_sql.specs.Working.{written_of}
use Rattle.im_sql.proofs.AnswerLemmas.{taken_all}
use Rattle.im_sql.proofs.NextLemmas.{Apart, apart-from, pairs-from, all-put, all-kept, all-of, find-some, or-none}
use Rattle.im_sql.proofs.RowsLemmas.{of_key}
use Rattle.im_sql.proofs.WorkLemmas.{index-of, row-of}

-- ---- one

abbrev pub IsShort : Written → Type 0
IsShort w = IsFine (draft_written w)

abbrev stands : List ℕ → List ℕ → Draft
stands key value = record { attrs = no_attributes; key = key; value = value }

-- one that has a value
short-some : (w : Written) (value : List ℕ) → w.value ≡ Some value → 1 ≤ length w.key → length w.key ≤ 1024 → length value ≤ 4096 → IsShort w
short-some w value e given short few =
    subst (λ (o : Option (List ℕ)). IsFine (by_option o (deletion w.key) (stands w.key))) (sym e) (record { key_given = given; key_short = short; value_short = few })

-- one that is deleted
short-none : (key : List ℕ) → 1 ≤ length key → length key ≤ 1024 → IsShort (record { key = key; value = None })
short-none key given short = record { key_given = given; key_short = short; value_short = omega arith }

key-given : (w : Written) → IsShort w → (1 ≤ length w.key) × (length w.key ≤ 1024)
key-given w is = by-value w.value is
  where
    by-value : (o : Option (List ℕ)) → IsFine (by_option o (deletion w.key) (stands w.key)) → (1 ≤ length w.key) × (length w.key ≤ 1024)
    by-value None fine = (fine.key_given, fine.key_short)
    by-value (Some value) fine = (fine.key_given, fine.key_short)

short-deleted : (w : Written) → IsShort w → IsShort (deleted w)
short-deleted w is = (let keys = key-given w is in short-none w.key keys.0 keys.1)

-- ---- several, by rising key

abbrev pub Below : Written → Written → Type 0
Below a b = IsBelow a.key b.key

abbrev pub AreShort : List Written → Type 0
AreShort ws = AllByRecursion IsShort ws × Apart Below ws

pub put-each : (P : Written → Type 0) (w : Written) (ws : List Written) → P w → AllByRecursion P ws → AllByRecursion P (put_written w ws)
put-each P w [] p all = (p, tt)
put-each P w (x ∷ xs) p all = elim (octets_cmp w.key x.key) as (λ (o : Ordering). AllByRecursion P (by_ordering o (w ∷ x ∷ xs) (w ∷ xs) (x ∷ put_written w xs))) [
  | Less ↦ (p, all)
  | Equal ↦ (p, all.1)
  | Greater ↦ (all.0, put-each P w xs p all.1)
]

pub below-all : (a b : Written) (ws : List Written) → Below a b → AllByRecursion (Below b) ws → AllByRecursion (Below a) ws
below-all a b [] less all = tt
below-all a b (w ∷ ws) less all = (below-trans a.key b.key w.key less all.0, below-all a b ws less all.1)

same-all : (a b : List ℕ) (ws : List Written) → b ≡ a → AllByRecursion (λ (w : Written). IsBelow b w.key) ws → AllByRecursion (λ (w : Written). IsBelow a w.key) ws
same-all a b ws same all = subst (λ (k : List ℕ). AllByRecursion (λ (w : Written). IsBelow k w.key) ws) same all

pub put-rises : (w : Written) (ws : List Written) → Apart Below ws → Apart Below (put_written w ws)
put-rises w [] h = (tt, tt)
put-rises w (x ∷ xs) h = elim (octets_cmp w.key x.key) as (λ (o : Ordering). octets_cmp w.key x.key ≡ o → Apart Below (by_ordering o (w ∷ x ∷ xs) (w ∷ xs) (x ∷ put_written w xs))) [
  | Less ↦ λ e. ((e, below-all w x xs e h.0), h)
  | Equal ↦ λ e. (same-all w.key x.key xs (sym (same-key w.key x.key (sym e))) h.0, h.1)
  | Greater ↦ λ e. (put-each (Below x) w xs (below-turned w.key x.key (sym e)) h.0, put-rises w xs h.1)
] refl

put-short : (w : Written) (ws : List Written) → IsShort w → AreShort ws → AreShort (put_written w ws)
put-short w ws is are = (put-each IsShort w ws is are.0, put-rises w ws are.1)

put-all-short : (ws written : List Written) → AllByRecursion IsShort ws → AreShort written → AreShort (put_all ws written)
put-all-short [] written all are = are
put-all-short (w ∷ ws) written all are = put-all-short ws (put_written w written) all.1 (put-short w written all.0 are)

pub fine-from : (ws : List Written) → AreShort ws → AreFine ws
fine-from ws are = record { each = All-from_recursion IsShort ws are.0; rising = pairs-from Below ws are.1 }

fine-to : (ws : List Written) → AreFine ws → AreShort ws
fine-to ws fine = (recursion_from_All IsShort ws fine.each, apart-from Below ws fine.rising)

-- ---- what a row is written as

key-by : (b : Bool) (x y : Written) → 1 ≤ length x.key → 1 ≤ length y.key → 1 ≤ length (if b then x else y).key
key-by true x y p q = p
key-by false x y p q = q

entry-given : (t : Table) (row : List Value) (i : SqlIndex) → 1 ≤ length (entry_written t row i).key
entry-given t row i = key-by i.unique _ _ (omega arith) (omega arith)

value-by : (b : Bool) (x y : Written) (v w : List ℕ) → x.value ≡ Some v → y.value ≡ Some w → length v ≤ 4096 → length w ≤ 4096
    → (value : List ℕ) × ((if b then x else y).value ≡ Some value) × (length value ≤ 4096)
value-by true x y v w p q few less = (v, p, few)
value-by false x y v w p q few less = (w, q, less)

-- the value of an entry is the primary key's text, or empty
entry-value : (t : Table) (row : List Value) (i : SqlIndex) → length (key_of t row) ≤ 1024 → (value : List ℕ) × ((entry_written t row i).value ≡ Some value) × (length value ≤ 4096)
entry-value t row i short =
    let text : List ℕ = row_text (columns_of row t.key) in
    let whole : length (key_of t row) ≡ length (rows_prefix t.tid) + length text = length-append (rows_prefix t.tid) text in
    let few : length text ≤ 4096 = omega (arith, whole, short) in
    let none : length {A = ℕ} [] ≤ 4096 = omega arith in
    value-by i.unique _ _ text [] refl refl few none

short-entry : (t : Table) (row : List Value) (i : SqlIndex) → length (key_of t row) ≤ 1024 → length (entry_written t row i).key ≤ 1024 → IsShort (entry_written t row i)
short-entry t row i own short =
    let value = entry-value t row i own in
    short-some (entry_written t row i) value.0 value.1 (entry-given t row i) short value.2

row-given : (t : Table) (row : List Value) → 1 ≤ length (key_of t row)
row-given t row = omega arith

abbrev pub IsShortRow : Table → List SqlIndex → StoredRow → Type 0
IsShortRow t indexes s = AllByRecursion IsShort (all_written t indexes s.row)

-- ---- a row that was judged

not-long : (indexes : List SqlIndex) (t : Table) (row : List Value) → length (key_of t row) ≤ 1024 → list_any (is_long 1024) (map (entry_written t row) indexes) ≡ false
    → AllByRecursion IsShort (map (entry_written t row) indexes)
not-long [] t row own none = tt
not-long (i ∷ is) t row own none =
    let parts = or_parts (is_long 1024 (entry_written t row i)) (list_any (is_long 1024) (map (entry_written t row) is)) none in
    (short-entry t row i own (ltb-false 1024 (length (entry_written t row i).key) parts.0), not-long is t row own parts.1)

if-false : {A : Type 0} (b : Bool) (x : A) → (if b then Some x else None) ≡ None → b ≡ false
if-false true x e = absurd (true≢false (ap (λ o. is_some o) e))
if-false false x e = refl

judged-short : (t : Table) (indexes : List SqlIndex) (n : ℕ) (row : List Value) → key_fault t indexes n row ≡ None → length_fault n row ≡ None → AllByRecursion IsShort (all_written t indexes row)
judged-short t indexes n row keys text =
    let none = if-false (list_any (is_long 1024) (all_written t indexes row)) (error.KeyLong n) keys in
    let parts = or_parts (is_long 1024 (row_written t row)) (list_any (is_long 1024) (map (entry_written t row) indexes)) none in
    let own : length (key_of t row) ≤ 1024 = ltb-false 1024 (length (key_of t row)) parts.0 in
    let few : length (row_text row) ≤ 4096 = ltb-false 4096 (length (row_text row)) (if-false (nat_lt 4096 (length (row_text row))) (error.RowLong n) text) in
    (short-some (row_written t row) (row_text row) refl (row-given t row) own few, not-long indexes t row own parts.1)

-- ---- the rows that stood

abbrev IsShortVersion : Version → Type 0
IsShortVersion v = (1 ≤ length v.key) × (length v.key ≤ 1024) × (length v.value ≤ 4096)

short-in : (k : ℕ) (entries : List Entry) → AllByRecursion IsEntry entries → AllByRecursion IsShortVersion (versions_in k entries)
short-in k [] all = tt
short-in k (e ∷ es) all = elim (is_shown e) as (λ (b : Bool). AllByRecursion IsShortVersion (map (version_of k) (cond b (e ∷ filter is_shown es) (filter is_shown es)))) [
  | true ↦ ((all.0.key_given, all.0.key_short, all.0.value_short), short-in k es all.1)
  | false ↦ short-in k es all.1
]

short-from : (k before bl : ℕ) (txs : List Transaction) → Follow before bl txs → AllByRecursion IsShortVersion (versions_from k txs)
short-from k before bl [] follow = tt
short-from k before bl (tx ∷ txs) follow =
    let first = All-from_recursion IsShortVersion (versions_in k tx.entries) (short-in k tx.entries (recursion_from_All IsEntry tx.entries follow.0.entries)) in
    let rest = All-from_recursion IsShortVersion (versions_from (k + 1) txs) (short-from (k + 1) (before + 1) tx.bl txs follow.2) in
    recursion_from_All IsShortVersion (versions_in k tx.entries ++ versions_from (k + 1) txs) (All-append IsShortVersion (versions_in k tx.entries) (versions_from (k + 1) txs) first rest)

short-live : (history : List Transaction) (key value : List ℕ) → IsHistory history → IsLiveAs history key value → (1 ≤ length key) × (length key ≤ 1024) × (length value ≤ 4096)
short-live history key value is live =
    let v : Version = live.0 in
    let short = All-among IsShortVersion (all_versions history) v (All-from_recursion IsShortVersion (all_versions history) (short-from 1 0 0 history is.follow)) (last-among-all history key v live.1) in
    let own : v.key ≡ key = last-of-key history key v live.1 in (
      subst (λ (k : List ℕ). 1 ≤ length k) own short.0,
      subst (λ (k : List ℕ). length k ≤ 1024) own short.1,
      subst (λ (k : List ℕ). length k ≤ 4096) live.3 short.2,
    )

live-entries : (history : List Transaction) (t : Table) (row : List Value) (indexes : List SqlIndex) → IsHistory history → IsSqlSound history → IsRowOf history t row → length (key_of t row) ≤ 1024
    → AllByRecursion (IsSqlIndexOf history t) indexes → AllByRecursion IsShort (map (entry_written t row) indexes)
live-entries history t row [] is sound of own all = tt
live-entries history t row (i ∷ rest) is sound of own all =
    let value = entry-value t row i own in
    let short = short-live history (entry_written t row i).key value.0 is (sound.entries t i row value.0 all.0 of value.1) in
    (short-entry t row i own short.1, live-entries history t row rest is sound of own all.1)

live-row : (history : List Transaction) (t : Table) (indexes : List SqlIndex) (row : List Value) → IsHistory history → IsSqlSound history → IsRowOf history t row
    → AllByRecursion (IsSqlIndexOf history t) indexes → AllByRecursion IsShort (all_written t indexes row)
live-row history t indexes row is sound of all =
    let short = short-live history (key_of t row) (row_text row) is of.2 in
    (short-some (row_written t row) (row_text row) refl short.0 short.1 short.2, live-entries history t row indexes is sound of short.1 all)

pub stood-short : (history : List Transaction) (t : Table) (indexes : List SqlIndex) (rows : List StoredRow) → IsHistory history → IsSqlSound history → IsTableOf history t → IndexesAre history t indexes
    → RowsAre history t rows → All (IsShortRow t indexes) rows
stood-short history t indexes rows is sound of are all = λ k d l.
    live-row history t indexes (get_or rows k d).row is sound (row-of history t rows k d of all l)
    (all-of (IsSqlIndexOf history t) indexes (λ i m. index-of history t indexes i of are m))

-- ---- rows that are written

dropped-short : (t : Table) (indexes : List SqlIndex) (row : List Value) → AllByRecursion IsShort (map (entry_written t row) indexes) → AllByRecursion IsShort (map (λ i. deleted (entry_written t row i)) indexes)
dropped-short t [] row all = tt
dropped-short t (i ∷ is) row all = (short-deleted (entry_written t row i) all.0, dropped-short t is row all.1)

there-short : (t : Table) (indexes : List SqlIndex) (rows : List StoredRow) (key : List ℕ) → AllByRecursion (IsShortRow t indexes) rows → AllByRecursion IsShort (dropped t indexes (stored_at t rows key))
there-short t indexes rows key all = by-found (stored_at t rows key) refl
  where
    by-found : (o : Option StoredRow) → stored_at t rows key ≡ o → AllByRecursion IsShort (dropped t indexes o)
    by-found None e = tt
    by-found (Some s) e =
        let short = All-among (IsShortRow t indexes) rows s (All-from_recursion (IsShortRow t indexes) rows all) (find-some (of_key t key) rows s e).0 in
        dropped-short t indexes s.row short.1

with-short : (t : Table) (indexes : List SqlIndex) (s : StoredRow) (rows : List StoredRow) → IsShortRow t indexes s → AllByRecursion (IsShortRow t indexes) rows → AllByRecursion (IsShortRow t indexes) (rows_with t s rows)
with-short t indexes s rows short all =
    all-put (λ a b. octets_cmp (key_of t a.row) (key_of t b.row)) (IsShortRow t indexes) s (rows_without t (key_of t s.row) rows) short
    (all-kept (IsShortRow t indexes) (λ (r : StoredRow). not (bytes_eq (key_of t r.row) (key_of t s.row))) rows all)

-- nothing is wrong with a row
pub record IsFaultless (history : List Transaction) (fresh : Bool) (t : Table) (indexes : List SqlIndex) (n : ℕ) (row : List Value) (rows : List StoredRow) : Type 0 where
  pub cells : cells_fault t n 0 t.columns row ≡ None
  pub keys : key_fault t indexes n row ≡ None
  pub text : length_fault n row ≡ None
  pub duplicate : duplicate_fault fresh t n row rows ≡ None
  pub unique : first_found (unique_fault history t n row rows) indexes ≡ None

pub faultless : (history : List Transaction) (fresh : Bool) (t : Table) (indexes : List SqlIndex) (n : ℕ) (row : List Value) (rows : List StoredRow)
    → row_fault history fresh t indexes n row rows ≡ None → IsFaultless history fresh t indexes n row rows
faultless history fresh t indexes n row rows e =
    let first = or-none (cells_fault t n 0 t.columns row) _ e in
    let second = or-none (key_fault t indexes n row) _ first.1 in
    let third = or-none (length_fault n row) _ second.1 in
    let fourth = or-none (duplicate_fault fresh t n row rows) (first_found (unique_fault history t n row rows) indexes) third.1 in
    record { cells = first.0; keys = second.0; text = third.0; duplicate = fourth.0; unique = fourth.1 }

abbrev pub worked : Work → Result Work SqlError
worked work = Ok work

pub work-is : (a b : Work) → worked a ≡ worked b → a ≡ b
work-is a b e = cc

-- what all rows write
rows-short : (history : List Transaction) (fresh : Bool) (t : Table) (indexes : List SqlIndex) (n : ℕ) (rows : List (List Value)) (work done : Work)
    → write_rows history fresh t indexes n rows work ≡ Ok done → AllByRecursion (IsShortRow t indexes) work.rows → AreShort work.written → AreShort done.written
rows-short history fresh t indexes n [] work done e all are = subst (λ (w : Work). AreShort w.written) (work-is work done e) are
rows-short history fresh t indexes n (row ∷ rows) work done e all are = elim (row_fault history fresh t indexes n row work.rows) as (λ (o : Option SqlError). row_fault history fresh t indexes n row work.rows ≡ o
    → by_option o (write_rows history fresh t indexes (n + 1) rows (write_row t indexes row work)) (λ fault. Err fault) ≡ Ok done → AreShort done.written) [
      | None ↦ λ is f. (
          let right = faultless history fresh t indexes n row work.rows is in
          let own : AllByRecursion IsShort (all_written t indexes row) = judged-short t indexes n row right.keys right.text in
          rows-short history fresh t indexes (n + 1) rows (write_row t indexes row work) done f
          (with-short t indexes (record { row = row; tx = 0 }) work.rows own all)
          (put-all-short (all_written t indexes row) _ own (put-all-short (dropped t indexes (stored_at t work.rows (key_of t row))) work.written (there-short t indexes work.rows (key_of t row) all) are)))
      | Some fault ↦ λ is f. absurd (let no : ⊥ = cc in no)
    ] refl e

pub inserted-fine : (history : List Transaction) (fresh : Bool) (t : Table) (indexes : List SqlIndex) (rows : List (List Value)) (stood : List StoredRow) (written : List Written) → IsHistory history
    → IsSqlSound history → IsTableOf history t → IndexesAre history t indexes → RowsAre history t stood
    → taken_all written ≡ written_of (write_rows history fresh t indexes 0 rows (record { rows = stood; written = [] })) → AreFine written
inserted-fine history fresh t indexes rows stood written is sound of are all e = by-result (write_rows history fresh t indexes 0 rows (record { rows = stood; written = [] })) refl e
  where
    by-result : (r : Result Work SqlError) → write_rows history fresh t indexes 0 rows (record { rows = stood; written = [] }) ≡ r → taken_all written ≡ written_of r → AreFine written
    by-result (Ok work) told same =
        let short = rows-short history fresh t indexes 0 rows (record { rows = stood; written = [] }) work told
        (recursion_from_All (IsShortRow t indexes) stood (stood-short history t indexes stood is sound of are all)) (tt, tt) in
        let one : written ≡ work.written = cc in
        fine-from written (subst AreShort (sym one) short)
    by-result (Err fault) told same = absurd (let no : ⊥ = cc in no)

-- ---- rows that are deleted

erased-all : (ws : List Written) → AllByRecursion IsShort ws → AllByRecursion IsShort (map deleted ws)
erased-all [] all = tt
erased-all (w ∷ ws) all = (short-deleted w all.0, erased-all ws all.1)

erased-short : (t : Table) (indexes : List SqlIndex) (rows : List StoredRow) → AllByRecursion (IsShortRow t indexes) rows → AllByRecursion IsShort (flat_map (λ (r : StoredRow). map deleted (all_written t indexes r.row)) rows)
erased-short t indexes [] all = tt
erased-short t indexes (r ∷ rs) all =
    let of_row : List Written = map deleted (all_written t indexes r.row) in
    let of_rest : List Written = flat_map (λ (s : StoredRow). map deleted (all_written t indexes s.row)) rs in
    let first = All-from_recursion IsShort of_row (erased-all (all_written t indexes r.row) all.0) in
    let rest = All-from_recursion IsShort of_rest (erased-short t indexes rs all.1) in
    recursion_from_All IsShort (of_row ++ of_rest) (All-append IsShort of_row of_rest first rest)

pub erased-fine : (t : Table) (indexes : List SqlIndex) (q : StoredRow → Bool) (rows : List StoredRow) → All (IsShortRow t indexes) rows → AreFine (rows_dropped t indexes (filter q rows))
erased-fine t indexes q rows all =
    fine-from (rows_dropped t indexes (filter q rows))
    (put-all-short (flat_map (λ (r : StoredRow). map deleted (all_written t indexes r.row)) (filter q rows)) []
    (erased-short t indexes (filter q rows) (all-kept (IsShortRow t indexes) q rows (recursion_from_All (IsShortRow t indexes) rows all))) (tt, tt))

-- ---- what is placed

draft-key : (w : Written) → (draft_written w).key ≡ w.key
draft-key w = by-value w.value
  where
    by-value : (o : Option (List ℕ)) → (by_option o (deletion w.key) (stands w.key)).key ≡ w.key
    by-value None = refl
    by-value (Some value) = refl

all-drafts : (ws : List Written) → AllByRecursion IsShort ws → AllByRecursion IsFine (map draft_written ws)
all-drafts [] all = tt
all-drafts (w ∷ ws) all = (all.0, all-drafts ws all.1)

apart-one : (w : Written) (ws : List Written) → AllByRecursion (Below w) ws → AllByRecursion (λ (d : Draft). (draft_written w).key ≢ d.key) (map draft_written ws)
apart-one w [] all = tt
apart-one w (x ∷ xs) all = ((λ same. itself (sym (draft-key w) ∙ same ∙ draft-key x) all.0), apart-one w xs all.1)
  where
    itself : w.key ≡ x.key → Below w x → ⊥
    itself same below = (let own : IsBelow x.key x.key = subst (λ (k : List ℕ). IsBelow k x.key) same below in below-strict x.key x.key own own)

apart-drafts : (ws : List Written) → Apart Below ws → Apart (λ (a b : Draft). a.key ≢ b.key) (map draft_written ws)
apart-drafts [] h = tt
apart-drafts (w ∷ ws) h = (apart-one w ws h.0, apart-drafts ws h.1)

length-drafts : (ws : List Written) → length (map draft_written ws) ≡ length ws
length-drafts [] = refl
length-drafts (w ∷ ws) = ap suc (length-drafts ws)

placeable : (ws : List Written) → AreShort ws → 1 ≤ length ws → length ws ≤ 1024 → MayBePlaced ws
placeable ws are some few =
    let same : length (map draft_written ws) ≡ length ws = length-drafts ws in
    record {
      some = omega (arith, same, some);
      few = omega (arith, same, few);
      each = All-from_recursion IsFine (map draft_written ws) (all-drafts ws are.0);
      distinct = pairs-from (λ (a b : Draft). a.key ≢ b.key) (map draft_written ws) (apart-drafts ws are.1);
    }

put-some : (w : Written) (ws : List Written) → 1 ≤ length (put_written w ws)
put-some w [] = omega arith
put-some w (x ∷ xs) = elim (octets_cmp w.key x.key) as (λ (o : Ordering). 1 ≤ length (by_ordering o (w ∷ x ∷ xs) (w ∷ xs) (x ∷ put_written w xs))) [
  | Less ↦ omega arith
  | Equal ↦ omega arith
  | Greater ↦ omega arith
]

pub marked-placed : (t : Table) (written : List Written) → AreFine written → length (marked t written) ≤ 1024 → MayBePlaced (marked t written)
marked-placed t written fine few =
    let mark : Written = record { key = mark_key t.tid; value = Some [] } in
    let four : length (field4 t.tid) ≡ 4 = length-field4 t.tid in
    let short : IsShort mark = short-some mark [] refl (omega arith) (omega (arith, four)) (omega arith) in
    placeable (marked t written) (put-short mark written short (fine-to written fine)) (put-some mark written) few

-- ---- tables and indexes

numbers-short : (numbers : List ℕ) → length numbers ≤ 64 → length (numbers_text numbers) ≤ 130
numbers-short numbers few =
    let both : length (numbers_text numbers) ≡ length (field2 (length numbers)) + length (flat_map field2 numbers) = length-append (field2 (length numbers)) (flat_map field2 numbers) in
    let two : length (field2 (length numbers)) ≡ 2 = length-field2 (length numbers) in
    let each : length (flat_map field2 numbers) ≡ 2 * length numbers = fields numbers in
    omega (arith, both, two, each, few)
  where
    fields : (ns : List ℕ) → length (flat_map field2 ns) ≡ 2 * length ns
    fields [] = omega arith
    fields (n ∷ ns) =
        let sum : length (field2 n ++ flat_map field2 ns) ≡ length (field2 n) + length (flat_map field2 ns) = length-append (field2 n) (flat_map field2 ns) in
        let two : length (field2 n) ≡ 2 = length-field2 n in
        let rest : length (flat_map field2 ns) ≡ 2 * length ns = fields ns in
        omega (arith, sum, two, rest)

column-short : (c : Column) → IsName c.name → length (column_text c) ≤ 53
column-short c is =
    let limit : List ℕ = field2 (limit_of c.holds) in
    let front : List ℕ = (length c.name ∷ c.name) ++ type_code c.holds ∷ limit in
    let flag : List ℕ = (if c.not_null then 1 else 0) ∷ [] in
    let whole : length (column_text c) ≡ length front + length flag = length-append front flag in
    let ahead : length front ≡ length (length c.name ∷ c.name) + length (type_code c.holds ∷ limit) = length-append (length c.name ∷ c.name) (type_code c.holds ∷ limit) in
    let two : length limit ≡ 2 = length-field2 (limit_of c.holds) in
    let short : length c.name ≤ 48 = is.short in
    omega (arith, whole, ahead, two, short)

columns-short : (columns : List Column) → AllByRecursion (λ (c : Column). IsName c.name × IsTyped c.holds) columns → length (flat_map column_text columns) ≤ 53 * length columns
columns-short [] all = omega arith
columns-short (c ∷ cs) all =
    let sum : length (column_text c ++ flat_map column_text cs) ≡ length (column_text c) + length (flat_map column_text cs) = length-append (column_text c) (flat_map column_text cs) in
    let here : length (column_text c) ≤ 53 = column-short c all.0.0 in
    let rest : length (flat_map column_text cs) ≤ 53 * length cs = columns-short cs all.1 in
    omega (arith, sum, here, rest)

table-short : (t : Table) → IsTable t → length (table_text t) ≤ 4096
table-short t is =
    let count : List ℕ = field2 (length t.columns) in
    let columns : List ℕ = flat_map column_text t.columns in
    let key : List ℕ = numbers_text t.key in
    let whole : length (table_text t) ≡ length ((field4 t.tid ++ count) ++ columns) + length key = length-append ((field4 t.tid ++ count) ++ columns) key in
    let front : length ((field4 t.tid ++ count) ++ columns) ≡ length (field4 t.tid ++ count) + length columns = length-append (field4 t.tid ++ count) columns in
    let first : length (field4 t.tid ++ count) ≡ length (field4 t.tid) + length count = length-append (field4 t.tid) count in
    let four : length (field4 t.tid) ≡ 4 = length-field4 t.tid in
    let two : length count ≡ 2 = length-field2 (length t.columns) in
    let most : length t.columns ≤ 64 = is.few in
    let each : length columns ≤ 53 * length t.columns = columns-short t.columns (recursion_from_All (λ (c : Column). IsName c.name × IsTyped c.holds) t.columns is.columns) in
    let few : length t.key ≤ length t.columns = few-numbers (length t.columns) t.key is.key in
    let numbers : length key ≤ 130 = numbers-short t.key (omega (arith, few, most)) in
    omega (arith, whole, front, first, four, two, most, each, numbers)

pub table-placed : (t : Table) → IsTable t → MayBePlaced (table_entries t)
table-placed t is =
    let count : Written = record { key = tables_key; value = Some (field4 t.tid) } in
    let named : Written = record { key = table_key t.name; value = Some (table_text t) } in
    let four : length (field4 t.tid) ≡ 4 = length-field4 t.tid in
    let short : length t.name ≤ 48 = is.name.short in
    placeable (table_entries t) (
      (
        short-some count (field4 t.tid) refl (omega arith) (omega arith) (omega (arith, four)),
        (short-some named (table_text t) refl (omega arith) (omega (arith, short)) (table-short t is), tt),
      ),
      ((refl, tt), (tt, tt)),
    ) (omega arith) (omega arith)

pub index-placed : (t : Table) (i : SqlIndex) → IsTable t → IsTableIndex t i → MayBePlaced (index_written t i)
index-placed t i of is =
    let one : Written = record { key = index_key t.tid i.iid; value = Some (index_text i) } in
    let whole : length (index_key t.tid i.iid) ≡ length (0 ∷ 2 ∷ field4 t.tid) + length (field4 i.iid) = length-append (0 ∷ 2 ∷ field4 t.tid) (field4 i.iid) in
    let tid : length (field4 t.tid) ≡ 4 = length-field4 t.tid in
    let iid : length (field4 i.iid) ≡ 4 = length-field4 i.iid in
    let most : length t.columns ≤ 64 = of.few in
    let few : length i.columns ≤ length t.columns = few-numbers (length t.columns) i.columns is.columns in
    let numbers : length (numbers_text i.columns) ≤ 130 = numbers-short i.columns (omega (arith, few, most)) in
    placeable (index_written t i) ((short-some one (index_text i) refl (omega (arith, whole)) (omega (arith, whole, tid, iid)) (omega (arith, numbers)), tt), ((tt, tt))) (omega arith) (omega arith)

-- the entries of what is written, by its drafts
pub entries-of-drafts : (ws : List Written) → map entry_of (map draft_written ws) ≡ map (λ w. entry_of (draft_written w)) ws
entries-of-drafts [] = refl
entries-of-drafts (w ∷ ws) = ap (λ es. entry_of (draft_written w) ∷ es) (entries-of-drafts ws)
