-- Each row that meets a condition is on the way to it.
use Rattle.std.proofs.Common.{◌≡◌, ◌<◌, ℕ, Bool, true, false, List, [], ◌∷◌, ◌++◌, length, filter, if◌then◌else◌, All, Option, Some, sym, ap, ◌∙◌, append_assoc}
use Rattle.std.proofs.lemmas.List.{append-nil}
use Rattle.std.proofs.lemmas.List.Elements.{recursion_from_All, All-from_recursion}
use Rattle.std.proofs.lemmas.Slice.Eq.{bytes_eq-Decides}
use Rattle.std.specs.List.{AllByRecursion, AllZip}
use Rattle.im_model.specs.declared.transactions.Transaction.{Transaction}
use Rattle.im_versions.specs.declared.versions.Version.{Version}
use Rattle.im_sqltype.specs.Texts.{row_text}
use Rattle.im_sqltype.specs.declared.values.Value.{Value}
use Rattle.im_sqlparse.specs.declared.statements.Condition.{Condition}
use Rattle.im_sqlmodel.specs.Conditions.{scope_of, meets}
use Rattle.im_sqlmodel.specs.Keys.{rows_prefix, row_key, plain_prefix, plain_key, unique_prefix, unique_key}
use Rattle.im_sqlmodel.specs.Tables.{IsTable, IsTableIndex}
use Rattle.im_sqlmodel.specs.Rows.{IndexesAre, IsIndexVersion, columns_of, key_of}
use Rattle.im_sqlmodel.specs.Writes.{entry_written}
use Rattle.im_sqlmodel.specs.declared.rows.StoredRow.{StoredRow}
use Rattle.im_sqlmodel.specs.declared.tables.SqlIndex.{SqlIndex}
use Rattle.im_sqlmodel.specs.declared.tables.Table.{Table}
use Rattle.im_sqlmodel.specs.declared.written.Written.{Written}
use Rattle.im_catalog.specs.Rows.{entries_prefix}
use Rattle.im_catalog.proofs.FrontLemmas.{begins-from}
use Rattle.im_plan.specs.Bounds.{conjuncts, leading}
use Rattle.im_plan.specs.Plans.{no_index, index_at, IsWay, is_reached}
use Rattle.im_plan.specs.declared.ways.Way.{Way}
use Rattle.im_plan.specs.declared.ways.Way.TheVariants as way
use Rattle.im_plan.proofs.BoundLemmas.{AreMet, conjuncts-met}
use Rattle.im_plan.proofs.FilterLemmas.{filter-through}
use Rattle.im_plan.proofs.LeadLemmas.{Behind, leading-behind, leading-all}

-- ---- keys by their parts

text-front : (prefix lead rest more : List ℕ) → prefix ++ ((lead ++ rest) ++ more) ≡ (prefix ++ lead) ++ (rest ++ more)
text-front prefix lead rest more = ap (λ s. prefix ++ s) (append_assoc lead rest more) ∙ sym (append_assoc prefix lead (rest ++ more))

abbrev unique_written : Table → List Value → SqlIndex → Written
unique_written t row i = record { key = unique_key t.tid i.iid (columns_of row i.columns); value = Some (row_text (columns_of row t.key)) }

abbrev plain_written : Table → List Value → SqlIndex → Written
plain_written t row i = record { key = plain_key t.tid i.iid (columns_of row i.columns) (columns_of row t.key); value = Some [] }

by-kind : (t : Table) (row : List Value) (i : SqlIndex) (b : Bool)
    → (more : List ℕ) × ((if b then unique_written t row i else plain_written t row i).key
    ≡ (if b then unique_prefix t.tid i.iid else plain_prefix t.tid i.iid) ++ (row_text (columns_of row i.columns) ++ more))
by-kind t row i true = ([], ap (λ s. unique_prefix t.tid i.iid ++ s) (sym (append-nil (row_text (columns_of row i.columns)))))
by-kind t row i false = (row_text (columns_of row t.key), append_assoc (plain_prefix t.tid i.iid) (row_text (columns_of row i.columns)) (row_text (columns_of row t.key)))

-- an entry's key: the index's prefix, its columns, and more where it isn't unique
pub entry-parts : (t : Table) (row : List Value) (i : SqlIndex)
    → (more : List ℕ) × ((entry_written t row i).key ≡ entries_prefix t i ++ (row_text (columns_of row i.columns) ++ more))
entry-parts t row i = by-kind t row i i.unique

-- ---- the way

pub reached : (t : Table) (indexes : List SqlIndex) (cs : List Condition) (w : Way) (row : List Value) → IsTable t → All (IsTableIndex t) indexes → IsWay t indexes cs w
    → AreMet (scope_of t false) row cs → is_reached t indexes w row ≡ true
reached t indexes cs (way.Row key) row is formed leads met =
    let below = recursion_from_All (λ n. n < length t.columns) t.key is.key.each in
    let same : columns_of row t.key ≡ leading cs t t.key = leading-all t row cs t.key is.distinct below met leads.0 in
    (bytes_eq-Decides (key_of t row) key).1 (ap (row_key t.tid) same ∙ sym leads.1)
reached t indexes cs (way.Rows front) row is formed leads met =
    let below = recursion_from_All (λ n. n < length t.columns) t.key is.key.each in
    let behind : Behind cs t row t.key = leading-behind t row cs t.key is.distinct below met in
    begins-from front behind.0 (key_of t row)
    (ap (λ s. rows_prefix t.tid ++ s) behind.1 ∙ sym (append_assoc (rows_prefix t.tid) (row_text (leading cs t t.key)) behind.0) ∙ ap (λ s. s ++ behind.0) (sym leads))
reached t indexes cs (way.Entries at front) row is formed leads met =
    let i : SqlIndex = index_at indexes at in
    let index : IsTableIndex t i = formed at no_index leads.0 in
    let below = recursion_from_All (λ n. n < length t.columns) i.columns index.columns.each in
    let behind : Behind cs t row i.columns = leading-behind t row cs i.columns is.distinct below met in
    let parts = entry-parts t row i in
    begins-from front (behind.0 ++ parts.0) (entry_written t row i).key
    (parts.1 ∙ ap (λ s. entries_prefix t i ++ (s ++ parts.0)) behind.1 ∙ text-front (entries_prefix t i) (row_text (leading cs t i.columns)) behind.0 parts.0
    ∙ ap (λ s. s ++ (behind.0 ++ parts.0)) (sym leads.1))

-- of the rows on the way those are kept that all rows' filter keeps
pub meeting-same : (t : Table) (indexes : List SqlIndex) (filtered : Option Condition) (w : Way) (rows : List StoredRow) → IsTable t → All (IsTableIndex t) indexes
    → IsWay t indexes (conjuncts filtered) w
    → filter (λ (s : StoredRow). meets (scope_of t false) filtered s.row) (filter (λ s. is_reached t indexes w s.row) rows) ≡ filter (λ s. meets (scope_of t false) filtered s.row) rows
meeting-same t indexes filtered w rows is formed leads =
    filter-through (λ (s : StoredRow). is_reached t indexes w s.row) (λ s. meets (scope_of t false) filtered s.row) rows
    (λ s met. reached t indexes (conjuncts filtered) w s.row is formed leads (conjuncts-met (scope_of t false) s.row filtered met))

-- ---- a table's indexes are formed

zip-formed : (t : Table) (shown : List Version) (indexes : List SqlIndex) → AllZip (IsIndexVersion t) shown indexes → AllByRecursion (IsTableIndex t) indexes
zip-formed t [] [] h = tt
zip-formed t [] (i ∷ is) h = absurd h
zip-formed t (v ∷ vs) [] h = absurd h
zip-formed t (v ∷ vs) (i ∷ is) h = (h.0.0, zip-formed t vs is h.1)

pub indexes-formed : (history : List Transaction) (t : Table) (indexes : List SqlIndex) → IndexesAre history t indexes → All (IsTableIndex t) indexes
indexes-formed history t indexes are = All-from_recursion (IsTableIndex t) indexes (zip-formed t are.0 indexes are.2)
