-- A table while the rows of a statement are taken: what is written so far, over the rows that stood.
use Rattle.std.specs.Prelude.{◌≡◌, ◌≢◌, ℕ, Bool, true, List, find, bytes_eq, MatchOption, Option, Some, None, Result, Ok, Err, AllPairs}
use Rattle.std.specs.List.{IsAmong}
use Rattle.im_model.specs.declared.transactions.Transaction.{Transaction}
use Rattle.im_sqltype.specs.Kinds.{AreOfKinds}
use Rattle.im_sqltype.specs.Texts.{row_text}
use Rattle.im_sqltype.specs.declared.values.Value.{Value}
use Rattle.im_sqlmodel.specs.Tables.{kinds_of}
use Rattle.im_sqlmodel.specs.Rows.{columns_of, key_of}
use Rattle.im_sqlmodel.specs.Writes.{entry_written, stored_at, Work, write_row, row_fault}
use Rattle.im_sqlmodel.specs.declared.answers.SqlError.{SqlError}
use Rattle.im_sqlmodel.specs.declared.rows.StoredRow.{StoredRow}
use Rattle.im_sqlmodel.specs.declared.tables.SqlIndex.{SqlIndex}
use Rattle.im_sqlmodel.specs.declared.tables.Table.{Table}
use Rattle.im_sqlmodel.specs.declared.written.Written.{Written}
use Rattle.im_sql.specs.Writing.{written_at}

-- a row of the statement
abbrev pub IsWrittenRow : Table → List ℕ → Option StoredRow → Type 0
IsWrittenRow t text found =
    (row : List Value) × AreOfKinds (kinds_of t) row × (text ≡ row_text row) × (found ≡ Some (record { row = row; tx = 0 }))

-- the row of a key is the one that stood there where nothing is written, none where it is deleted, else the written one
abbrev pub IsRowOver : Table → List StoredRow → List Written → List ℕ → Option StoredRow → Type 0
IsRowOver t stood written key found = MatchOption (written_at written key)
    (found ≡ stored_at t stood key)
    (λ value. MatchOption value (found ≡ None) (λ text. IsWrittenRow t text found))

-- the row that has this key in an index
abbrev pub holder : Table → SqlIndex → List ℕ → List StoredRow → Option StoredRow
holder t i key rows = find (λ s. bytes_eq (entry_written t s.row i).key key) rows

-- a row of the statement, whose primary key this is
abbrev pub IsWrittenHolder : Table → List ℕ → Option StoredRow → Type 0
IsWrittenHolder t text found = (s : StoredRow) × (found ≡ Some s) × (s.tx ≡ 0) × (text ≡ row_text (columns_of s.row t.key))

-- the row that has a key in a unique index, likewise
abbrev pub IsHolderOver : Table → SqlIndex → List StoredRow → List Written → List ℕ → Option StoredRow → Type 0
IsHolderOver t i stood written key found = MatchOption (written_at written key)
    (found ≡ holder t i key stood)
    (λ value. MatchOption value (found ≡ None) (λ text. IsWrittenHolder t text found))

-- these are the rows behind what is written over those that stood
pub record IsWorking (t : Table) (indexes : List SqlIndex) (stood : List StoredRow) (written : List Written) (rows : List StoredRow) : Type 0 where
  pub row : (key : List Value) → IsRowOver t stood written (key_of t key) (stored_at t rows (key_of t key))
  pub unique : (i : SqlIndex) (row : List Value) → IsAmong indexes i → i.unique ≡ true
      → IsHolderOver t i stood written (entry_written t row i).key (holder t i (entry_written t row i).key rows)
  -- no two rows have one primary key, nor one key in a unique index
  pub apart : AllPairs (λ a b. key_of t a.row ≢ key_of t b.row) rows
  pub alone : (i : SqlIndex) → IsAmong indexes i → i.unique ≡ true → AllPairs (λ a b. (entry_written t a.row i).key ≢ (entry_written t b.row i).key) rows

-- what was written, or what is wrong
abbrev pub written_of : Result Work SqlError → Result (List Written) SqlError
written_of (Ok work) = Ok work.written
written_of (Err fault) = Err fault

-- Row i was taken: where nothing is wrong with it, what is written is what the definition writes, over the same rows that stood; else
-- this is what is wrong.
abbrev pub IsTaken : List Transaction → Bool → Table → List SqlIndex → ℕ → List Value → List StoredRow → Work → List Written → Option SqlError → Type 0
IsTaken history fresh t indexes i row stood work written None =
    (row_fault history fresh t indexes i row work.rows ≡ None) × (written ≡ (write_row t indexes row work).written)
    × IsWorking t indexes stood written (write_row t indexes row work).rows
IsTaken history fresh t indexes i row stood work written (Some fault) = row_fault history fresh t indexes i row work.rows ≡ Some fault
