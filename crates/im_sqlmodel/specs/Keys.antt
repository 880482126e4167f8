-- The keys under which tables, indexes and rows stand. Each begins with octet 00, which no command `set` or `del` may write.
use Rattle.std.specs.Prelude.{ℕ, List, [], ◌∷◌, ◌++◌}
use Rattle.im_octet.specs.Fields.{field4}
use Rattle.im_sqltype.specs.Texts.{row_text}
use Rattle.im_sqltype.specs.declared.values.Value.{Value}

-- 00 00: the number of tables
abbrev pub tables_key : List ℕ
tables_key = 0 ∷ 0 ∷ []

-- 00 01 name: a table
abbrev pub table_prefix : List ℕ
table_prefix = 0 ∷ 1 ∷ []

abbrev pub table_key : List ℕ → List ℕ
table_key name = table_prefix ++ name

-- 00 02 tid iid: an index
abbrev pub indexes_prefix : List ℕ
indexes_prefix = 0 ∷ 2 ∷ []

abbrev pub index_prefix : ℕ → List ℕ
index_prefix tid = indexes_prefix ++ field4 tid

abbrev pub index_key : ℕ → ℕ → List ℕ
index_key tid iid = index_prefix tid ++ field4 iid

-- 00 03 tid: the mark of a table, written by each transaction that writes its rows
abbrev pub mark_key : ℕ → List ℕ
mark_key tid = 0 ∷ 3 ∷ field4 tid

-- 00 04 tid, primary key: a row
abbrev pub rows_prefix : ℕ → List ℕ
rows_prefix tid = 0 ∷ 4 ∷ field4 tid

abbrev pub row_key : ℕ → List Value → List ℕ
row_key tid key = rows_prefix tid ++ row_text key

-- 00 05 tid iid, columns, primary key: an entry of an index that isn't unique
abbrev pub plain_prefix : ℕ → ℕ → List ℕ
plain_prefix tid iid = 0 ∷ 5 ∷ field4 tid ++ field4 iid

abbrev pub plain_key : ℕ → ℕ → List Value → List Value → List ℕ
plain_key tid iid columns key = plain_prefix tid iid ++ row_text columns ++ row_text key

-- 00 06 tid iid, columns: an entry of a unique index
abbrev pub unique_prefix : ℕ → ℕ → List ℕ
unique_prefix tid iid = 0 ∷ 6 ∷ field4 tid ++ field4 iid

abbrev pub unique_key : ℕ → ℕ → List Value → List ℕ
unique_key tid iid columns = unique_prefix tid iid ++ row_text columns
