-- What is written at a key, for private clauses.
use Rattle.std.specs.Prelude.{◌≡◌, ◌⊎◌, ℕ, List, [], ◌∷◌, map, find, bytes_eq, Option, Some, Result, Err, All, AllPairs}
use Rattle.std.specs.Option.{option_map}
use Rattle.im_octet.specs.Fields.{field4}
use Rattle.im_versions.specs.Versions.{IsBelow}
use Rattle.im_draft.specs.Drafts.{AreEntries, IsFine}
use Rattle.im_sqlmodel.specs.Keys.{tables_key, table_key}
use Rattle.im_sqlmodel.specs.Tables.{table_text}
use Rattle.im_sqlmodel.specs.Creations.{draft_written}
use Rattle.im_sqlmodel.specs.declared.answers.SqlError.{SqlError}
use Rattle.im_sqlmodel.specs.declared.answers.SqlError.TheVariants as error
use Rattle.im_sqlmodel.specs.declared.answers.SqlOut.{SqlOut}
use Rattle.im_sqlmodel.specs.declared.tables.Table.{Table}
use Rattle.im_sqlmodel.specs.declared.written.Written.{Written}

-- what a list says is written at a key: nothing of it, or its value, or that it is deleted
abbrev pub written_at : List Written → List ℕ → Option (Option (List ℕ))
written_at written key = option_map (λ w. w.value) (find (λ w. bytes_eq key w.key) written)

-- a new table's number, which is that of the tables, and its text
abbrev pub table_entries : Table → List Written
table_entries t = record { key = tables_key; value = Some (field4 t.tid) } ∷ record { key = table_key t.name; value = Some (table_text t) } ∷ []

-- they are the entries of one transaction
abbrev pub MayBePlaced : List Written → Type 0
MayBePlaced written = AreEntries (map draft_written written)

-- each has a key and a value within the limits, and keys rise
pub record AreFine (written : List Written) : Type 0 where
  pub each : All (λ w. IsFine (draft_written w)) written
  pub rising : AllPairs (λ a b. IsBelow a.key b.key) written

-- memory ran out, or this is the answer
abbrev pub Answers : Result SqlOut SqlError → Result SqlOut SqlError → Type 0
Answers answer wanted = (answer ≡ Err error.Memory) ⊎ (answer ≡ wanted)
