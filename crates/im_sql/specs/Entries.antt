-- What stands under the key of a unique index's entry, for private clauses.
use Rattle.std.specs.Prelude.{◌≡◌, ℕ, false, List, bytes_eq, if◌then◌else◌, MatchOption, Option, Some, None}
use Rattle.im_model.specs.declared.transactions.Transaction.{Transaction}
use Rattle.im_versions.specs.Versions.{last_version, is_live}
use Rattle.im_versions.specs.declared.versions.Version.{Version}
use Rattle.im_sqlmodel.specs.declared.written.Written.{Written}
use Rattle.im_sql.specs.Writing.{written_at}
use Rattle.im_sql.specs.declared.working.Entry.{Entry}

-- the entry of a history
abbrev pub IsEntryOfHistory : List Transaction → List ℕ → Option Entry → Type 0
IsEntryOfHistory history key None = is_live history key ≡ false
IsEntryOfHistory history key (Some e) =
    (v : Version) × (last_version history key ≡ Some v) × (v.deleted ≡ false) × (e.primary ≡ v.value) × (e.tx ≡ v.tx)

-- what is written at its key counts, and where nothing is the history's
abbrev pub IsEntryThere : List Transaction → List Written → List ℕ → Option Entry → Type 0
IsEntryThere history written key found = MatchOption (written_at written key)
    (IsEntryOfHistory history key found)
    (λ value. MatchOption value (found ≡ None) (λ text. found ≡ Some (record { primary = text; tx = 0 })))

-- the number of an entry that isn't of this primary key
abbrev pub other_number : Entry → List ℕ → Option ℕ
other_number e own = if bytes_eq e.primary own then None else Some e.tx

-- that of the entry that is found, if there is one
abbrev pub number_met : Option Entry → Option (List ℕ) → Option ℕ
number_met (Some e) (Some own) = other_number e own
number_met found own = None
