-- Where the values of transactions are put.
use Rattle.std.specs.Prelude.{◌≡◌, ◌+◌, ◌%◌, ◌==◌, ℕ, max, List, [], ◌∷◌, ◌++◌, if◌then◌else◌}
use Rattle.im_model.specs.declared.entries.Entry.{Entry}
use Rattle.im_format.specs.declared.records.Record.{Record}
use Rattle.im_format.specs.declared.references.ValueRef.{ValueRef}

-- the end of a value log behind these references: the greatest place + length in it, or 0
abbrev pub log_end : ℕ → List ValueRef → ℕ
log_end log [] = 0
log_end log (ref ∷ refs) = if ref.log == log then max (ref.at + ref.len) (log_end log refs) else log_end log refs

-- the references of transactions, in order
abbrev pub refs_of : List Record → List ValueRef
refs_of [] = []
refs_of (r ∷ rs) = r.refs ++ refs_of rs

-- the value of each entry j of transaction id, from entry i on, goes to log (id + j) mod w, at that log's end
-- behind all references before it, where w is the number of value logs
abbrev pub AreAppended : ℕ → ℕ → ℕ → List ValueRef → List ValueRef → Type 0
AreAppended w id i before [] = Unit {0}
AreAppended w id i before (ref ∷ refs) =
    (ref.log ≡ (id + i) % w) × (ref.at ≡ log_end ref.log before) × AreAppended w id (i + 1) (before ++ ref ∷ []) refs

-- the values of transactions, from this ID on, that follow others with these references
abbrev pub ArePut : ℕ → ℕ → List ValueRef → List Record → Type 0
ArePut w id before [] = Unit {0}
ArePut w id before (r ∷ rs) = AreAppended w id 0 before r.refs × ArePut w (id + 1) (before ++ r.refs) rs

-- the values of entries that go to a log, one behind the other
abbrev pub values_in : ℕ → List Entry → List ValueRef → List ℕ
values_in log [] refs = []
values_in log (entry ∷ entries) [] = []
values_in log (entry ∷ entries) (ref ∷ refs) =
    (if ref.log == log then entry.value else []) ++ values_in log entries refs

-- those of transactions
abbrev pub log_values : ℕ → List Record → List ℕ
log_values log [] = []
log_values log (r ∷ rs) = values_in log r.tx.entries r.refs ++ log_values log rs
