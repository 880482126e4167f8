-- Batches in the commit log, file 1: each has its gate, its fields, and behind them the next gate.
use Rattle.std.specs.Prelude.{◌≡◌, ◌<◌, ◌+◌, ◌*◌, ℕ, List, [], ◌∷◌, ◌++◌, length, slice_index_or}
use Rattle.im_octet.specs.Fields.{field8}
use Rattle.im_model.specs.declared.entries.Entry.{Entry}
use Rattle.im_format.specs.Records.{records_octets}
use Rattle.im_format.specs.Spans.{octet_span}
use Rattle.im_format.specs.declared.records.Record.{Record}
use Rattle.im_format.specs.declared.references.ValueRef.{ValueRef}
use Rattle.im_format.specs.declared.spans.Span.{Span}

-- the place of the gate of batch b, from 0
abbrev pub gate_of : ℕ → ℕ
gate_of b = 25 * b

-- a batch counts where the one before it does, its gate is open, and all octets up to the next gate, that one
-- too, are there: what is said of its own gate
pub record Counts (log : List ℕ) (gate : ℕ) : Type 0 where
  pub opened : slice_index_or log gate 0 ≡ 1
  pub whole : gate + 25 < length log

-- first ID 8 | count 8 | end of the transaction log 8
unfoldable pub batch_fields : ℕ → ℕ → ℕ → List ℕ
batch_fields first count end = field8 first ++ field8 count ++ field8 end

-- what is staged of a batch in the commit log: its fields, and the next gate, closed
unfoldable pub batch_octets : ℕ → ℕ → ℕ → List ℕ
batch_octets first count end = batch_fields first count end ++ (0 ∷ [])

-- where a value stands
abbrev pub value_span : List ℕ → ValueRef → Span
value_span value ref = record { file = 2 + ref.log; at = ref.at; octets = value }

-- where the values of entries stand, each by its reference
abbrev pub entries_spans : List Entry → List ValueRef → List Span
entries_spans [] refs = []
entries_spans (entry ∷ entries) [] = []
entries_spans (entry ∷ entries) (ref ∷ refs) = value_span entry.value ref ∷ entries_spans entries refs

-- where the values of transactions stand
abbrev pub values_spans : List Record → List Span
values_spans [] = []
values_spans (r ∷ rs) = entries_spans r.tx.entries r.refs ++ values_spans rs

-- what stands of a batch whose gate is at this place, from this ID and this place of the transaction log
-- on: its open gate, its fields, its records, and their values
abbrev pub batch_spans : ℕ → ℕ → ℕ → List Record → List Span
batch_spans gate id end batch =
    octet_span 1 gate 1
    ∷ record { file = 1; at = gate + 1; octets = batch_fields id (length batch) (end + length (records_octets id batch)) }
    ∷ record { file = 0; at = end; octets = records_octets id batch }
    ∷ values_spans batch

-- what stands of batches that follow each other
abbrev pub spans_from : ℕ → ℕ → ℕ → List (List Record) → List Span
spans_from gate id end [] = []
spans_from gate id end (batch ∷ batches) =
    batch_spans gate id end batch
    ++ spans_from (gate + 25) (id + length batch) (end + length (records_octets id batch)) batches

-- what stands of the batches from the first one on, which begin at place 0 of both logs
abbrev pub spans_of : List (List Record) → List Span
spans_of batches = spans_from 0 1 0 batches

-- the records of batches, in order
abbrev pub joined : List (List Record) → List Record
joined [] = []
joined (batch ∷ batches) = batch ++ joined batches
