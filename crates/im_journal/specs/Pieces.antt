-- The writes of a batch.
use Rattle.std.specs.Prelude.{◌+◌, ◌==◌, ℕ, List, [], ◌∷◌, ◌++◌, length, slice_index_or, if◌then◌else◌}
use Rattle.im_format.specs.Batches.{batch_octets}
use Rattle.im_format.specs.Places.{log_values}
use Rattle.im_format.specs.Records.{records_octets}
use Rattle.im_format.specs.declared.records.Record.{Record}
use Rattle.im_format.specs.declared.spans.Span.{Span}
use Rattle.im_journal.specs.declared.ends.Ends.{Ends}

-- where the file of this number ends: file 0 is the transaction log, 1 the commit log, and 2 to 5 are the value logs
abbrev pub end_of : Ends → ℕ → ℕ
end_of ends k = slice_index_or (ends.records ∷ ends.commits ∷ ends.values) k 0

-- one write for a value log that gets octets
abbrev pub value_piece : ℕ → ℕ → List ℕ → List Span
value_piece number place octets = if length octets == 0 then [] else record { file = number; at = place; octets = octets } ∷ []

-- those of the value logs, by rising number
abbrev pub value_pieces : Ends → List Record → List Span
value_pieces ends rs =
    value_piece 2 (end_of ends 2) (log_values 0 rs) ++ value_piece 3 (end_of ends 3) (log_values 1 rs)
    ++ value_piece 4 (end_of ends 4) (log_values 2 rs) ++ value_piece 5 (end_of ends 5) (log_values 3 rs)

-- the records, and then the octets of the batch behind its gate
abbrev pub log_pieces : Ends → ℕ → List Record → List Span
log_pieces ends id rs =
    record { file = 0; at = ends.records; octets = records_octets id rs }
    ∷ record { file = 1; at = ends.commits + 1; octets = batch_octets id (length rs) (ends.records + length (records_octets id rs)) }
    ∷ []

-- what is staged of a batch of these records, of which the first has this ID, behind these ends
abbrev pub pieces_of : Ends → ℕ → List Record → List Span
pieces_of ends id rs = value_pieces ends rs ++ log_pieces ends id rs

-- where the files end behind it
abbrev pub ends_after : Ends → ℕ → List Record → Ends
ends_after ends id rs = record {
  records = ends.records + length (records_octets id rs);
  commits = ends.commits + 25;
  values =
      (end_of ends 2 + length (log_values 0 rs)) ∷ (end_of ends 3 + length (log_values 1 rs))
      ∷ (end_of ends 4 + length (log_values 2 rs)) ∷ (end_of ends 5 + length (log_values 3 rs)) ∷ [];
}
