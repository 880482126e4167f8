-- What the files hold of the placed history, and what may be added to it.
use Rattle.std.specs.Prelude.{◌≡◌, ◌≤◌, ◌+◌, ℕ, List, [], ◌∷◌, length, map, take, drop, All}
use Rattle.im_digest.specs.Digests.{Hash}
use Rattle.im_disk.specs.Disk.{Files, Told, Images, seen}
use Rattle.im_model.specs.History.{IsHistory}
use Rattle.im_model.specs.declared.transactions.Transaction.{Transaction}
use Rattle.im_format.specs.Batches.{gate_of, joined, spans_of}
use Rattle.im_format.specs.Places.{ArePut, log_end, refs_of}
use Rattle.im_format.specs.Records.{AreRecords, records_octets}
use Rattle.im_format.specs.declared.records.Record.{Record}
use Rattle.im_journal.specs.Phases.{IsSafe}
use Rattle.im_journal.specs.Pieces.{end_of}
use Rattle.im_journal.specs.declared.ends.Ends.{Ends}

-- where the files end behind these batches: the transaction log, the commit log at the gate behind them, the
-- value logs
abbrev pub ends_of : List (List Record) → Ends
ends_of batches = record {
  records = length (records_octets 1 (joined batches));
  commits = gate_of (length batches);
  values =
      log_end 0 (refs_of (joined batches)) ∷ log_end 1 (refs_of (joined batches))
      ∷ log_end 2 (refs_of (joined batches)) ∷ log_end 3 (refs_of (joined batches)) ∷ [];
}

-- these batches, of one record at least each, are the first `durable` transactions of the placed history, and the files
-- end there; the hash gives 32 octets, and the placed history is one
pub record AreFirst (hash : Hash) (history : List Transaction) (batches : List (List Record)) (durable : ℕ) (ends : Ends) : Type 0 where
  pub digests : (octets : List ℕ) → length (hash octets) ≡ 32
  pub history_is : IsHistory history
  pub placed : durable ≤ length history
  pub transactions_are : map (λ r. r.tx) (joined batches) ≡ take durable history
  pub records_are : AreRecords hash history 1 (joined batches)
  pub filled : All (λ batch. 1 ≤ length batch) batches
  pub ends_are : ends ≡ ends_of batches

-- these records are those of the transactions that follow in the placed history, one at least, and their values
-- are put at the ends of some number of value logs
pub record AreNext (hash : Hash) (history : List Transaction) (batches : List (List Record)) (durable : ℕ) (rs : List Record) : Type 0 where
  pub some : 1 ≤ length rs
  pub placed : durable + length rs ≤ length history
  pub transactions_are : map (λ r. r.tx) rs ≡ take (length rs) (drop durable history)
  pub records_are : AreRecords hash history (durable + 1) rs
  pub logs : ℕ
  pub put : ArePut logs (durable + 1) (refs_of (joined batches)) rs

-- the disk has these batches and a closed gate behind them, in what reads give and in each image
pub record IsResting (batches : List (List Record)) (ends : Ends) (t : Told) : Type 0 where
  pub safe : (image : Files) → Images t image → IsSafe (end_of ends) (spans_of batches) (gate_of (length batches)) image
  pub here : IsSafe (end_of ends) (spans_of batches) (gate_of (length batches)) (seen t)
