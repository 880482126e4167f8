-- What opening gives.
use Rattle.std.specs.Prelude.{◌≡◌, ◌≤◌, ℕ, List, [], ◌∷◌, length, take, slice_index_or, All, Option, Some}
use Rattle.im_clog.specs.Marks.{IsUncounted}
use Rattle.im_digest.specs.Digests.{Hash}
use Rattle.im_disk.specs.Disk.{Files, Told, seen}
use Rattle.im_format.specs.Batches.{gate_of, joined}
use Rattle.im_format.specs.Places.{log_end, refs_of}
use Rattle.im_format.specs.Reading.{history_in}
use Rattle.im_format.specs.Records.{AreRecords, records_octets}
use Rattle.im_format.specs.Standing.{HasBatches, Stands}
use Rattle.im_format.specs.declared.records.Record.{Record}
use Rattle.im_journal.specs.Pieces.{end_of}
use Rattle.im_journal.specs.declared.ends.Ends.{Ends}
use Rattle.im_levels.specs.Leveled.{IsLeveled}
use Rattle.im_model.specs.History.{IsHistory, alhs_of, last_bl_or}
use Rattle.im_proof.specs.Built.{headers_of}
use Rattle.im_opening.specs.Parts.{batches_in, counted_end}
use Rattle.im_opening.specs.Reach.{txs_of}
use Rattle.im_opening.specs.declared.found.FoundHistory.{FoundHistory}
use Rattle.im_opening.specs.declared.reading.Opened.{Opened}

-- these are the records of the batches that count, the number of these, and where their records end
pub record AreBatches (image : Files) (records : List Record) (batches place : ℕ) : Type 0 where
  pub records_are : records ≡ joined (batches_in image)
  pub batches_are : batches ≡ length (batches_in image)
  pub place_is : place ≡ counted_end image

-- these records can be cut into so many batches, each of one record at least
pub record AreGrouped (records : List Record) (count : ℕ) : Type 0 where
  pub batches : List (List Record)
  pub joined_is : joined batches ≡ records
  pub many : length batches ≡ count
  pub filled : All (λ batch. 1 ≤ length batch) batches

-- where the files end behind these records in so many batches: the transaction log, the commit log at the gate
-- behind them, the value logs
abbrev pub ends_behind : List Record → ℕ → Ends
ends_behind records batches = record {
  records = length (records_octets 1 records);
  commits = gate_of batches;
  values = log_end 0 (refs_of records) ∷ log_end 1 (refs_of records) ∷ log_end 2 (refs_of records) ∷ log_end 3 (refs_of records) ∷ [];
}

-- where the commit log and the value logs end: at the gate behind the batches, and behind the references
pub record HasEnds (opened : Opened) : Type 0 where
  pub few : opened.batches ≤ 1048576
  pub gate : opened.ends.commits ≡ gate_of opened.batches
  pub first : slice_index_or opened.ends.values 0 0 ≡ log_end 0 (refs_of opened.found.records.items)
  pub second : slice_index_or opened.ends.values 1 0 ≡ log_end 1 (refs_of opened.found.records.items)
  pub third : slice_index_or opened.ends.values 2 0 ≡ log_end 2 (refs_of opened.found.records.items)
  pub fourth : slice_index_or opened.ends.values 3 0 ≡ log_end 3 (refs_of opened.found.records.items)

-- what was found is one history's: its records, the header and the Alh of each transaction, and the tree that the last
-- of them was placed over, whose leaves are the first Alh: its size and its whole subtrees
pub record IsOneHistory (hash : Hash) (found : FoundHistory) : Type 0 where
  pub history : IsHistory (txs_of found.records.items)
  pub records : AreRecords hash (txs_of found.records.items) 1 found.records.items
  pub headers : found.headers.items ≡ headers_of hash (txs_of found.records.items)
  pub alhs : found.alhs.items ≡ alhs_of hash (txs_of found.records.items)
  pub last : found.tree.size ≡ last_bl_or 0 (txs_of found.records.items)
  pub linked : found.tree.size ≤ length found.alhs.items
  pub tree : IsLeveled hash (take found.tree.size found.alhs.items) found.tree

-- what was read is what the image has, which stands for its history
pub record IsRead (hash : Hash) (image : Files) (opened : Opened) : Type 0 where
  pub batches : AreBatches image opened.found.records.items opened.batches opened.ends.records
  pub within : gate_of opened.batches ≤ length (image 1)
  pub behind_is : IsUncounted (image 1) (gate_of opened.batches) opened.behind
  pub transactions_are : txs_of opened.found.records.items ≡ history_in image
  pub stands : Stands hash image (history_in image)

-- the image has all that stands of the batches that count, and no file of it is shorter than its end
pub record IsThere (image : Files) (opened : Opened) : Type 0 where
  pub batches : HasBatches image (batches_in image)
  pub long : (file : ℕ) → end_of opened.ends file ≤ length (image file)

-- what reading the files of a disk gives, which tells this of itself or nothing: one history, whose records can be cut
-- into the batches that count, with the ends of the files behind them; and it is what the disk's image has
pub record IsGivenBy (hash : Hash) (told : Option Told) (opened : Opened) : Type 0 where
  pub found : IsOneHistory hash opened.found
  pub ends : HasEnds opened
  pub grouped : AreGrouped opened.found.records.items opened.batches
  pub placed : opened.ends ≡ ends_behind opened.found.records.items opened.batches
  pub read : (t : Told) → told ≡ Some t → IsRead hash (seen t) opened
  pub there : (t : Told) → told ≡ Some t → IsThere (seen t) opened
