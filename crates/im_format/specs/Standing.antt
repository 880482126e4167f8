-- What an image of the files stands for.
use Rattle.std.specs.Prelude.{◌≡◌, ◌<◌, ◌≤◌, ◌+◌, ℕ, List, length, map, take, All}
use Rattle.im_digest.specs.Digests.{Hash}
use Rattle.im_disk.specs.Disk.{Files}
use Rattle.im_model.specs.History.{IsHistory}
use Rattle.im_model.specs.declared.transactions.Transaction.{Transaction}
use Rattle.im_format.specs.Batches.{Counts, gate_of, joined, spans_of}
use Rattle.im_format.specs.Places.{refs_of}
use Rattle.im_format.specs.Records.{AreRecords}
use Rattle.im_format.specs.Spans.{Reads}
use Rattle.im_format.specs.declared.records.Record.{Record}
use Rattle.im_format.specs.declared.references.ValueRef.{ValueRef}

-- the value's octets lie within its log, an empty value's place too
pub record LiesIn (image : Files) (ref : ValueRef) : Type 0 where
  pub within : ref.at + ref.len ≤ length (image (2 + ref.log))

-- the batches that count are these, and the image has all that stands of them
pub record HasBatches (image : Files) (batches : List (List Record)) : Type 0 where
  pub counted : (b : ℕ) → b < length batches → Counts (image 1) (gate_of b)
  pub last : Counts (image 1) (gate_of (length batches)) → ⊥
  pub filled : All (λ batch. 1 ≤ length batch) batches
  pub reads : All (Reads image) (spans_of batches)
  pub lie : All (LiesIn image) (refs_of (joined batches))

-- the batches that count hold exactly the records and the values of this history
pub record Stands (hash : Hash) (image : Files) (history : List Transaction) : Type 0 where
  pub batches : List (List Record)
  pub there : HasBatches image batches
  pub transactions_are : map (λ r. r.tx) (joined batches) ≡ history
  pub history_is : IsHistory history
  pub records_are : AreRecords hash history 1 (joined batches)

-- the image stands for the first transactions of a history: at least so many of them
pub record StandsFrom (hash : Hash) (least : ℕ) (history : List Transaction) (image : Files) : Type 0 where
  pub count : ℕ
  pub no_fewer : least ≤ count
  pub no_more : count ≤ length history
  pub stands : Stands hash image (take count history)
