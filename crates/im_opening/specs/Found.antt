-- What is found on a disk that is opened.
use Rattle.std.specs.Prelude.{◌≡◌, List, length, Option}
use Rattle.im_digest.specs.Digests.{Hash}
use Rattle.im_disk.specs.Disk.{Told}
use Rattle.im_format.specs.Batches.{joined}
use Rattle.im_format.specs.declared.records.Record.{Record}
use Rattle.im_journal.specs.Kept.{IsAtRest, Kept}
use Rattle.im_opening.specs.Reach.{txs_of}

-- the journal is at rest with batches of these records, and all of them are durable
pub record IsFound {D : Type 0} (told : D → Option Told) (hash : Hash) (journal : Kept D) (records : List Record) : Type 0 where
  pub batches : List (List Record)
  pub joined_is : joined batches ≡ records
  pub rests : IsAtRest told hash (txs_of records) batches journal
  pub all : journal.durable ≡ length records
