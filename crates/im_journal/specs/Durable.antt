-- What a journal holds of what is durable, whatever became of the batch in progress.
use Rattle.std.specs.Prelude.{List, Option, IfSome}
use Rattle.im_digest.specs.Digests.{Hash}
use Rattle.im_disk.specs.Disk.{Told}
use Rattle.im_disk.specs.Moments.{LeavesNow}
use Rattle.im_model.specs.declared.transactions.Transaction.{Transaction}
use Rattle.im_format.specs.Batches.{spans_of}
use Rattle.im_format.specs.Standing.{StandsFrom}
use Rattle.im_format.specs.declared.records.Record.{Record}
use Rattle.im_journal.specs.Holding.{AreFirst}
use Rattle.im_journal.specs.Kept.{Kept}
use Rattle.im_journal.specs.Phases.{ReadsAll}

-- These batches are durable, the first `durable` of the placed history: what reads give has all that stands of them, and each
-- image stands for a front part of the placed history that holds them. So it is also behind a call of the disk that failed.
pub record HoldsDurable {D : Type 0} (told : D → Option Told) (hash : Hash) (history : List Transaction) (batches : List (List Record)) (k : Kept D) : Type 0 where
  pub first : AreFirst hash history batches k.durable k.ends
  pub reads : IfSome (told k.disk) (ReadsAll (spans_of batches))
  pub images : LeavesNow (StandsFrom hash k.durable history) (told k.disk)
