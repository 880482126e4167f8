-- Where an event is allowed: one case an event.
use Rattle.std.specs.Prelude.{◌≡◌, ◌<◌, ◌≤◌, ◌+◌, ℕ, List, length, true, false, Option, Some, None}
use Rattle.im_machine.specs.Machines.{Machine, writes_due, Progress}
use Rattle.im_machine.specs.declared.events.Event.{Event}
use Rattle.im_machine.specs.declared.events.Event.TheVariants as on
use Rattle.im_machine.specs.declared.questions.ProofQuestion.{ProofQuestion}
use Rattle.im_machine.specs.declared.questions.ProofQuestion.TheVariants as asks
use Rattle.im_digest.specs.Digests.{Hash}
use Rattle.im_disk.specs.Disk.{Images, seen}
use Rattle.im_disk.specs.Records.{files_of}
use Rattle.im_format.specs.Standing.{Stands}
use Rattle.im_model.specs.History.{transaction_of}
use Rattle.im_model.specs.declared.transactions.Transaction.{Transaction}

-- the store is open, no call of the disk has failed and no failure was told since: its disk may be called
pub record MayCall (m : Machine) : Type 0 where
  pub up : m.up ≡ true
  pub going : m.stopped ≡ false

-- staging up to this number, by the batch in progress: with none it begins one, of what is placed behind the durable; else a
-- write of the batch is left, whatever the number
abbrev pub MayStage : Machine → ℕ → Option Progress → Type 0
MayStage m last None = (m.durable < last) × (last ≤ length m.placed)
MayStage m last (Some p) = p.done < length (writes_due m p)

-- the last step done on the batch is its last write
abbrev pub MaySeal : Machine → Option Progress → Type 0
MaySeal m None = ⊥
MaySeal m (Some p) = p.done ≡ length (writes_due m p)

-- it is the sync behind them
abbrev pub MayGate : Machine → Option Progress → Type 0
MayGate m None = ⊥
MayGate m (Some p) = p.done ≡ length (writes_due m p) + 1

-- it is the write of its gate
abbrev pub MaySettle : Machine → Option Progress → Type 0
MaySettle m None = ⊥
MaySettle m (Some p) = p.done ≡ length (writes_due m p) + 2

-- two numbers of durable transactions, in order, from 1
pub record IsBetween (source target durable : ℕ) : Type 0 where
  pub some : 1 ≤ source
  pub order : source ≤ target
  pub within : target ≤ durable

-- what is asked to be proved is durable, and an entry's index is below the number of its transaction's entries
abbrev pub MayProve : Machine → ProofQuestion → Type 0
MayProve m (asks.Header number) = IsBetween number number m.durable
MayProve m (asks.Dual source target) = IsBetween source target m.durable
MayProve m (asks.Advance source target) = IsBetween source target m.durable
MayProve m (asks.Item number index state) =
    IsBetween number state m.durable × (index < length (transaction_of m.placed number).entries)

-- an event is allowed; but for opening, only while the store is open
abbrev pub Allows : Hash → Machine → Event → Type 0
Allows hash m (on.Place session ts asked) = m.up ≡ true
Allows hash m (on.Stage last fails) = MayCall m × MayStage m last m.progress
Allows hash m (on.Seal fails) = MayCall m × MaySeal m m.progress
Allows hash m (on.Gate fails) = MayCall m × MayGate m m.progress
Allows hash m (on.Settle fails) = MayCall m × MaySettle m m.progress
Allows hash m (on.Ack session number) = (m.up ≡ true) × IsBetween number number m.durable
Allows hash m on.Fault = m.up ≡ true
Allows hash m on.Link = (m.up ≡ true) × (m.linked < m.durable)
Allows hash m on.Index = (m.up ≡ true) × (m.indexed < m.durable)
Allows hash m (on.Load session word) = m.up ≡ true
Allows hash m (on.Snap session number question) = (m.up ≡ true) × (number ≤ m.indexed)
Allows hash m (on.Prove session question) = (m.up ≡ true) × MayProve m question
-- an image of all sixteen files, which a crash may leave now
Allows hash m (on.Crash image) = (m.up ≡ true) × (length image ≡ 16) × Images m.disk (files_of image)
-- the files stand for some history
Allows hash m on.Open = (m.up ≡ false) × ((history : List Transaction) × Stands hash (seen m.disk) history)
