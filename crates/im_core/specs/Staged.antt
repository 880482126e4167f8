-- What is staged.
use Rattle.std.specs.Prelude.{◌≡◌, ◌-◌, ◌+◌, ℕ, List, map, take, drop, Bool}
use Rattle.im_core.specs.Parts.{IsUp}
use Rattle.im_core.specs.declared.store.OpenStore.{OpenStore}
use Rattle.im_digest.specs.Digests.{Hash}
use Rattle.im_format.specs.Batches.{joined}
use Rattle.im_format.specs.Places.{ArePut, refs_of}
use Rattle.im_format.specs.Records.{AreRecords}
use Rattle.im_format.specs.declared.records.Record.{Record}
use Rattle.im_machine.specs.Machines.{Machine, Progress}
use Rattle.im_machine.specs.Steps.{Writes}
use Rattle.im_machine.specs.declared.outputs.Output.{Output}
use Rattle.im_model.specs.declared.transactions.Transaction.{Transaction}

-- these are the records of the placed transactions behind the first `durable` ones, which stand in these batches, up to this
-- number: each value is put at the end of the one value log, behind all before it
pub record AreBehind (hash : Hash) (placed : List Transaction) (batches : List (List Record)) (durable last : ℕ) (rs : List Record) : Type 0 where
  pub transactions_are : map (λ r. r.tx) rs ≡ take (last - durable) (drop durable placed)
  pub records_are : AreRecords hash placed (durable + 1) rs
  pub put : ArePut 1 (durable + 1) (refs_of (joined batches)) rs

-- the next write of the batch in progress is made, or fails, and the parts are those of the machine behind it
abbrev pub WritesNext : Hash → Machine → Bool → Progress → Output → OpenStore → Type 0
WritesNext hash m fails p output store = (next : Machine) × Writes m fails p output next × IsUp hash store next
