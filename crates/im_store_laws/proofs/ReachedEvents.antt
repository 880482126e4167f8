-- The batches that the disk of a machine holds, where a run led to it.
use Rattle.std.proofs.Common.{◌≡◌, ◌+◌, ◌++◌, ◌∙◌, ℕ, List, Option, None, Some, length, map, take, true, false, ap, sym, subst, arith}
use Rattle.im_digest.specs.Digests.{Hash, GivesDigests}
use Rattle.im_disk.specs.Disk.{seen, Told}
use Rattle.im_format.specs.Batches.{gate_of, joined, spans_of}
use Rattle.im_format.specs.Records.{AreRecords}
use Rattle.im_format.specs.Standing.{HasBatches, Stands}
use Rattle.im_journal.specs.Holding.{ends_of, IsResting}
use Rattle.im_journal.specs.Kept.{IsAtRest}
use Rattle.im_journal.specs.Phases.{IsSafe}
use Rattle.im_journal.specs.Pieces.{end_of}
use Rattle.im_journal.proofs.Prefixes.{records_front}
use Rattle.im_journal.proofs.Turns.{stands, stands_batches}
use Rattle.im_machine.specs.Machines.{Machine, Progress}
use Rattle.im_machine_laws.specs.Reached.{IsReached}
use Rattle.im_machine_laws.proofs.RunLemmas.{sound-reached}
use Rattle.im_machine_laws.proofs.Sound.{kept_as, telling, IsAsFar, IsHeld}
use Rattle.im_model.specs.declared.transactions.Transaction.{Transaction}
use Rattle.im_opening.proofs.BatchesSame.{batches-read}
use Rattle.im_seated_journal.specs.Calls.{MakesBatches}
use Rattle.im_store_laws.specs.DiskEvents.{RestsOn}
use Rattle.im_store_laws.specs.Events.{HoldsFirst}
use Rattle.im_store_laws.proofs.BatchEvents.{all_records, all_txs, txs_before}
use Rattle.im_journal.proofs.Clear.{records_apart}

-- while it may be called and no batch is in progress, it stands for what is durable, by the machine's own batches
own_stands : (hash : Hash) (m : Machine) → GivesDigests hash → IsReached hash m → m.up ≡ true → m.stopped ≡ false → m.progress ≡ None
    → (there : Stands hash (seen m.disk) (take m.durable m.placed)) × (there.batches ≡ m.batches)
own_stands hash m gives reached up going idle =
    let held : IsHeld hash m = (sound-reached hash m gives reached).held up going in
    let rest : IsAtRest telling hash m.placed m.batches (kept_as m held.0) = subst (λ (p : Option Progress). IsAsFar hash m p held.0) idle held.1 in
    let resting : IsResting m.batches (ends_of m.batches) m.disk = rest.resting in
    let safe : IsSafe (end_of (ends_of m.batches)) (spans_of m.batches) (gate_of (length m.batches)) (seen m.disk) = resting.here in
    (stands hash m.placed m.batches m.durable rest.first (seen m.disk) safe, stands_batches hash m.placed m.batches m.durable rest.first (seen m.disk) safe)

-- so they are the first of those whose calls the disk of a store got that told the same
module _ (hash : Hash) (n durable : ℕ) (history : List Transaction) (before now : Told) (made : MakesBatches hash 1 n durable history (Some before) (Some now)) (m : Machine)
    (gives : GivesDigests hash) (reached : IsReached hash m) (holds : HoldsFirst m history n) (going : m.stopped ≡ false) (idle : m.progress ≡ None)
    (count : m.durable ≡ n) (disk : m.disk ≡ before) where
  own : (there : Stands hash (seen m.disk) (take m.durable m.placed)) × (there.batches ≡ m.batches)
  own = own_stands hash m gives reached holds.up going idle

  number : length (joined made.first) ≡ m.durable
  number = made.found_are ∙ sym count

  front : take (length (joined made.first)) history ≡ take m.durable m.placed
  front = ap (λ (k : ℕ). take k history) made.found_are ∙ sym holds.first ∙ ap (λ (k : ℕ). take k m.placed) (sym count)

  txs : map (λ r. r.tx) (joined made.first) ≡ take m.durable m.placed
  txs =
      txs_before (joined made.first) (joined made.more ++ made.last) history (length (joined made.first) + length (joined made.more ++ made.last))
      (all_txs hash n durable history before now made)
      ∙ front

  records : AreRecords hash (take m.durable m.placed) 1 (joined made.first)
  records =
      let size : ℕ = length (joined made.first) in
      subst (λ (l : List Transaction). AreRecords hash l 1 (joined made.first)) front
      (records_front hash history size 1 (joined made.first) (omega arith) (omega arith)
      (records_apart hash history 1 (joined made.first) (joined made.more ++ made.last) (all_records hash n durable history before now made)).0)

  held : HasBatches (seen m.disk) made.first
  held = subst (λ (t : Told). HasBatches (seen t) made.first) (sym disk) made.held

  same : m.batches ≡ made.first
  same =
      let there : Stands hash (seen m.disk) (take m.durable m.placed) = record { batches = made.first; there = held; transactions_are = txs; history_is = own.0.history_is; records_are = records } in
      sym own.1 ∙ sym (batches-read hash (seen m.disk) (take m.durable m.placed) (record { long = gives }) own.0)
      ∙ batches-read hash (seen m.disk) (take m.durable m.placed) (record { long = gives }) there

  pub rests_there : RestsOn m made.first before
  rests_there = record { going = going; idle = idle; batches_are = same; durable_are = sym number; disk_is = disk }
