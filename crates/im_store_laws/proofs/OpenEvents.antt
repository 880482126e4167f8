-- The opening of a store, and the failures that it tells, as steps of the machine.
use Rattle.std.proofs.Common.{◌≡◌, ◌≤◌, ◌<◌, ◌+◌, ◌-◌, ◌^◌, ◌∙◌, ℕ, zero, suc, List, Some, length, min, replicate, true, Bool, refl, ap, sym, subst, arith, inl}
use Rattle.std.proofs.lemmas.List.{length-map}
use Rattle.im_digest.specs.Digests.{Hash}
use Rattle.im_disk.specs.Disk.{after, seen, Told}
use Rattle.im_format.specs.Batches.{gate_of, joined}
use Rattle.im_format.specs.Standing.{Stands}
use Rattle.im_format.specs.declared.records.Record.{Record}
use Rattle.im_machine.specs.Machines.{opened, Machine}
use Rattle.im_machine.specs.Runs.{Run}
use Rattle.im_machine.specs.declared.events.Event.TheVariants as on
use Rattle.im_machine.specs.declared.outputs.Output.TheVariants as tells
use Rattle.im_machine.proofs.CutLemmas.{disk_by}
use Rattle.im_model.specs.declared.transactions.Transaction.{Transaction}
use Rattle.im_table.specs.Histories.{history_of}
use Rattle.im_store_laws.specs.DiskEvents.{AreFaultSteps, IsOpenStep}
use Rattle.im_store.specs.Names.{Naming}
use Rattle.im_store_opening.specs.Opened.{OpensAs}
use Rattle.im_store_laws.proofs.BatchEvents.{nothing_behind}

pub open_event : (t : Told) (faults : ℕ) (n : Naming) → OpensAs (Some t) faults n → IsOpenStep n.digest t (history_of n.found) n.synced
open_event t faults n opens m down disk =
    let history : List Transaction = history_of n.found in
    let here : OpensAs (Some m.disk) faults n = subst (λ (x : Told). OpensAs (Some x) faults n) (sym disk) opens in
    let stands : Stands n.digest (seen m.disk) history = here.stands m.disk refl in
    let batches : List (List Record) = stands.batches in
    let calls = here.closed m.disk history refl stands in
    let next : Machine = opened m history batches in
    let count : length history ≡ length (joined batches) =
    ap (λ (l : List Transaction). length l) (sym stands.transactions_are) ∙ length-map (joined batches) (λ (r : Record). r.tx) in (
      batches,
      next,
      refl,
      inl ((down, (history, stands)), (history, stands, refl, refl)),
      calls.2 ∙ ap (λ (x : Told). Some x) (disk_by m.disk (gate_of (length batches)) calls.0 calls.1),
      record { up = refl; first = refl },
      record { going = refl; idle = refl; batches_are = refl; durable_are = count; disk_is = refl },
    )

-- failures more, told to a machine to which one was told
faults_run : (hash : Hash) (k : ℕ) (m : Machine) (after : ℕ) → m.up ≡ true → m.stopped ≡ true → m.failures + k ≡ after → after ≤ 2 ^ 64 - 1
    → Run hash m (replicate k on.Fault) (replicate k tells.Done) (record m { failures = after; stopped = true })
faults_run hash zero m after up stopped is few =
    let count : after ≡ m.failures = omega (arith, is) in
    ap (λ (n : ℕ). record m { failures = n; stopped = true }) count ∙ ap (λ (b : Bool). record m { stopped = b }) (sym stopped)
faults_run hash (suc k) m after up stopped is few =
    let next : Machine = record m { failures = m.failures + 1; stopped = true } in
    let least : m.failures + 1 ≡ min (m.failures + 1) (2 ^ 64 - 1) = omega (arith, is, few) in
    (next, inl (up, (refl, ap (λ (n : ℕ). record m { failures = n; stopped = true }) least)), faults_run hash k next after up refl (omega (arith, is)) few)

pub fault_event : (hash : Hash) (before after : ℕ) → before < after → after ≤ 2 ^ 64 - 1 → AreFaultSteps hash before after
fault_event hash before after less few m up is =
    let k : ℕ = after - before - 1 in
    let count : suc k ≡ after - before = omega (arith, less) in
    let one : Machine = record m { failures = m.failures + 1; stopped = true } in
    let end : Machine = record m { failures = after; stopped = true } in
    let least : m.failures + 1 ≡ min (m.failures + 1) (2 ^ 64 - 1) = omega (arith, is, less, few) in
    let run : Run hash m (replicate (suc k) on.Fault) (replicate (suc k) tells.Done) end =
    (one, inl (up, (refl, ap (λ (n : ℕ). record m { failures = n; stopped = true }) least)), faults_run hash k one after up refl (omega (arith, is, less, count)) few) in (
      end,
      refl,
      subst (λ (j : ℕ). Run hash m (replicate j on.Fault) (replicate j tells.Done) end) count run,
      nothing_behind hash end refl,
    )
