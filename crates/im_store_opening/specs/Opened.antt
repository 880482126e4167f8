-- A disk opened as a store.
use Rattle.std.specs.Prelude.{◌≡◌, ℕ, List, length, Option, Some, IfSome, true}
use Rattle.std.specs.List.{All}
use Rattle.im_disk.specs.Disk.{after, seen, Told}
use Rattle.im_disk.specs.Grown.{Grows}
use Rattle.im_disk.specs.Moments.{Leaves}
use Rattle.im_disk.specs.declared.calls.Call.TheVariants.{Synced}
use Rattle.im_format.specs.Batches.{gate_of}
use Rattle.im_format.specs.Standing.{HasBatches, Stands}
use Rattle.im_format.specs.declared.records.Record.{Record}
use Rattle.im_model.specs.History.{IsHistory}
use Rattle.im_model.specs.declared.transactions.Transaction.{Transaction}
use Rattle.im_opening.specs.Cut.{IsOpenedBy}
use Rattle.im_seated_book.specs.Seats.{HaveReferences}
use Rattle.im_store.specs.Names.{Naming}
use Rattle.im_table.specs.Histories.{history_of}

-- A disk, which told this, is opened as a store. Its files stand for the history that is found, and for no other, and each image of
-- each moment behind the opening's first sync does. It got that sync, and the closing of the gate behind the batches that reads give now, and that
-- they gave before, where it was missing or cut off, and no other call that changes it. None of its calls failed. Each item is marked as found, and each of its
-- entries has a reference, with its value's length and digest.
pub record OpensAs (told : Option Told) (faults : ℕ) (n : Naming) : Type 0 where
  pub stands : (t : Told) → told ≡ Some t → Stands n.digest (seen t) (history_of n.found)
  pub one : (t : Told) (other : List Transaction) → told ≡ Some t → Stands n.digest (seen t) other → history_of n.found ≡ other
  pub moments : (t : Told) → told ≡ Some t → Leaves (λ image. Stands n.digest image (history_of n.found)) (Some (after Synced t)) n.synced
  pub calls : (t : Told) → told ≡ Some t → (batches : List (List Record)) → IfSome n.synced (λ s. HasBatches (seen s) batches)
      → IsOpenedBy (gate_of (length batches)) t n.synced
  pub closed : (t : Told) (other : List Transaction) → told ≡ Some t → (stands : Stands n.digest (seen t) other) → IsOpenedBy (gate_of (length stands.batches)) t n.synced
  pub grows : Grows told n.synced
  pub same : n.faults ≡ faults
  pub marked : All (λ item. item.found ≡ true) n.found
  pub history : IsHistory (history_of n.found)
  pub referred : HaveReferences n.digest 1 n.found
