-- What a place answers the commit that asked for it, and what that makes of it.
use Rattle.std.specs.Prelude.{◌≡◌, ◌⊎◌, ◌≤◌, ℕ, List, [], ◌∷◌, None, Result, Ok, Err}
use Rattle.im_digest.specs.Digests.{Hash}
use Rattle.im_journal.specs.declared.errors.JournalError.{JournalError}
use Rattle.im_model.specs.History.{header_of}
use Rattle.im_table.specs.Histories.{history_of}
use Rattle.im_table.specs.Known.{KnownPass}
use Rattle.im_tx.specs.Asked.{Asked}
use Rattle.im_versions.specs.declared.refusals.PlaceError.{PlaceError}
use Rattle.im_versions.specs.declared.refusals.PlaceError.TheVariants as place
use Rattle.im_store.specs.Commits.{IsRefusedAt}
use Rattle.im_store.specs.Errors.{halted, refused}
use Rattle.im_store.specs.Loads.{SawFewer}
use Rattle.im_store.specs.Settling.{ExplainsHalt}
use Rattle.im_store.specs.declared.answers.Receipt.{Receipt}
use Rattle.im_store.specs.declared.errors.CommitError.{CommitError}
use Rattle.im_store.specs.declared.errors.CommitError.TheVariants as commits
use Rattle.im_store.specs.declared.store.committing.NotPlaced.{NotPlaced}
use Rattle.im_store.specs.declared.store.committing.NotPlaced.TheVariants.{Memory, Refused}

-- the number of what was placed, where it was
abbrev pub numbers_of : Result ℕ NotPlaced → List ℕ
numbers_of (Ok id) = id ∷ []
numbers_of (Err error) = []

-- a receipt of transaction n, which is durable
pub record IsReceipt (hash : Hash) (new : KnownPass) (n : ℕ) (receipt : Receipt) : Type 0 where
  pub id_is : receipt.id ≡ n
  pub durable : n ≤ new.view.least.durable
  pub header_is : receipt.header ≡ header_of hash (history_of new.view.seen) n

-- what became of a refusal of the book
abbrev pub unplaced : PlaceError → ℕ → NotPlaced
unplaced place.Memory at = Memory
unplaced place.Full at = Refused place.Full at
unplaced (place.Missing key) at = Refused (place.Missing key) at
unplaced (place.Exists key tx) at = Refused (place.Exists key tx) at
unplaced (place.Modified key tx) at = Refused (place.Modified key tx) at

-- what was asked for was refused, but for want of memory
abbrev pub IsNotDone : Asked → KnownPass → KnownPass → NotPlaced → Type 0
IsNotDone asked old new Memory = Unit {0}
IsNotDone asked old new (Refused why at) = IsRefusedAt asked old new why at

-- behind how many transactions it was judged
abbrev pub reach_of : NotPlaced → ℕ
reach_of Memory = 0
reach_of (Refused why at) = at

-- the refusal is told once the transactions behind which it was judged are durable; or the journal halted, and fewer were
abbrev pub TellsRefusal : KnownPass → KnownPass → PlaceError → ℕ → CommitError → Type 0
TellsRefusal old new why at error =
    ((error ≡ refused why at) × (at ≤ new.view.least.durable))
    ⊎ ((cause : JournalError) × (error ≡ halted cause None) × ExplainsHalt old new cause × SawFewer old new at)

-- what wasn't placed is told
abbrev pub TellsNotPlaced : KnownPass → KnownPass → NotPlaced → CommitError → Type 0
TellsNotPlaced old new Memory error = error ≡ commits.Memory None
TellsNotPlaced old new (Refused why at) error = TellsRefusal old new why at error
