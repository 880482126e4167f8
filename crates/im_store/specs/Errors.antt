-- Which error a cause becomes.
use Rattle.std.specs.Prelude.{ℕ, Option, None}
use Rattle.im_journal.specs.declared.errors.JournalError.{JournalError}
use Rattle.im_journal.specs.declared.errors.JournalError.TheVariants as halts
use Rattle.im_versions.specs.declared.refusals.PlaceError.{PlaceError}
use Rattle.im_versions.specs.declared.refusals.PlaceError.TheVariants as place
use Rattle.im_store.specs.declared.errors.CommitError.{CommitError}
use Rattle.im_store.specs.declared.errors.CommitError.TheVariants as commits
use Rattle.im_store.specs.declared.errors.ItemError.{ItemError}
use Rattle.im_store.specs.declared.errors.ItemError.TheVariants as items
use Rattle.im_store.specs.declared.errors.ProveError.{ProveError}
use Rattle.im_store.specs.declared.errors.ProveError.TheVariants as proves
use Rattle.im_store.specs.declared.errors.SettleError.{SettleError}
use Rattle.im_store.specs.declared.errors.SettleError.TheVariants as settles

-- of the journal, to one who settles
abbrev pub settle_error : JournalError → SettleError
settle_error halts.DiskFault = settles.DiskFault
settle_error (halts.Stopped faults) = settles.Stopped faults
settle_error halts.Memory = settles.Memory

-- of the journal, to one who commits, whose transaction was placed or not
abbrev pub halted : JournalError → Option ℕ → CommitError
halted halts.DiskFault placed = commits.DiskFault placed
halted (halts.Stopped faults) placed = commits.Stopped faults placed
halted halts.Memory placed = commits.Memory placed

-- of the book, behind so many transactions
abbrev pub refused : PlaceError → ℕ → CommitError
refused place.Memory at = commits.Memory None
refused place.Full at = commits.Full at
refused (place.Missing key) at = commits.Missing key at
refused (place.Exists key tx) at = commits.Exists key tx at
refused (place.Modified key tx) at = commits.Modified key tx at

-- of a proof, to one who asks for an entry
abbrev pub item_error : ProveError → ItemError
item_error (proves.Order s t) = items.Order s t
item_error (proves.Beyond durable) = items.Beyond durable
item_error proves.Memory = items.Memory
