-- What a commit answers: one case an answer.
use Rattle.std.specs.Prelude.{◌≡◌, ◌<◌, ◌≤◌, ◌-◌, ℕ, ℤ, List, [], ◌∷◌, length, take, false, slice_get, IfSome, Option, None, Some, Result, Ok, Err}
use Rattle.im_digest.specs.Digests.{Hash}
use Rattle.im_model.specs.History.{header_of}
use Rattle.im_tx.specs.Asked.{Asked}
use Rattle.im_versions.specs.Admits.{place_refusal}
use Rattle.im_versions.specs.declared.refusals.PlaceError.{PlaceError}
use Rattle.im_versions.specs.declared.refusals.PlaceError.TheVariants as place
use Rattle.im_table.specs.Histories.{history_of}
use Rattle.im_table.specs.Known.{KnownPass}
use Rattle.im_table.specs.declared.items.LogItem.{LogItem}
use Rattle.im_model.specs.Counts.{number_or_none}
use Rattle.im_store.specs.Loads.{SawFailures, SawFewer}
use Rattle.im_store.specs.declared.answers.Receipt.{Receipt}
use Rattle.im_store.specs.declared.errors.CommitError.{CommitError}
use Rattle.im_store.specs.declared.errors.CommitError.TheVariants.{DiskFault, Exists, Full, Memory, Missing, Modified, Stopped}

-- Number n of the list, counted from 1, is a transaction of what was asked for, which was placed since the store was opened: at the time
-- that the clock always gives, where it tells one, where nothing refused it behind those before it, over a tree whose size lies between
-- these two.
pub record IsAskedAt (time : Option ℤ) (items : List LogItem) (asked : Asked) (low high n : ℕ) : Type 0 where
  pub item : LogItem
  pub item_is : slice_get items (n - 1) ≡ Some item
  pub fresh : item.found ≡ false
  pub entries_are : item.tx.entries ≡ asked.entries
  pub timed : IfSome time (λ t. item.tx.ts ≡ t)
  pub admitted : place_refusal (history_of (take (n - 1) items)) asked.pres ≡ None
  pub least : low ≤ item.tx.bl
  pub most : item.tx.bl ≤ high

-- what was asked for stands in the pass's list as number n, which is behind all that the pass had seen and knew to be durable; its tree
-- was no smaller than the pass knew before, and no larger than it knows now
pub record HasPlaced (time : Option ℤ) (asked : Asked) (old new : KnownPass) (n : ℕ) : Type 0 where
  pub above : length old.view.seen < n
  pub later : old.view.least.durable < n
  pub within : n ≤ length new.view.seen
  pub at : IsAskedAt time new.view.seen asked old.view.least.linked new.view.least.linked n

-- it was placed, is durable, and this is its header
pub record IsCommitted (hash : Hash) (time : Option ℤ) (asked : Asked) (old new : KnownPass) (receipt : Receipt) : Type 0 where
  pub placed : HasPlaced time asked old new receipt.id
  pub durable : receipt.id ≤ new.view.least.durable
  pub header : receipt.header ≡ header_of hash (history_of new.view.seen) receipt.id

-- it is refused behind the first transactions of the pass's list, so many of them: no fewer than the pass had seen and knew to be durable.
-- The limit is reached, or the first precondition that doesn't hold there is told
pub record IsRefusedAt (asked : Asked) (old new : KnownPass) (why : PlaceError) (at : ℕ) : Type 0 where
  pub above : length old.view.seen ≤ at
  pub later : old.view.least.durable ≤ at
  pub within : at ≤ length new.view.seen
  pub few : at ≤ 1048576
  pub refused : place_refusal (history_of (take at new.view.seen)) asked.pres ≡ Some why

-- and these are durable
pub record IsRefusedDurably (asked : Asked) (old new : KnownPass) (why : PlaceError) (at : ℕ) : Type 0 where
  pub judged : IsRefusedAt asked old new why at
  pub durable : at ≤ new.view.least.durable

-- it would have been refused behind so many transactions, fewer of which were durable as the call looked
pub record IsNotPlaced (asked : Asked) (old new : KnownPass) : Type 0 where
  pub why : PlaceError
  pub at : ℕ
  pub judged : IsRefusedAt asked old new why at
  pub fewer : SawFewer old new at

-- what is true of the transaction where the disk let the call down: it was placed as this number, or the placing was refused
abbrev pub IsHalted : Option ℤ → Asked → KnownPass → KnownPass → Option ℕ → Type 0
IsHalted time asked old new None = IsNotPlaced asked old new
IsHalted time asked old new (Some n) = HasPlaced time asked old new n

-- why there is no receipt; where a call of the disk failed in the commit the pass knows of one, and knew of none before
abbrev pub Explains : Option ℤ → Asked → KnownPass → KnownPass → CommitError → Type 0
Explains time asked old new (Missing key at) = IsRefusedDurably asked old new (place.Missing key) at
Explains time asked old new (Exists key tx at) = IsRefusedDurably asked old new (place.Exists key tx) at
Explains time asked old new (Modified key tx at) = IsRefusedDurably asked old new (place.Modified key tx) at
Explains time asked old new (Full at) = IsRefusedDurably asked old new place.Full at
Explains time asked old new (DiskFault placed) = IsHalted time asked old new placed × (1 ≤ new.view.least.failed) × (old.view.least.failed ≡ 0)
Explains time asked old new (Stopped faults placed) = IsHalted time asked old new placed × SawFailures old new faults
Explains time asked old new (Memory None) = Unit {0}
Explains time asked old new (Memory (Some n)) = HasPlaced time asked old new n

-- the number that an error tells of a transaction that was placed all the same
abbrev pub number_told : CommitError → List ℕ
number_told (Missing key at) = []
number_told (Exists key tx at) = []
number_told (Modified key tx at) = []
number_told (Full at) = []
number_told (DiskFault placed) = number_or_none placed
number_told (Stopped faults placed) = number_or_none placed
number_told (Memory placed) = number_or_none placed

-- the number of the transaction that a commit placed, where it placed one
abbrev pub number_placed : Result Receipt CommitError → List ℕ
number_placed (Ok receipt) = receipt.id ∷ []
number_placed (Err error) = number_told error

-- how many failures an error tells: a call of the disk that failed in the commit, and no other one
abbrev pub faults_of_error : CommitError → ℕ
faults_of_error (Missing key at) = 0
faults_of_error (Exists key tx at) = 0
faults_of_error (Modified key tx at) = 0
faults_of_error (Full at) = 0
faults_of_error (DiskFault placed) = 1
faults_of_error (Stopped faults placed) = 0
faults_of_error (Memory placed) = 0

-- how many a commit told
abbrev pub faults_committing : Result Receipt CommitError → ℕ
faults_committing (Ok receipt) = 0
faults_committing (Err error) = faults_of_error error

-- the error tells that calls of the disk had failed before
abbrev pub IsStop : CommitError → Type 0
IsStop (Missing key at) = ⊥
IsStop (Exists key tx at) = ⊥
IsStop (Modified key tx at) = ⊥
IsStop (Full at) = ⊥
IsStop (DiskFault placed) = ⊥
IsStop (Stopped faults placed) = Unit {0}
IsStop (Memory placed) = ⊥

-- a commit stopped
abbrev pub HasStopped : Result Receipt CommitError → Type 0
HasStopped (Ok receipt) = ⊥
HasStopped (Err error) = IsStop error
