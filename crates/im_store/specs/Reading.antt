-- What is read and proved of the pass's list, and when it is not.
use Rattle.std.specs.Prelude.{◌≡◌, ◌⊎◌, ◌<◌, ◌≤◌, ◌+◌, ◌-◌, ◌^◌, ℕ, length, map, take, slice_index_or}
use Rattle.im_digest.specs.Digests.{Hash}
use Rattle.im_index.specs.Indexed.{Indexed, IsSnapshotOf}
use Rattle.im_model.specs.Entries.{entry_digest}
use Rattle.im_model.specs.History.{header_of, transaction_of}
use Rattle.im_model.specs.declared.headers.Header.{Header}
use Rattle.im_proof.specs.Between.{anchor_between, dual_between, no_entry}
use Rattle.im_proof.specs.Built.{path_of}
use Rattle.im_proof.specs.declared.proofs.DualProof.{DualProof}
use Rattle.im_table.specs.Histories.{history_of}
use Rattle.im_table.specs.Known.{KnownPass}
use Rattle.im_store.specs.Loads.{IsLoaded, SawDurable, SawIndexed}
use Rattle.im_store.specs.declared.answers.Advance.{Advance}
use Rattle.im_store.specs.declared.answers.ProvedEntry.{ProvedEntry}
use Rattle.im_store.specs.declared.errors.ProveError.{ProveError}
use Rattle.im_store.specs.declared.errors.ProveError.TheVariants as proves
use Rattle.im_store.specs.declared.errors.ItemError.{ItemError}
use Rattle.im_store.specs.declared.errors.ItemError.TheVariants as items
use Rattle.im_store.specs.declared.errors.SnapshotError.{SnapshotError}
use Rattle.im_store.specs.declared.errors.SnapshotError.TheVariants as reads

-- two numbers of transactions, in order and from 1, of which the greater is durable, as loaded in the call
pub record AreLoaded (old new : KnownPass) (source target : ℕ) : Type 0 where
  pub durable : ℕ
  pub saw : SawDurable old new durable
  pub some : 1 ≤ source
  pub order : source ≤ target
  pub within : target ≤ durable

-- such numbers, and the pass's list has them
pub record AreDurable (old new : KnownPass) (source target : ℕ) : Type 0 where
  pub durable : ℕ
  pub saw : SawDurable old new durable
  pub some : 1 ≤ source
  pub order : source ≤ target
  pub within : target ≤ durable
  pub seen : target ≤ length new.view.seen

-- a header of the pass's list
pub record AnswersHeader (hash : Hash) (old new : KnownPass) (k : ℕ) (header : Header) : Type 0 where
  pub durable : AreDurable old new k k
  pub header_is : header ≡ header_of hash (history_of new.view.seen) k

-- a dual proof of the pass's list
pub record AnswersDual (hash : Hash) (old new : KnownPass) (source target : ℕ) (dual : DualProof) : Type 0 where
  pub durable : AreDurable old new source target
  pub dual_is : dual ≡ dual_between hash (history_of new.view.seen) source target

-- a dual proof of the pass's list, and its anchor where one is due
pub record AnswersAdvance (hash : Hash) (old new : KnownPass) (source target : ℕ) (advance : Advance) : Type 0 where
  pub durable : AreDurable old new source target
  pub dual_is : advance.dual ≡ dual_between hash (history_of new.view.seen) source target
  pub anchor_is : advance.anchor ≡ anchor_between hash (history_of new.view.seen) source target

-- an entry of a transaction of the pass's list, by its index, its path among the transaction's entries, and the dual proof to the state
pub record AnswersEntry (hash : Hash) (old new : KnownPass) (number index state : ℕ) (item : ProvedEntry) : Type 0 where
  pub durable : AreDurable old new number state
  pub within : index < length (transaction_of (history_of new.view.seen) number).entries
  pub dual_is : item.dual ≡ dual_between hash (history_of new.view.seen) number state
  pub entry_is : item.entry ≡ slice_index_or (transaction_of (history_of new.view.seen) number).entries index no_entry
  pub index_is : item.index ≡ index
  pub path_is : item.path ≡ path_of hash (map (entry_digest hash) (transaction_of (history_of new.view.seen) number).entries) index

-- What stands behind the first n transactions of the pass's list, which are durable and indexed, as loaded in the call.
pub record AnswersKeys (old new : KnownPass) (n : ℕ) (snapshot : Indexed) : Type 0 where
  pub durable : ℕ
  pub saw_durable : SawDurable old new durable
  pub within_durable : n ≤ durable
  pub indexed : ℕ
  pub saw_indexed : SawIndexed old new indexed
  pub within_indexed : n ≤ indexed
  pub seen : n ≤ length new.view.seen
  pub shows : IsSnapshotOf snapshot (take n (history_of new.view.seen))

-- they aren't in order, or the first is 0
abbrev pub AreUnordered : ℕ → ℕ → Type 0
AreUnordered source target = (source ≡ 0) ⊎ (target < source)

-- the greater of two numbers that are in order is beyond what is durable, as loaded in the call
pub record IsBeyond (old new : KnownPass) (source target durable : ℕ) : Type 0 where
  pub some : 1 ≤ source
  pub order : source ≤ target
  pub saw : SawDurable old new durable
  pub beyond : durable < target

-- why nothing is proved between two numbers
abbrev pub ExplainsProve : KnownPass → KnownPass → ℕ → ℕ → ProveError → Type 0
ExplainsProve old new source target (proves.Order s t) = (s ≡ source) × (t ≡ target) × AreUnordered source target
ExplainsProve old new source target (proves.Beyond durable) = IsBeyond old new source target durable
ExplainsProve old new source target proves.Memory = Unit {0}

-- why there is no header of this number
abbrev pub ExplainsHeader : KnownPass → KnownPass → ℕ → ProveError → Type 0
ExplainsHeader old new k (proves.Order s t) = (s ≡ 0) × (t ≡ 0) × (k ≡ 0)
ExplainsHeader old new k (proves.Beyond durable) = IsBeyond old new k k durable
ExplainsHeader old new k proves.Memory = Unit {0}

-- why no entry is proved: the transaction has fewer entries, just so many
pub record HasFewer (old new : KnownPass) (number index state width : ℕ) : Type 0 where
  pub durable : AreDurable old new number state
  pub width_is : width ≡ length (transaction_of (history_of new.view.seen) number).entries
  pub fewer : width ≤ index

abbrev pub ExplainsEntry : KnownPass → KnownPass → ℕ → ℕ → ℕ → ItemError → Type 0
ExplainsEntry old new number index state (items.Order s t) = (s ≡ number) × (t ≡ state) × AreUnordered number state
ExplainsEntry old new number index state (items.Beyond durable) = IsBeyond old new number state durable
ExplainsEntry old new number index state (items.NoEntry width) = HasFewer old new number index state width
ExplainsEntry old new number index state items.Memory = Unit {0}

-- why there is no snapshot
abbrev pub ExplainsSnapshot : KnownPass → KnownPass → ℕ → SnapshotError → Type 0
ExplainsSnapshot old new n (reads.Beyond durable) = SawDurable old new durable × (durable < n)
ExplainsSnapshot old new n (reads.NotYet indexed) = (durable : ℕ) × SawDurable old new durable × (n ≤ durable) × SawIndexed old new indexed × (indexed < n)
ExplainsSnapshot old new n reads.Memory = Unit {0}

-- a read failed, and the pass knows of a failure. It was told as one failure more; where as many were counted as a count holds, as loaded in
-- the call, as none
pub record IsReadFault (old new : KnownPass) : Type 0 where
  pub known : 1 ≤ new.view.least.failed
  pub told : (new.view.faults ≡ old.view.faults + 1) ⊎ ((new.view.faults ≡ old.view.faults) × IsLoaded old.view.looks.failed new.view.looks.failed (2 ^ 64 - 1))
