-- What is known of a store that was closed.
use Rattle.std.specs.Prelude.{◌≡◌, ◌+◌, ◌≤◌, ℕ, ℤ, List, length, true, Option, IfSome}
use Rattle.std.specs.List.{All, sum_by}
use mathlib.Core.List.{IsPrefix}
use Rattle.im_digest.specs.Digests.{Hash}
use Rattle.im_disk.specs.Disk.{Told, seen}
use Rattle.im_disk.specs.Moments.{Leaves, LeavesNow}
use Rattle.im_format.specs.Standing.{Stands, StandsFrom}
use Rattle.im_model.specs.History.{IsHistory}
use Rattle.im_seated_book.specs.Seats.{HasTimed, HaveReferences}
use Rattle.im_seated_journal.specs.Calls.{MakesBatches, StandsPut}
use Rattle.im_seated_journal.specs.Seats.{RoseBy}
use Rattle.im_table.specs.Histories.{history_of, GoesOn}
use Rattle.im_table.specs.Known.{KnownPass, TableId}
use Rattle.im_table.specs.References.{IsLawful}
use Rattle.im_table.specs.Views.{placed_by}
use Rattle.im_model.specs.Counts.{times}
use Rattle.im_table.specs.declared.items.LogItem.{LogItem}

abbrev pub weight_in : KnownPass → ℕ
weight_in p = p.view.weight

abbrev pub leaves_linked : KnownPass → ℕ
leaves_linked p = p.view.leaves

-- how many failures a pass told
abbrev pub failures_told : KnownPass → ℕ
failures_told p = p.view.faults

-- how often a number stands among a pass's own
abbrev pub own_count : ℕ → KnownPass → ℕ
own_count k p = times k p.view.own

-- a pass that has all roles
abbrev pub HoldsAll : TableId → KnownPass → Type 0
HoldsAll table p = (p.table ≡ table) × (p.view.roles ≡ record { journal = true; index = true; book = true; tree = true })

-- these passes have the whole weight
abbrev pub AreAll : List KnownPass → Type 0
AreAll passes = sum_by weight_in passes ≡ 1048576

-- There is one list. It begins with what was found, and with the list of each pass that was handed in. The law allows it, the values of
-- what was not found lie where the rule of the value logs puts them, and each entry has a reference, with its value's length and digest.
-- Each image stands for a front part of the list, which holds what any of the passes knows to be durable; and at each moment since the disk
-- was opened each image stood for one not shorter than what was found. The calls that the disk got since then are those of batches of the
-- list, one after the other, and of a last one as far as they came. The disk has failed since at least as often as any of the passes knows.
-- Where none of its calls failed, and all of the list is durable, each image stands for the whole of it, and so does what reads give, the
-- values put by the rule. None of the passes knows of more leaves than the tree has. Where they have the whole weight, their own numbers are
-- those of all that was not found, each once; the tree has grown by their leaves; the failures are those that they told; and where they told
-- none, the disk counted none. The clock gave the times of what was placed, in order.
pub record ClosesStore {D : Type 0} (allows : List LogItem → Type 0) (told : D → Option Told) (faults : D → ℕ) (hash : Hash) (logs : ℕ) (found : List LogItem) (synced : Option Told) (before : ℕ)
    (time : Option ℤ) (given : Option (List ℤ)) (passes : List KnownPass) (disk : D) (constant : Option ℤ) (now : Option (List ℤ)) : Type 0 where
  pub items : List LogItem
  pub goes_on : GoesOn found items
  pub history : IsHistory (history_of items)
  pub meets : IsLawful allows logs items
  pub referred : HaveReferences hash 1 items
  pub begins : All (λ p. IsPrefix p.view.seen items) passes
  pub durable : ℕ
  pub within : durable ≤ length items
  pub known : All (λ p. p.view.least.durable ≤ durable) passes
  pub images : LeavesNow (StandsFrom hash durable (history_of items)) (told disk)
  pub moments : Leaves (StandsFrom hash (length found) (history_of items)) synced (told disk)
  pub calls : MakesBatches hash logs (length found) durable (history_of items) synced (told disk)
  pub failures : ℕ
  pub rose : RoseBy before (faults disk) failures
  pub failed : All (λ p. p.view.least.failed ≤ failures) passes
  pub counted : AreAll passes → sum_by failures_told passes ≡ failures
  pub sound : AreAll passes → All (λ p. p.view.faults ≡ 0) passes → failures ≡ 0
  pub calm : AreAll passes → All (λ p. p.view.faults ≡ 0) passes → faults disk ≡ before
  pub whole : failures ≡ 0 → durable ≡ length items → LeavesNow (λ image. Stands hash image (history_of items)) (told disk)
  pub here : failures ≡ 0 → durable ≡ length items → IfSome (told disk) (λ t. StandsPut hash logs (length found) (history_of items) (seen t))
  pub owned : AreAll passes → (k : ℕ) → sum_by (own_count k) passes ≡ times k (placed_by items)
  pub linked : ℕ
  pub tree : linked ≤ durable
  pub grown : AreAll passes → sum_by leaves_linked passes + length found ≡ linked
  pub raised : All (λ p. p.view.least.linked ≤ linked) passes
  pub timed : HasTimed time constant given now found items
