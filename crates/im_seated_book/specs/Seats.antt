-- What lies under the book's lock, and what a place tells.
use Rattle.std.specs.Prelude.{◌≡◌, ◌+◌, ◌≤◌, ◌++◌, ◌∷◌, [], ℕ, ℤ, List, length, map, drop, false, All, None, Option, IfSome}
use mathlib.Core.List.{IsPrefix}
use Rattle.im_digest.specs.Digests.{Hash}
use Rattle.im_edge.specs.Clocks.{AddsTimes}
use Rattle.im_model.specs.declared.entries.Entry.{Entry}
use Rattle.im_format.specs.Records.{AreReferences}
use Rattle.im_format.specs.declared.references.ValueRef.{ValueRef}
use Rattle.im_tx.specs.Asked.{Asked}
use Rattle.im_versions.specs.Admits.{place_refusal}
use Rattle.im_vlog.specs.Ends.{AreEnds, HaveRoom}
use Rattle.im_table.specs.Histories.{history_of, GoesOn}
use Rattle.im_table.specs.Known.{KnownPass}
use Rattle.im_table.specs.Passes.{AddsNumber}
use Rattle.im_table.specs.References.{references_of}
use Rattle.im_table.specs.declared.items.LogItem.{LogItem}
use Rattle.im_book.specs.Booked.{Booked, IsBook}

-- the references of these items, of which the first has this number, fit the values of its entries
abbrev pub HaveReferences : Hash → ℕ → List LogItem → Type 0
HaveReferences hash number [] = Unit {0}
HaveReferences hash number (item ∷ items) = AreReferences hash number item.tx.entries item.refs × HaveReferences hash (number + 1) items

-- the book and the references are those of these items, which begin with what was found, and the value logs end behind
-- their values
pub record HoldsItems (hash : Hash) (found items : List LogItem) (book : Booked) (refs : List (List ValueRef)) (ends : List ℕ) : Type 0 where
  pub transactions : book.transactions ≡ history_of items
  pub is_book : IsBook hash book
  pub goes_on : GoesOn found items
  pub refs_are : refs ≡ map (λ item. item.refs) items
  pub referred : HaveReferences hash 1 items
  pub ends_are : AreEnds ends (references_of items)
  pub room : HaveRoom (length items + 1) ends

-- the times of the items that were not found, in order
abbrev pub times_behind : List LogItem → List LogItem → List ℤ
times_behind found items = map (λ item. item.tx.ts) (drop (length found) items)

-- the clock always gives this time, where it tells one: each item that was not found has it; and since it had given these it
-- gave those of the items that were not found
pub record HasTimed (time constant : Option ℤ) (before now : Option (List ℤ)) (found items : List LogItem) : Type 0 where
  pub same : constant ≡ time
  pub timed : IfSome time (λ t. All (λ ts. ts ≡ t) (times_behind found items))
  pub given : AddsTimes before now (times_behind found items)

-- of each list that begins with this one, that the law allows, and behind which what was asked may be placed, the law
-- allows the list with it
abbrev pub MayBePlaced : (List LogItem → Type 0) → List LogItem → Asked → Type 0
MayBePlaced allows seen asked =
    (items : List LogItem) → IsPrefix seen items → allows items → place_refusal (history_of items) asked.pres ≡ None
    → (item : LogItem) → item.found ≡ false → item.tx.entries ≡ asked.entries → allows (items ++ item ∷ [])

-- a transaction of these entries was placed behind these items, over a tree of this size, at the time that the clock always
-- gives, where it tells one
pub record IsPut (items : List LogItem) (entries : List Entry) (bl : ℕ) (time : Option ℤ) (old new : KnownPass) (number : ℕ) : Type 0 where
  pub item : LogItem
  pub number_is : number ≡ length items + 1
  pub fresh : item.found ≡ false
  pub entries_are : item.tx.entries ≡ entries
  pub bl_is : item.tx.bl ≡ bl
  pub timed : IfSome time (λ t. item.tx.ts ≡ t)
  pub seen : new.view.seen ≡ items ++ item ∷ []
  pub adds : AddsNumber number old new
  pub least : old.view.least.linked ≤ bl
  pub most : bl ≤ new.view.least.linked

-- it was asked for, and its preconditions hold behind these items
pub record IsPlaced (items : List LogItem) (asked : Asked) (bl : ℕ) (time : Option ℤ) (old new : KnownPass) (number : ℕ) : Type 0 where
  pub put : IsPut items asked.entries bl time old new number
  pub admitted : place_refusal (history_of items) asked.pres ≡ None
