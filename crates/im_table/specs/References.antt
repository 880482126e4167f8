-- Where the values of the list that threads share lie.
use Rattle.std.specs.Prelude.{◌≡◌, ◌+◌, ℕ, List, [], ◌∷◌, ◌++◌, false, length, map}
use Rattle.std.specs.List.{All}
use Rattle.im_format.specs.Places.{AreAppended}
use Rattle.im_model.specs.declared.entries.Entry.{Entry}
use Rattle.im_format.specs.declared.references.ValueRef.{ValueRef}
use Rattle.im_table.specs.declared.items.LogItem.{LogItem}

-- the references of these, in order
abbrev pub references_of : List LogItem → List ValueRef
references_of [] = []
references_of (item ∷ items) = item.refs ++ references_of items

-- of the items with rising numbers, from this one on, that follow others with these references: the values of each one
-- that was not found lie where the rule of this number of value logs puts them, behind all before; those of one that
-- was found lie where they were found
abbrev pub AreLaid : ℕ → ℕ → List ValueRef → List LogItem → Type 0
AreLaid logs number before [] = Unit {0}
AreLaid logs number before (item ∷ items) =
    (item.found ≡ false → AreAppended logs number 0 before item.refs) × AreLaid logs (number + 1) (before ++ item.refs) items

-- there is a reference for each entry, with its value's length
abbrev pub HaveLengths : List Entry → List ValueRef → Type 0
HaveLengths entries refs = map (λ ref. ref.len) refs ≡ map (λ entry. length entry.value) entries

-- the law holds of the list; its values lie where they should; and each entry of an item that was not found has a
-- reference, with its value's length
pub record IsLawful (allows : List LogItem → Type 0) (logs : ℕ) (items : List LogItem) : Type 0 where
  pub law : allows items
  pub laid : AreLaid logs 1 [] items
  pub sized : All (λ item. item.found ≡ false → HaveLengths item.tx.entries item.refs) items
