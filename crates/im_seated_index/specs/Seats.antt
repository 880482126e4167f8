-- The index of a list of items.
use Rattle.std.specs.Prelude.{List, take}
use Rattle.im_table.specs.Histories.{history_of}
use Rattle.im_table.specs.declared.items.LogItem.{LogItem}
use Rattle.im_index.specs.Indexed.{Indexed, IsIndexOf}

-- the index has the first of these items, as many as it says
abbrev pub HasTaken : List LogItem → Indexed → Type 0
HasTaken items index = IsIndexOf index (take index.taken (history_of items))
