-- What was found as the store was opened.
use Rattle.std.specs.Prelude.{◌≡◌, List, true}
use Rattle.std.specs.List.{All}
use Rattle.im_sqlmodel.specs.Kept.{IsSqlKept}
use Rattle.im_table.specs.Histories.{history_of}
use Rattle.im_table.specs.declared.items.LogItem.{LogItem}

-- what was found as the store was opened: its keys that begin with octet 00 are SQL's, and each item is marked
pub record IsFoundKept (found : List LogItem) : Type 0 where
  pub marked : All (λ item. item.found ≡ true) found
  pub kept : IsSqlKept (history_of found)
