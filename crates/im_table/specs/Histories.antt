-- The history that a list of items says.
use Rattle.std.specs.Prelude.{◌≡◌, List, ◌++◌, false, map}
use Rattle.std.specs.List.{All}
use Rattle.im_model.specs.declared.transactions.Transaction.{Transaction}
use Rattle.im_table.specs.declared.items.LogItem.{LogItem}

-- the transactions of these items, in order
abbrev pub history_of : List LogItem → List Transaction
history_of items = map (λ item. item.tx) items

-- the list begins with what was found, and goes on with what was not
pub record GoesOn (found list : List LogItem) : Type 0 where
  pub rest : List LogItem
  pub begins : list ≡ found ++ rest
  pub fresh : All (λ item. item.found ≡ false) rest
