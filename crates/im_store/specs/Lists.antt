-- What holds of the list of a store.
use Rattle.std.specs.Prelude.{ℕ, List}
use Rattle.im_digest.specs.Digests.{Hash}
use Rattle.im_model.specs.History.{IsHistory}
use Rattle.im_seated_book.specs.Seats.{HaveReferences}
use Rattle.im_table.specs.Histories.{history_of, GoesOn}
use Rattle.im_table.specs.References.{IsLawful}
use Rattle.im_table.specs.declared.items.LogItem.{LogItem}

-- The list begins with what was found, and goes on with what was not. It is a history, and the law allows it. The values of what was not
-- found lie where the rule of the value logs puts them, and each entry has a reference, with its value's length and digest.
pub record IsListOf (allows : List LogItem → Type 0) (hash : Hash) (logs : ℕ) (found items : List LogItem) : Type 0 where
  pub goes_on : GoesOn found items
  pub history : IsHistory (history_of items)
  pub meets : IsLawful allows logs items
  pub referred : HaveReferences hash 1 items
