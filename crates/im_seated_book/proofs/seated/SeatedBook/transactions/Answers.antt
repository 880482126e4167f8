use Rattle.std.proofs.Common.{◌∙◌, List, ap}
use Rattle.im_table.specs.Histories.{history_of}
use Rattle.im_table.specs.declared.items.LogItem.{LogItem}
use Rattle.im_seated_book.proofs.seated.SeatedBook.transactions.Goals as goal

pub returns : goal.returns
returns g c = c.transactions.ensures ∙ c.self.invariant.1.transactions ∙ ap (λ (l : List LogItem). history_of l) c.self.view_is
