use Rattle.std.proofs.Common.{◌∙◌, List, length, ap}
use Rattle.im_model.specs.declared.transactions.Transaction.{Transaction}
use Rattle.im_table.specs.declared.items.LogItem.{LogItem}
use Rattle.im_table.proofs.HistoryLemmas.{history_length}
use Rattle.im_seated_book.proofs.seated.SeatedBook.len.Goals as goal

pub returns : goal.returns
returns g c =
    c.len.ensures ∙ ap (λ (l : List Transaction). length l) c.self.invariant.1.transactions ∙ history_length c.self.inside.pass.view.seen
    ∙ ap (λ (l : List LogItem). length l) c.self.view_is
