use Rattle.std.proofs.Common.{◌∙◌, List, ap}
use Rattle.im_model.specs.History.{alhs_of}
use Rattle.im_model.specs.declared.transactions.Transaction.{Transaction}
use Rattle.im_table.specs.Histories.{history_of}
use Rattle.im_table.specs.declared.items.LogItem.{LogItem}
use Rattle.im_seated_book.proofs.seated.SeatedBook.alhs.Goals as goal

pub returns : goal.returns
returns g c =
    let hash = g.N.TipName.digest in
    c.alhs.ensures ∙ c.self.invariant.1.is_book.alhs ∙ ap (λ (l : List Transaction). alhs_of hash l) c.self.invariant.1.transactions
    ∙ ap (λ (l : List LogItem). alhs_of hash (history_of l)) c.self.view_is
