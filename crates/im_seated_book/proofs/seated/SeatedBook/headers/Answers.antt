use Rattle.std.proofs.Common.{◌∙◌, List, ap}
use Rattle.im_model.specs.declared.transactions.Transaction.{Transaction}
use Rattle.im_proof.specs.Built.{headers_of}
use Rattle.im_table.specs.Histories.{history_of}
use Rattle.im_table.specs.declared.items.LogItem.{LogItem}
use Rattle.im_seated_book.proofs.seated.SeatedBook.headers.Goals as goal

pub returns : goal.returns
returns g c =
    let hash = g.N.TipName.digest in
    c.headers.ensures ∙ c.self.invariant.1.is_book.headers ∙ ap (λ (l : List Transaction). headers_of hash l) c.self.invariant.1.transactions
    ∙ ap (λ (l : List LogItem). headers_of hash (history_of l)) c.self.view_is
