use Rattle.std.proofs.Common.{◌≡◌, ◌∙◌, ap, sym, subst, arith, pos, List, length}
use Rattle.im_model.specs.History.{IsHistory, IsTransaction}
use Rattle.im_model.specs.declared.entries.Entry.{Entry}
use Rattle.im_model.specs.declared.transactions.Transaction.{Transaction}
use Rattle.im_tx.specs.Asked.{Asked, IsAsked}
use Rattle.im_book.specs.Booked.{last_bl}
use Rattle.im_model.proofs.HistoryLemmas.{last-bl-behind}
use Rattle.im_book.proofs.BookLemmas.{history-behind}
use Rattle.im_tests_history.proofs.books.set_behind.Goals as goal

pub returns-clause-history : goal.returns-clause-history
returns-clause-history c =
    let history : List Transaction = c.args.history.now.items in
    let asked : Asked = c.in_ok-setting.field-0 in
    let entries : List Entry = c.into_parts-entries.result.0 in
    let same : entries ≡ asked.entries = c.into_parts-entries.ensures.entries in
    let fine : IsAsked asked = c.into_parts-entries.ensures.asked in
    let tx : Transaction = record { ts = pos 0; entries = entries; bl = c.args.bl } in
    let T : List Entry → Type 0 = λ es. IsTransaction (length history) (record { ts = pos 0; entries = es; bl = c.args.bl }) in
    let limits : IsTransaction (length history) tx =
    subst T (sym same) (record { some = fine.some; few = fine.few; entries = fine.each; distinct = fine.distinct; linked = c.requires.over.1; timed = omega arith }) in
    subst (λ (txs : List Transaction). IsHistory txs) (sym c.in_ok-push.ensures.items) (history-behind history tx c.requires.history c.requires.room limits c.requires.over.0)

pub returns-clause-last : goal.returns-clause-last
returns-clause-last c =
    let tx : Transaction = record { ts = pos 0; entries = c.into_parts-entries.result.0; bl = c.args.bl } in
    ap (λ (txs : List Transaction). last_bl txs) c.in_ok-push.ensures.items ∙ last-bl-behind 0 c.args.history.now.items tx
