use Rattle.std.proofs.Common.{◌≡◌, ◌∙◌, List, [], ◌∷◌, ◌++◌, ◌+◌, take, take_all, ap, sym, subst, arith}
use Rattle.std.proofs.lemmas.List.{take_more}
use Rattle.im_model.specs.declared.transactions.Transaction.{Transaction}
use Rattle.im_plain.specs.Listed.{IsListOf}
use Rattle.im_tests_history.proofs.indexes.list_of.Goals as goal

pub loop-tx-preserved : goal.loop-tx-preserved
loop-tx-preserved c =
    let history : List Transaction = c.args.history.now in
    let i = c.loop-tx.tx-index in
    let front : List Transaction = take i history in
    let more : take (i + 1) history ≡ front ++ c.tx-item.result ∷ [] = take_more history i c.tx-item.result (omega arith) ∙ ap (λ (tx : Transaction). front ++ tx ∷ []) (sym c.tx-item.is) in
    subst (IsListOf c.take.new.self) (sym more) (c.in_ok-take.ensures.taken front c.loop-tx.invariant)

pub returns : goal.returns
returns c = subst (IsListOf c.loop-tx.index) (take_all c.loop-tx.tx-index c.args.history.now (omega arith)) c.loop-tx.invariant
