use Rattle.std.proofs.Common.{◌≡◌, List, IfOk, take, subst, ◌∙◌, arith}
use Rattle.std.proofs.lemmas.List.{take_all}
use Rattle.im_model.specs.History.{IsHistory}
use Rattle.im_model.specs.declared.transactions.Transaction.{Transaction}
use Rattle.im_index.specs.Indexed.{IsSnapshotOf}
use Rattle.im_statement_cases.proofs.session.Session.view.Goals as goal

pub snapshot-requires : goal.snapshot-requires
snapshot-requires c = omega (arith, c.taken.ensures)

pub returns-clause-view : goal.returns-clause-view
returns-clause-view c =
    let txs : List Transaction = c.self.inside.transactions.items in
    let whole : take c.taken.result txs ≡ txs = take_all c.taken.result txs (omega (arith, c.taken.ensures, c.self.invariant.index.taken)) in
    subst (λ (h : List Transaction). IfOk c.snapshot.result (λ view. IsSnapshotOf view h)) (whole ∙ c.self.view_is) (c.snapshot.ensures.history txs c.self.invariant.index)

pub returns-clause-history : goal.returns-clause-history
returns-clause-history c = subst IsHistory c.self.view_is c.self.invariant.history
