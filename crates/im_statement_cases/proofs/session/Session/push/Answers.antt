use Rattle.std.proofs.Common.{◌≡◌, ◌∷◌, ◌++◌, List, ◌+◌, ◌≤◌, [], length, length-append, sym, ap, subst, ◌∙◌, arith}
use Rattle.im_model.specs.History.{IsHistory}
use Rattle.im_model.specs.declared.transactions.Transaction.{Transaction}
use Rattle.im_index.specs.Indexed.{Indexed}
use Rattle.im_model.proofs.HistoryLemmas.{last-bl-behind}
use Rattle.im_statement_cases.specs.Sessions.{IsSession}
use Rattle.im_statement_cases.proofs.session.Session.push.Goals as goal

pub take-requires : goal.take-requires
take-requires c =
    let txs : List Transaction = c.self.inside.transactions.items in
    let whole : length (txs ++ c.args.tx ∷ []) ≡ length txs + 1 = length-append txs (c.args.tx ∷ []) in
    let few : length (txs ++ c.args.tx ∷ []) ≤ 1048576 = (subst IsHistory (ap (λ (h : List Transaction). h ++ c.args.tx ∷ []) (sym c.self.view_is)) c.requires.history).few in
    omega (arith, whole, few, c.self.invariant.index.taken)

pub push_reserved-requires : goal.push_reserved-requires
push_reserved-requires c = omega (arith, c.in_ok-reserve.ensures.ok)

-- memory ran out before the index took it
pub invariant_of-self : goal.invariant_of-self
invariant_of-self c = subst (λ (txs : List Transaction). IsSession txs c.self.inside.index) (sym c.reserve.ensures.items) c.self.invariant

-- memory ran out while it took it
pub invariant_of-self-in_err-take : goal.invariant_of-self-in_err-take
invariant_of-self-in_err-take c =
    subst (λ (txs : List Transaction). IsSession txs c.take.new.self) (sym c.reserve.ensures.items)
    (subst (λ (indexed : Indexed). IsSession c.self.inside.transactions.items indexed) (sym c.in_err-take.ensures.left) c.self.invariant)

pub invariant_of-self-2 : goal.invariant_of-self-2
invariant_of-self-2 c =
    let txs : List Transaction = c.self.inside.transactions.items in
    subst (λ (h : List Transaction). IsSession h c.take.new.self) (sym (c.push_reserved.ensures.items ∙ ap (λ (h : List Transaction). h ++ c.args.tx ∷ []) c.reserve.ensures.items))
    (record {
      history = subst IsHistory (ap (λ (h : List Transaction). h ++ c.args.tx ∷ []) (sym c.self.view_is)) c.requires.history;
      trees = last-bl-behind 0 txs c.args.tx ∙ c.requires.tree;
      index = c.in_ok-take.ensures.taken txs c.self.invariant.index;
    })
