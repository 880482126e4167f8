use Rattle.std.proofs.Common.{rules, ◌≡◌, ◌<◌, ◌∙◌, List, Some, length, slice_get, get_or, refl, ap, arith, subst, sym}
use mathlib.Core.List.{IsPrefix}
use Rattle.im_model.specs.declared.transactions.Transaction.{Transaction}
use Rattle.im_table.specs.Histories.{history_of}
use Rattle.im_table.specs.declared.items.LogItem.{LogItem}
use Rattle.im_table.proofs.HistoryLemmas.{history_length}
use Rattle.im_store.proofs.GainLemmas.{follows_self, follows_shown, follows_then}
use Rattle.im_store.proofs.GrowLemmas.{get_here, next_stands}
use Rattle.im_store.proofs.store.Store.take_some.Goals as goal

pub loop-k-init : goal.loop-k-init
loop-k-init g c = record { follows = follows_self c.args.pass.now; looks = refl; taken = search rules; known = search rules }

-- the next transaction of the book is that of the pass's list
pub take-requires-clause-next : goal.take-requires-clause-next
take-requires-clause-next g c =
    let book = c.args.book.now in
    let i = c.loop-k.invariant in
    let begins = subst (λ (l : List LogItem). IsPrefix l c.loop-k.pass.view.seen) c.requires.seen i.follows.later.seen in
    let lt : c.loop-k.k < length (history_of book) = omega (arith, history_length book, c.requires.end.1, c.loop-k-test.true) in
    let tx : Transaction = c.index-transactions-k.result in
    let is : tx ≡ get_or (history_of book) c.loop-k.k tx =
    c.index-transactions-k.is ∙ ap (λ (l : List Transaction). get_or l c.loop-k.k tx) c.transactions.ensures in
    let here : slice_get (history_of book) c.loop-k.k ≡ Some tx = get_here (history_of book) c.loop-k.k tx lt ∙ ap (λ (t : Transaction). Some t) (sym is) in
    subst (λ n. slice_get (history_of c.loop-k.pass.view.seen) n ≡ Some tx) (sym i.taken) (next_stands book c.loop-k.pass.view.seen c.loop-k.k tx begins here)

pub loop-k-preserved : goal.loop-k-preserved
loop-k-preserved g c =
    let i = c.loop-k.invariant in
    let t = c.take in
    let e = c.in_ok-take.ensures in
    record {
      follows = follows_then 0 c.args.pass.now c.loop-k.pass t.new.pass i.follows (follows_shown c.loop-k.pass t.new.pass t.ensures.later t.ensures.adds t.ensures.looks);
      looks = t.ensures.looks ∙ i.looks;
      taken = omega (arith, e.taken.0, i.taken);
      known = omega (arith, e.taken.0, e.taken.1, i.taken);
    }

-- memory ran out
pub returns-in_err-take-clause-follows : goal.returns-in_err-take-clause-follows
returns-in_err-take-clause-follows g c =
    let t = c.take in
    follows_then 0 c.args.pass.now c.loop-k.pass t.new.pass c.loop-k.invariant.follows (follows_shown c.loop-k.pass t.new.pass t.ensures.later t.ensures.adds t.ensures.looks)

pub returns-in_err-take-clause-looks : goal.returns-in_err-take-clause-looks
returns-in_err-take-clause-looks g c = c.take.ensures.looks ∙ c.loop-k.invariant.looks
