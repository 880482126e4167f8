use Rattle.std.proofs.Common.{rules, ◌≡◌, ◌≤◌, ◌∙◌, ℕ, List, length, refl, ap, sym, arith}
use Rattle.im_index.specs.Indexed.{Indexed}
use Rattle.im_table.specs.declared.items.LogItem.{LogItem}
use Rattle.im_table.specs.declared.view.AllLooks.{AllLooks}
use Rattle.im_table.proofs.HistoryLemmas.{history_length}
use Rattle.im_store.proofs.GainLemmas.{follows_placed, follows_self, follows_then}
use Rattle.im_store.proofs.store.Store.take_to.Goals as goal

pub loop-init : goal.loop-init
loop-init g c = record { can = tt; finite = tt; follows = follows_self c.args.pass.now; durable = refl; indexed = refl; taken = c.requires.taken }

-- the book is shown, and then its next transactions are taken
pub take_some-requires-clause-seen : goal.take_some-requires-clause-seen
take_some-requires-clause-seen g c =
    let same : c.deref.result.now ≡ c.show.new.self = search rules in
    c.show.ensures.seen.0 ∙ sym same

pub take_some-requires-clause-few : goal.take_some-requires-clause-few
take_some-requires-clause-few g c =
    let same : c.deref.result.now ≡ c.show.new.self = search rules in
    omega (arith, c.show.ensures.history.few, history_length c.show.new.self, ap (λ (l : List LogItem). length l) same)

pub take_some-requires-clause-end : goal.take_some-requires-clause-end
take_some-requires-clause-end g c =
    let i = c.loop.invariant in
    let show = c.show.ensures in
    let same : c.deref.result.now ≡ c.show.new.self = search rules in
    let next : ℕ = c.min-next.result in
    let known : next ≤ c.show.new.pass.view.least.durable = omega (arith, c.requires.end, i.follows.later.durable, show.later.durable) in
    let long : next ≤ length c.deref.result.now = omega (arith, known, show.durable, show.seen.1, ap (λ (l : List LogItem). length l) same) in
    (known, long)

pub take_some-requires-clause-taken : goal.take_some-requires-clause-taken
take_some-requires-clause-taken g c =
    let i = c.loop.invariant in
    let le : c.loop.index.taken ≤ c.min-next.result = omega (arith, i.taken.0, c.taken-taken.ensures, ap (λ (x : Indexed). x.taken) c.index.ensures) in
    let known : c.loop.index.taken ≤ c.show.new.pass.view.least.indexed = omega (arith, i.taken.1, c.show.ensures.later.indexed) in
    (le, known)

pub loop-preserved : goal.loop-preserved
loop-preserved g c =
    let i = c.loop.invariant in
    let show = c.show in
    let take = c.take_some in
    let a = follows_then 0 c.args.pass.now c.loop.pass show.new.pass i.follows (follows_placed show.result c.loop.pass show.new.pass show.ensures.later show.ensures.adds show.ensures.looks) in
    let taken = c.in_ok-take_some.ensures.taken in
    record {
      can = tt;
      finite = tt;
      follows = follows_then 0 c.args.pass.now show.new.pass take.new.pass a take.ensures.follows;
      durable = ap (λ (l : AllLooks). l.durable) take.ensures.looks ∙ ap (λ (l : AllLooks). l.durable) show.ensures.looks ∙ i.durable;
      indexed = ap (λ (l : AllLooks). l.indexed) take.ensures.looks ∙ ap (λ (l : AllLooks). l.indexed) show.ensures.looks ∙ i.indexed;
      taken = (omega (arith, taken.0), omega (arith, taken.0, taken.1));
    }

-- it has them
pub returns-then-taken-end-clause-taken : goal.returns-then-taken-end-clause-taken
returns-then-taken-end-clause-taken g c = omega (arith, c.loop.invariant.taken.0, c.loop.invariant.taken.1, c.taken-taken.ensures, ap (λ (x : Indexed). x.taken) c.index.ensures)

-- memory ran out
pub returns-in_err-take_some-clause-follows : goal.returns-in_err-take_some-clause-follows
returns-in_err-take_some-clause-follows g c =
    let show = c.show in
    let a = follows_then 0 c.args.pass.now c.loop.pass show.new.pass c.loop.invariant.follows
    (follows_placed show.result c.loop.pass show.new.pass show.ensures.later show.ensures.adds show.ensures.looks) in
    follows_then 0 c.args.pass.now show.new.pass c.take_some.new.pass a c.take_some.ensures.follows

pub returns-in_err-take_some-clause-loads : goal.returns-in_err-take_some-clause-loads
returns-in_err-take_some-clause-loads g c = (
  ap (λ (l : AllLooks). l.durable) c.take_some.ensures.looks ∙ ap (λ (l : AllLooks). l.durable) c.show.ensures.looks ∙ c.loop.invariant.durable,
  ap (λ (l : AllLooks). l.indexed) c.take_some.ensures.looks ∙ ap (λ (l : AllLooks). l.indexed) c.show.ensures.looks ∙ c.loop.invariant.indexed,
)
