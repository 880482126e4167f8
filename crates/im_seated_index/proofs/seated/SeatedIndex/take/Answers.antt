use Rattle.std.proofs.Common.{rules, ◌≡◌, ℕ, List, Some, slice_get, take, arith, ap, sym, subst, ◌∙◌}
use Rattle.im_table.specs.Histories.{history_of}
use Rattle.im_table.specs.declared.items.LogItem.{LogItem}
use Rattle.im_table.specs.declared.view.View.{View}
use Rattle.im_index.specs.Indexed.{Indexed}
use Rattle.im_seated_index.specs.Seats.{HasTaken}
use Rattle.im_seated_index.proofs.SeatLemmas.{taken_count, taken_more}
use Rattle.im_seated_index.proofs.seated.SeatedIndex.take.Goals as goal

pub store_indexed-requires-clause-more : goal.store_indexed-requires-clause-more
store_indexed-requires-clause-more g c =
    let before = c.self.inside.pass.view.seen in
    let old = c.self.inside.index in
    let one = taken_count before c.args.tx.now old c.take.new.self c.self.invariant.3 (c.in_ok-take.ensures.taken (take old.taken (history_of before)) c.self.invariant.3) in
    let known : c.fetch.new.pass.view.least.indexed ≡ old.taken = search rules in
    omega (arith, known, one, c.taken-taken.ensures)

pub store_indexed-requires-clause-within : goal.store_indexed-requires-clause-within
store_indexed-requires-clause-within g c =
    let before = c.self.inside.pass.view.seen in
    let old = c.self.inside.index in
    let one = taken_count before c.args.tx.now old c.take.new.self c.self.invariant.3 (c.in_ok-take.ensures.taken (take old.taken (history_of before)) c.self.invariant.3) in
    omega (
      arith,
      one,
      c.taken-taken.ensures,
      c.requires.durable,
      ap (λ (i : Indexed). i.taken) c.self.view_is,
      c.fetch.ensures.durable.0,
    )

pub invariant_of-self : goal.invariant_of-self
invariant_of-self g c = (
  search rules,
  search rules,
  search rules,
  subst (λ (i : Indexed). HasTaken c.self.inside.pass.view.seen i) (sym c.in_err-take.ensures.left) c.self.invariant.3,
)

pub invariant_of-self-2 : goal.invariant_of-self-2
invariant_of-self-2 g c =
    let seen : View → List LogItem = λ v. v.seen in
    let before = c.self.inside.pass.view.seen in
    let mine = c.args.pass.now.view.seen in
    let list = c.fetch.new.pass.view.seen in
    let old = c.self.inside.index in
    let new = c.take.new.self in
    let next = subst (λ (i : Indexed). slice_get (history_of mine) i.taken ≡ Some c.args.tx.now) (sym c.self.view_is) c.requires.next in
    let more = taken_more before mine list c.args.tx.now old new c.self.invariant.3 c.fetch.ensures.theirs c.fetch.ensures.mine next (c.in_ok-take.ensures.taken (take old.taken (history_of before)) c.self.invariant.3) in
    let one = taken_count before c.args.tx.now old new c.self.invariant.3 (c.in_ok-take.ensures.taken (take old.taken (history_of before)) c.self.invariant.3) in
    let known : View → ℕ = λ v. v.least.durable in
    let durable : c.split.result.view.least.durable ≡ c.fetch.new.pass.view.least.durable = ap known c.split.ensures.right.1 ∙ ap known c.store_indexed.ensures.view in (
      search rules,
      search rules,
      omega (arith, one, c.requires.durable, ap (λ (i : Indexed). i.taken) c.self.view_is, c.fetch.ensures.durable.0, durable),
      subst (λ (l : List LogItem). HasTaken l new) (sym (ap seen c.split.ensures.right.1 ∙ ap seen c.store_indexed.ensures.view)) more,
    )

pub returns-clause-taken : goal.returns-clause-taken
returns-clause-taken g c =
    let before = c.self.inside.pass.view.seen in
    let old = c.self.inside.index in
    let one = taken_count before c.args.tx.now old c.take.new.self c.self.invariant.3 (c.in_ok-take.ensures.taken (take old.taken (history_of before)) c.self.invariant.3) in
    let told : c.split.new.pass.view.least.indexed ≡ c.taken-taken.result = search rules in
    (omega (arith, one, ap (λ (i : Indexed). i.taken) c.self.view_is), told ∙ c.taken-taken.ensures)

pub returns-clause-first : goal.returns-clause-first
returns-clause-first g c =
    let seen : View → List LogItem = λ v. v.seen in
    let before = c.self.inside.pass.view.seen in
    let mine = c.args.pass.now.view.seen in
    let list = c.fetch.new.pass.view.seen in
    let old = c.self.inside.index in
    let new = c.take.new.self in
    let next = subst (λ (i : Indexed). slice_get (history_of mine) i.taken ≡ Some c.args.tx.now) (sym c.self.view_is) c.requires.next in
    let more = taken_more before mine list c.args.tx.now old new c.self.invariant.3 c.fetch.ensures.theirs c.fetch.ensures.mine next (c.in_ok-take.ensures.taken (take old.taken (history_of before)) c.self.invariant.3) in
    subst (λ (l : List LogItem). HasTaken l new) (sym (ap seen c.split.ensures.left.1 ∙ ap seen c.store_indexed.ensures.view)) more
