use Rattle.std.proofs.Common.{ℕ, ◌≡◌, ◌≤◌, ◌+◌, ◌*◌, ◌∙◌, ap, sym, subst, List, [], ◌∷◌, take, length, length-append, Some}
use Rattle.std.proofs.lemmas.Iterator.Adapters.{YieldsList-from_vec}
use Rattle.std.proofs.lemmas.Iterator.Consumers.{YieldsList-so_far, YieldsList-turn}
use Rattle.std.proofs.lemmas.List.{map-id}
use Rattle.im_octet.proofs.Common.{if-err}
use Rattle.im_draft.specs.declared.preconditions.Pre.{Pre}
use Rattle.im_versions.specs.Admits.{first_refusal, refusal_of}
use Rattle.im_versions.specs.declared.refusals.PlaceError.{PlaceError}
use Rattle.im_book.proofs.JudgeLemmas.{held-more, refused-at}
use Rattle.im_book.proofs.KeyedLemmas.{judged-cost, judged-more}
use Rattle.im_book.proofs.judging.judge_each.Goals as goal

pub loop-pre-preserved : goal.loop-pre-preserved
loop-pre-preserved g c = record {
  none = held-more c.args.placed.now.transactions c.loop-pre.yielded c.in-Some.pre c.loop-pre.invariant.none c.in_ok-judge_one.ensures.admitted;
  cost = λ keyed b fits.
      subst (λ (n : ℕ). c.judge_one.new.steps ≤ c.args.steps.now + n * (b * (b + 1))) (sym (length-append c.loop-pre.yielded (c.in-Some.pre ∷ [])))
      (judged-more (length c.loop-pre.yielded) (b * (b + 1)) _ _ _ (c.loop-pre.invariant.cost keyed b fits) (c.in_ok-judge_one.ensures.cost keyed b fits));
}

pub returns-in_err-judge_one-clause-cost : goal.returns-in_err-judge_one-clause-cost
returns-in_err-judge_one-clause-cost g c = λ keyed b fits.
    let items : List Pre = c.into_vec-pre-items.result.items in
    let gives = c.into_iter-pre-iterator.ensures.into_iter_gives in
    let each = YieldsList-from_vec {s = c.into_iter-pre-iterator.result} items gives.0 (gives.1 ∙ c.into_vec-pre-items.result.ok.0) in
    let turn = YieldsList-turn each c.loop-pre.yielded c.loop-pre.pre-iterator c.loop-pre.yielded_by c.next.result c.next.new.self c.in-Some.pre c.in-Some.is c.next.ensures.steps in
    subst (λ (ps : List Pre). c.judge_one.new.steps ≤ c.args.steps.now + length ps * (b * (b + 1))) c.into_vec-pre-items.ensures
    (judged-cost (length c.loop-pre.yielded) (length items) (b * (b + 1)) _ _ _ turn.0 (c.loop-pre.invariant.cost keyed b fits) (c.in_err-judge_one.ensures.cost keyed b fits))

pub returns-in_err-judge_one-clause-refused : goal.returns-in_err-judge_one-clause-refused
returns-in_err-judge_one-clause-refused g c =
    let items : List Pre = c.into_vec-pre-items.result.items in
    let n : ℕ = length c.loop-pre.yielded in
    let gives = c.into_iter-pre-iterator.ensures.into_iter_gives in
    let each = YieldsList-from_vec {s = c.into_iter-pre-iterator.result} items gives.0 (gives.1 ∙ c.into_vec-pre-items.result.ok.0) in
    let front = YieldsList-so_far each c.loop-pre.yielded c.loop-pre.pre-iterator c.loop-pre.yielded_by in
    let turn = YieldsList-turn each c.loop-pre.yielded c.loop-pre.pre-iterator c.loop-pre.yielded_by c.next.result c.next.new.self c.in-Some.pre c.in-Some.is c.next.ensures.steps in
    let first : take n items ≡ c.loop-pre.yielded = sym front ∙ map-id c.loop-pre.yielded in
    let refused : first_refusal c.args.placed.now.transactions items ≡ Some (refusal_of c.args.placed.now.transactions c.in-Some.pre) =
    refused-at c.args.placed.now.transactions items n c.in-Some.pre (ap (first_refusal c.args.placed.now.transactions) first ∙ c.loop-pre.invariant.none) turn.0 turn.1 c.in_err-judge_one.ensures.refused.0 in
    if-err (λ (why : PlaceError). first_refusal c.args.placed.now.transactions c.args.pres ≡ Some why) c.from_residual.result c.in_err-judge_one.field-0.0 c.from_residual.ensures.1
    (ap (first_refusal c.args.placed.now.transactions) (sym c.into_vec-pre-items.ensures) ∙ refused ∙ ap (λ (e : PlaceError). Some e) c.in_err-judge_one.ensures.refused.1)
