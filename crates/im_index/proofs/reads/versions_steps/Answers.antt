use Rattle.std.proofs.Common.{◌≤◌, ◌<◌, ◌+◌, ◌*◌, ◌++◌, ℕ, List, length, take, arith, ap, sym, subst, ◌∙◌}
use Rattle.std.proofs.lemmas.List.{take_all}
use Rattle.std.specs.List.{All}
use Rattle.std.specs.List.Sorted.{IsSorted}
use Rattle.im_versions.specs.declared.versions.Version.{Version}
use Rattle.im_index.specs.Marks.{found, numbered}
use Rattle.im_index.specs.Runs.{HasDigits}
use Rattle.im_index.proofs.CostLemmas.{step-cost, whole-cost}
use Rattle.im_index.proofs.HoldLemmas.{joined}
use Rattle.im_index.proofs.SpanLemmas.{found-more}
use Rattle.im_index.proofs.reads.versions_steps.Goals as goal

pub of_key-requires-clause-sorted : goal.of_key-requires-clause-sorted
of_key-requires-clause-sorted g c =
    subst (IsSorted numbered) (sym (c.as_slice.ensures ∙ c.run-item.is)) (c.requires.sorted c.loop-run.run-index c.run-item.result c.loop-run-test.true)

pub of_key-requires-clause-counted : goal.of_key-requires-clause-counted
of_key-requires-clause-counted g c =
    subst (All (λ (v : Version). 0 < v.tx)) (sym (c.as_slice.ensures ∙ c.run-item.is)) (c.requires.counted c.loop-run.run-index c.run-item.result c.loop-run-test.true)

pub loop-run-preserved : goal.loop-run-preserved
loop-run-preserved g c =
    let key = c.args.key.now in
    let n = c.args.n in
    let runs : List (List Version) = c.args.runs.now in
    let i : ℕ = c.loop-run.run-index in
    let run : List Version = c.run-item.result in
    record {
      copies = c.in_ok-copy_behind.ensures
          ∙ ap (λ vs. vs ++ c.of_key.result.now) c.loop-run.invariant.copies
          ∙ ap (λ vs. found key n (joined (take i runs)) ++ vs) (c.of_key.ensures.versions ∙ ap (found key n) c.as_slice.ensures)
          ∙ sym (found-more key n runs i run c.loop-run-test.true c.run-item.is);
      cost = λ b fits.
          (let one : HasDigits b (length c.as_slice.result.now) =
          subst (λ (r : List Version). HasDigits b (length r)) (sym (c.as_slice.ensures ∙ c.run-item.is)) (fits i run c.loop-run-test.true) in
          step-cost runs i (2 * b) _ _ _ run c.loop-run-test.true (c.loop-run.invariant.cost b fits) (c.of_key.ensures.cost b one));
    }

pub returns-in_err-copy_behind-clause-cost : goal.returns-in_err-copy_behind-clause-cost
returns-in_err-copy_behind-clause-cost g c = λ b fits.
    let runs : List (List Version) = c.args.runs.now in
    let i : ℕ = c.loop-run.run-index in
    let run : List Version = c.run-item.result in
    let one : HasDigits b (length c.as_slice.result.now) =
    subst (λ (r : List Version). HasDigits b (length r)) (sym (c.as_slice.ensures ∙ c.run-item.is)) (fits i run c.loop-run-test.true) in
    whole-cost runs (i + 1) (2 * b) _ _ (omega (arith, c.loop-run-test.true))
    (step-cost runs i (2 * b) _ _ _ run c.loop-run-test.true (c.loop-run.invariant.cost b fits) (c.of_key.ensures.cost b one))

pub returns-clause-versions : goal.returns-clause-versions
returns-clause-versions g c =
    c.from_vec.ensures
    ∙ c.loop-run.invariant.copies
    ∙ ap (λ (rs : List (List Version)). found c.args.key.now c.args.n (joined rs)) (take_all c.loop-run.run-index c.args.runs.now (omega (arith, c.loop-run-test.false)))

pub returns-clause-cost : goal.returns-clause-cost
returns-clause-cost g c = λ b fits.
    let whole = take_all c.loop-run.run-index c.args.runs.now (omega (arith, c.loop-run-test.false)) in
    subst (λ (rs : List (List Version)). c.loop-run.steps ≤ c.args.steps.now + length rs * (2 * b)) whole (c.loop-run.invariant.cost b fits)
