use Rattle.std.proofs.Common.{◌≡◌, ◌≤◌, ◌<◌, ◌+◌, ◌*◌, ◌++◌, ℕ, List, length, map, take, arith, ap, sym, subst, ◌∙◌, length-append, mul-le-mul_right}
use Rattle.std.proofs.Math.Nat.{add-mul}
use Rattle.std.proofs.lemmas.List.{length-take-le, take_all}
use Rattle.std.proofs.lemmas.List.Elements.{filter_passes}
use Rattle.std.specs.BTreeMap.{IsOrdered}
use Rattle.std.specs.List.{All, filter}
use Rattle.std.specs.List.Sorted.{IsSorted}
use Rattle.std.specs.Prelude.{IsTrue}
use Rattle.im_versions.specs.Versions.{begins_with, IsScan}
use Rattle.im_versions.specs.declared.versions.Version.{Version}
use Rattle.im_index.specs.Marks.{numbered}
use Rattle.im_index.specs.Newest.{HasNewest}
use Rattle.im_index.specs.Runs.{HasDigits}
use Rattle.im_index.proofs.CostLemmas.{begun-fewer, take-longer}
use Rattle.im_index.proofs.HoldLemmas.{joined}
use Rattle.im_index.proofs.NewestLemmas.{begun-more, is_begun, is_within, looked_at, looked_at-more, looked_at-newest}
use Rattle.im_index.proofs.ScanLemmas.{both-ok, is_kept, lent_cmp, scan-newest, versions_at}
use Rattle.im_index.proofs.reads.scan_steps.Goals as goal

pub begun-requires-clause-sorted : goal.begun-requires-clause-sorted
begun-requires-clause-sorted g c =
    subst (IsSorted numbered) (sym (c.as_slice.ensures ∙ c.run-item.is)) (c.requires.sorted c.loop-run.run-index c.run-item.result c.loop-run-test.true)

pub begun-requires-clause-counted : goal.begun-requires-clause-counted
begun-requires-clause-counted g c =
    subst (All (λ (v : Version). 0 < v.tx)) (sym (c.as_slice.ensures ∙ c.run-item.is)) (c.requires.counted c.loop-run.run-index c.run-item.result c.loop-run-test.true)

pub put_last-requires : goal.put_last-requires
put_last-requires g c = c.begun.ensures.sorted

pub loop-run-preserved : goal.loop-run-preserved
loop-run-preserved g c =
    let prefix : List ℕ = c.args.prefix.now in
    let n : ℕ = c.args.n in
    let runs : List (List Version) = c.args.runs.now in
    let i : ℕ = c.loop-run.run-index in
    let run : List Version = c.run-item.result in
    let mine : c.begun.result.now ≡ filter (is_begun prefix) run =
    c.begun.ensures.versions ∙ ap (filter (is_begun prefix)) c.as_slice.ensures in
    let begins : All (λ (v : Version). IsTrue (begins_with prefix v.key)) c.begun.result.now =
    subst (All (λ (v : Version). IsTrue (begins_with prefix v.key))) (sym mine) (filter_passes (is_begun prefix) run) in
    let put = c.in_ok-put_last.ensures (looked_at prefix n (take i runs)) prefix c.loop-run.invariant.newest begins in
    record {
      newest = subst (λ (vs : List Version). HasNewest vs prefix c.put_last.new.newest)
          (ap (λ vs. looked_at prefix n (take i runs) ++ filter (is_within n) vs) mine ∙ sym (looked_at-more prefix n runs i run c.loop-run-test.true c.run-item.is)) put;
      cost = λ b fits.
          (let one : HasDigits b (length c.as_slice.result.now) =
          subst (λ (r : List Version). HasDigits b (length r)) (sym (c.as_slice.ensures ∙ c.run-item.is)) (fits i run c.loop-run-test.true) in
          omega (
            arith,
            c.loop-run.invariant.cost b fits,
            c.begun.ensures.cost b one,
            ap length mine,
            ap (λ (m : ℕ). m * (b + 1)) (take-longer runs i run c.loop-run-test.true),
            add-mul (length (take i runs)) 1 (b + 1),
            ap length (begun-more prefix runs i run c.loop-run-test.true c.run-item.is),
            length-append (filter (is_begun prefix) (joined (take i runs))) (filter (is_begun prefix) run),
          ));
    }

pub returns-in_err-put_last-clause-cost : goal.returns-in_err-put_last-clause-cost
returns-in_err-put_last-clause-cost g c = λ b fits.
    let prefix : List ℕ = c.args.prefix.now in
    let runs : List (List Version) = c.args.runs.now in
    let i : ℕ = c.loop-run.run-index in
    let run : List Version = c.run-item.result in
    let mine : c.begun.result.now ≡ filter (is_begun prefix) run =
    c.begun.ensures.versions ∙ ap (filter (is_begun prefix)) c.as_slice.ensures in
    let one : HasDigits b (length c.as_slice.result.now) =
    subst (λ (r : List Version). HasDigits b (length r)) (sym (c.as_slice.ensures ∙ c.run-item.is)) (fits i run c.loop-run-test.true) in
    let few : length (take (i + 1) runs) * (b + 1) ≤ length runs * (b + 1) =
    mul-le-mul_right {m = length (take (i + 1) runs)} {n = length runs} (b + 1) (omega (arith, length-take-le (i + 1) runs (omega (arith, c.loop-run-test.true)))) in
    omega (
      arith,
      c.loop-run.invariant.cost b fits,
      c.begun.ensures.cost b one,
      ap length mine,
      few,
      begun-fewer prefix runs (i + 1),
      ap (λ (m : ℕ). m * (b + 1)) (take-longer runs i run c.loop-run-test.true),
      add-mul (length (take i runs)) 1 (b + 1),
      ap length (begun-more prefix runs i run c.loop-run-test.true c.run-item.is),
      length-append (filter (is_begun prefix) (joined (take i runs))) (filter (is_begun prefix) run),
    )

pub returns-clause-cost : goal.returns-clause-cost
returns-clause-cost g c = λ b fits.
    let whole = take_all c.loop-run.run-index c.args.runs.now (omega (arith, c.loop-run-test.false)) in
    subst (λ (rs : List (List Version)). c.loop-run.steps ≤ c.args.steps.now + length rs * (b + 1) + length (filter (is_begun c.args.prefix.now) (joined rs))) whole
    (c.loop-run.invariant.cost b fits)

pub returns-clause-scan : goal.returns-clause-scan
returns-clause-scan g c = λ history are.
    let prefix : List ℕ = c.args.prefix.now in
    let n : ℕ = c.args.n in
    let newest = c.loop-run.newest in
    let whole = take_all c.loop-run.run-index c.args.runs.now (omega (arith, c.loop-run-test.false)) in
    let has = subst (λ (rs : List (List Version)). HasNewest (looked_at prefix n rs) prefix newest) whole c.loop-run.invariant.newest in
    both-ok c.live_of.result (λ live. map (λ v. v.now) live.items ≡ filter is_kept (versions_at newest.entries)) (IsOrdered lent_cmp newest)
    (λ live. IsScan (take n history) prefix (map (λ v. v.now) live.items))
    (λ live is ordered. scan-newest (take n history) prefix newest (map (λ v. v.now) live.items) ordered
    (looked_at-newest prefix n c.args.runs.now history newest are has) is)
    c.live_of.ensures.live c.live_of.ensures.ordered
