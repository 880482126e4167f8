use Rattle.std.proofs.Common.{◌<◌, ◌++◌, ℕ, List, ap, sym, subst, take, ◌∙◌, arith}
use Rattle.std.proofs.lemmas.List.{take_all}
use Rattle.std.specs.List.{All, filter}
use Rattle.std.specs.List.Sorted.{IsSorted}
use Rattle.im_versions.specs.Changes.{AreChanges}
use Rattle.im_versions.specs.declared.versions.Version.{Version}
use Rattle.im_index.specs.Marks.{numbered}
use Rattle.im_index.proofs.ChangeLemmas.{looked_at-changes}
use Rattle.im_index.proofs.NewestLemmas.{is_begun, is_within, looked_at, looked_at-more}
use Rattle.im_index.proofs.changes.changes_counted.Goals as goal

pub begun-requires-clause-sorted : goal.begun-requires-clause-sorted
begun-requires-clause-sorted g c =
    subst (IsSorted numbered) (sym (c.as_slice.ensures ∙ c.run-item.is)) (c.requires.sorted c.loop-run.run-index c.run-item.result c.loop-run-test.true)

pub begun-requires-clause-counted : goal.begun-requires-clause-counted
begun-requires-clause-counted g c =
    subst (All (λ (v : Version). 0 < v.tx)) (sym (c.as_slice.ensures ∙ c.run-item.is)) (c.requires.counted c.loop-run.run-index c.run-item.result c.loop-run-test.true)

pub loop-run-preserved : goal.loop-run-preserved
loop-run-preserved g c =
    let prefix : List ℕ = c.args.prefix.now in
    let n : ℕ = c.args.n in
    let runs : List (List Version) = c.args.runs.now in
    let i : ℕ = c.loop-run.run-index in
    let run : List Version = c.run-item.result in
    let mine = c.begun.ensures.versions ∙ ap (filter (is_begun prefix)) c.as_slice.ensures in
    c.in_ok-copy_within.ensures
    ∙ ap (λ (vs : List Version). vs ++ filter (is_within n) c.begun.result.now) c.loop-run.invariant
    ∙ ap (λ (vs : List Version). looked_at prefix n (take i runs) ++ filter (is_within n) vs) mine
    ∙ sym (looked_at-more prefix n runs i run c.loop-run-test.true c.run-item.is)

pub returns : goal.returns
returns g c = λ history are.
    let prefix : List ℕ = c.args.prefix.now in
    let n : ℕ = c.args.n in
    let whole = take_all c.loop-run.run-index c.args.runs.now (omega (arith, c.loop-run-test.false)) in
    subst (λ (vs : List Version). AreChanges (take n history) prefix vs)
    (sym (c.from_vec.ensures ∙ c.loop-run.invariant ∙ ap (looked_at prefix n) whole))
    (looked_at-changes prefix n c.args.runs.now history are)
