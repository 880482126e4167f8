use Rattle.std.proofs.Common.{◌≡◌, List, length, arith, ap, sym, subst, ◌∙◌, None}
use Rattle.std.specs.List.{last_or}
use Rattle.std.specs.List.Sorted.{IsSorted}
use Rattle.im_versions.specs.declared.versions.Version.{Version}
use Rattle.im_index.specs.Marks.{found, numbered}
use Rattle.im_index.specs.Runs.{HasDigits}
use Rattle.im_index.proofs.FoundLemmas.{looked-end, looked-first, looked-next, looked-some, looked-sorted, looked-steps}
use Rattle.im_index.proofs.search.last_of.Goals as goal

pub loop-run-init : goal.loop-run-init
loop-run-init g c = looked-first c.args.runs.now c.args.key.now c.args.n _ c.requires

pub last_in-requires : goal.last_in-requires
last_in-requires g c =
    subst (IsSorted numbered) (sym c.as_slice.ensures)
    (looked-sorted c.args.runs.now c.loop-run.older.now c.in-Some.before.now c.in-Some.run'.now c.args.key.now c.args.n _ _ c.loop-run.invariant c.in-Some.ensures.cases.0)

pub loop-run-preserved : goal.loop-run-preserved
loop-run-preserved g c =
    let key = c.args.key.now in
    let n = c.args.n in
    let own : c.as_slice.result.now ≡ c.in-Some.run'.now = c.as_slice.ensures in
    looked-next c.args.runs.now c.loop-run.older.now c.in-Some.before.now c.in-Some.run'.now key n _ _ _ c.loop-run.invariant c.in-Some.ensures.cases.0
    (sym (c.in_default-last_in.ensures.last ∙ ap (λ (r : List Version). last_or None (found key n r)) own))
    (λ b fits. c.in_default-last_in.ensures.cost b (subst (λ (r : List Version). HasDigits b (length r)) (sym own) fits))

pub returns-in-Some-last_in-clause-last : goal.returns-in-Some-last_in-clause-last
returns-in-Some-last_in-clause-last g c =
    let key = c.args.key.now in
    let n = c.args.n in
    let own : c.as_slice.result.now ≡ c.in-Some.run'.now = c.as_slice.ensures in
    looked-some c.args.runs.now c.loop-run.older.now c.in-Some.before.now c.in-Some.run'.now key n _ _ c.in-Some-last_in.version.now c.loop-run.invariant c.in-Some.ensures.cases.0
    (sym (c.in-Some-last_in.ensures.last ∙ ap (λ (r : List Version). last_or None (found key n r)) own))

pub returns-in-Some-last_in-clause-cost : goal.returns-in-Some-last_in-clause-cost
returns-in-Some-last_in-clause-cost g c =
    let own : c.as_slice.result.now ≡ c.in-Some.run'.now = c.as_slice.ensures in
    looked-steps c.args.runs.now c.loop-run.older.now c.in-Some.before.now c.in-Some.run'.now c.args.key.now c.args.n _ _ _ c.loop-run.invariant c.in-Some.ensures.cases.0
    (λ b fits. c.in-Some-last_in.ensures.cost b (subst (λ (r : List Version). HasDigits b (length r)) (sym own) fits))

pub returns-clause-last : goal.returns-clause-last
returns-clause-last g c = looked-end c.args.runs.now c.loop-run.older.now c.args.key.now c.args.n _ _ c.loop-run.invariant c.in_default.ensures.cases

pub returns-clause-cost : goal.returns-clause-cost
returns-clause-cost g c = λ b fits. omega (arith, (c.loop-run.invariant.cost b fits).1)
