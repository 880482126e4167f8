use Rattle.std.proofs.Common.{◌≡◌, ◌≤◌, ◌<◌, ◌+◌, ◌*◌, List, length, ap, sym, subst, ◌∙◌}
use Rattle.std.specs.List.{All}
use Rattle.std.specs.List.Sorted.{IsSorted}
use Rattle.im_versions.specs.declared.versions.Version.{Version}
use Rattle.im_index.specs.Indexed.{Indexed}
use Rattle.im_index.specs.Marks.{found, numbered}
use Rattle.im_index.specs.Runs.{HasDigits}
use Rattle.im_index.proofs.HalvingLemmas.{each-fits}
use Rattle.im_index.proofs.HoldLemmas.{joined}
use Rattle.im_index.proofs.IndexLemmas.{snapshot-sorted, snapshot-steps}
use Rattle.im_index.proofs.SnapshotLemmas.{snapshot-numbered, snapshot-versions}
use Rattle.im_index.proofs.snapshot.Snapshot.versions_steps.Goals as goal

pub versions_steps-requires-clause-sorted : goal.versions_steps-requires-clause-sorted
versions_steps-requires-clause-sorted g c =
    let runs : c.deref.result.now ≡ c.args.self.now.runs = c.deref.ensures.value ∙ ap (λ (k : Indexed). k.runs) c.self.view_is in
    subst (λ (rs : List (List Version)). All (IsSorted numbered) rs) (sym runs) (snapshot-sorted c.args.self.now c.requires.0 c.requires.1)

pub versions_steps-requires-clause-counted : goal.versions_steps-requires-clause-counted
versions_steps-requires-clause-counted g c =
    let runs : c.deref.result.now ≡ c.args.self.now.runs = c.deref.ensures.value ∙ ap (λ (k : Indexed). k.runs) c.self.view_is in
    subst (λ (rs : List (List Version)). All (λ run. All (λ (v : Version). 0 < v.tx) run) rs) (sym runs) (snapshot-numbered c.args.self.now c.requires.0 c.requires.1)

pub returns-clause-value : goal.returns-clause-value
returns-clause-value g c = λ history is within.
    let runs : c.deref.result.now ≡ c.args.self.now.runs = c.deref.ensures.value ∙ ap (λ (k : Indexed). k.runs) c.self.view_is in
    c.in_ok-versions_steps.ensures.versions
    ∙ ap (λ (rs : List (List Version)). found c.args.key.now c.args.n (joined rs)) runs
    ∙ snapshot-versions c.args.self.now history c.args.key.now c.args.n is within

pub returns-clause-cost : goal.returns-clause-cost
returns-clause-cost g c = λ b fits.
    let runs : c.deref.result.now ≡ c.args.self.now.runs = c.deref.ensures.value ∙ ap (λ (k : Indexed). k.runs) c.self.view_is in
    snapshot-steps c.args.self.now c.requires.0 b (2 * b) _ _ c.requires.1 fits
    (subst (λ (rs : List (List Version)). c.versions_steps.new.steps ≤ c.args.steps.now + length rs * (2 * b)) runs
    (c.in_ok-versions_steps.ensures.cost b
    (subst (λ (rs : List (List Version)). All (λ run. HasDigits b (length run)) rs) (sym runs) (each-fits c.args.self.now.runs b fits))))

pub returns-in_err-versions_steps-clause-cost : goal.returns-in_err-versions_steps-clause-cost
returns-in_err-versions_steps-clause-cost g c = λ b fits.
    let runs : c.deref.result.now ≡ c.args.self.now.runs = c.deref.ensures.value ∙ ap (λ (k : Indexed). k.runs) c.self.view_is in
    snapshot-steps c.args.self.now c.requires.0 b (2 * b) _ _ c.requires.1 fits
    (subst (λ (rs : List (List Version)). c.versions_steps.new.steps ≤ c.args.steps.now + length rs * (2 * b)) runs
    (c.in_err-versions_steps.ensures.cost b
    (subst (λ (rs : List (List Version)). All (λ run. HasDigits b (length run)) rs) (sym runs) (each-fits c.args.self.now.runs b fits))))
