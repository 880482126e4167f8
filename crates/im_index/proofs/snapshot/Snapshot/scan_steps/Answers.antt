use Rattle.std.proofs.Common.{◌≡◌, ◌≤◌, ◌<◌, ◌+◌, ◌*◌, ℕ, List, filter, length, map, take, ap, sym, subst, ◌∙◌}
use Rattle.std.specs.List.{All}
use Rattle.std.specs.List.Sorted.{IsSorted}
use Rattle.im_versions.specs.Versions.{IsScan}
use Rattle.im_versions.specs.declared.versions.Version.{Version}
use Rattle.im_index.specs.Indexed.{AreRunsOf, Indexed}
use Rattle.im_index.specs.Marks.{numbered}
use Rattle.im_index.specs.Runs.{HasDigits}
use Rattle.im_index.proofs.HalvingLemmas.{each-fits}
use Rattle.im_index.proofs.HoldLemmas.{joined}
use Rattle.im_index.proofs.IndexLemmas.{snapshot-sorted}
use Rattle.im_index.proofs.NewestLemmas.{is_begun}
use Rattle.im_index.proofs.SnapshotLemmas.{snapshot-more, snapshot-numbered, snapshot-scan}
use Rattle.im_index.proofs.snapshot.Snapshot.scan_steps.Goals as goal

pub scan_steps-requires-clause-sorted : goal.scan_steps-requires-clause-sorted
scan_steps-requires-clause-sorted g c =
    let runs : c.deref.result.now ≡ c.args.self.now.runs = c.deref.ensures.value ∙ ap (λ (k : Indexed). k.runs) c.self.view_is in
    subst (λ (rs : List (List Version)). All (IsSorted numbered) rs) (sym runs) (snapshot-sorted c.args.self.now c.requires.0 c.requires.1)

pub scan_steps-requires-clause-counted : goal.scan_steps-requires-clause-counted
scan_steps-requires-clause-counted g c =
    let runs : c.deref.result.now ≡ c.args.self.now.runs = c.deref.ensures.value ∙ ap (λ (k : Indexed). k.runs) c.self.view_is in
    subst (λ (rs : List (List Version)). All (λ run. All (λ (v : Version). 0 < v.tx) run) rs) (sym runs) (snapshot-numbered c.args.self.now c.requires.0 c.requires.1)

pub returns-clause-value : goal.returns-clause-value
returns-clause-value g c = λ history is within.
    let runs : c.deref.result.now ≡ c.args.self.now.runs = c.deref.ensures.value ∙ ap (λ (k : Indexed). k.runs) c.self.view_is in
    let are : AreRunsOf c.deref.result.now is.whole = subst (λ (rs : List (List Version)). AreRunsOf rs is.whole) (sym runs) is.runs in
    subst (IsScan (take c.args.n history) c.args.prefix.now) (sym (c.in_ok-copies_of.ensures ∙ ap (map (λ v. v.now)) c.as_slice.ensures.value))
    (snapshot-scan c.args.self.now history c.args.prefix.now c.args.n (map (λ v. v.now) c.in_ok-shown.shown.items) is within (c.in_ok-shown.ensures.scan is.whole are))

pub returns-clause-cost : goal.returns-clause-cost
returns-clause-cost g c = λ b fits.
    let runs : c.deref.result.now ≡ c.args.self.now.runs = c.deref.ensures.value ∙ ap (λ (k : Indexed). k.runs) c.self.view_is in
    let begun : ℕ = length (filter (is_begun c.args.prefix.now) (joined c.args.self.now.runs)) in
    snapshot-more c.args.self.now c.requires.0 b (b + 1) begun _ _ c.requires.1 fits
    (subst (λ (rs : List (List Version)). c.scan_steps.new.steps ≤ c.args.steps.now + length rs * (b + 1) + length (filter (is_begun c.args.prefix.now) (joined rs))) runs
    (c.in_ok-shown.ensures.cost b
    (subst (λ (rs : List (List Version)). All (λ run. HasDigits b (length run)) rs) (sym runs) (each-fits c.args.self.now.runs b fits))))

pub returns-in_err-shown-clause-cost : goal.returns-in_err-shown-clause-cost
returns-in_err-shown-clause-cost g c = λ b fits.
    let runs : c.deref.result.now ≡ c.args.self.now.runs = c.deref.ensures.value ∙ ap (λ (k : Indexed). k.runs) c.self.view_is in
    let begun : ℕ = length (filter (is_begun c.args.prefix.now) (joined c.args.self.now.runs)) in
    snapshot-more c.args.self.now c.requires.0 b (b + 1) begun _ _ c.requires.1 fits
    (subst (λ (rs : List (List Version)). c.scan_steps.new.steps ≤ c.args.steps.now + length rs * (b + 1) + length (filter (is_begun c.args.prefix.now) (joined rs))) runs
    (c.in_err-shown.ensures.cost b
    (subst (λ (rs : List (List Version)). All (λ run. HasDigits b (length run)) rs) (sym runs) (each-fits c.args.self.now.runs b fits))))

pub returns-in_err-copies_of-clause-cost : goal.returns-in_err-copies_of-clause-cost
returns-in_err-copies_of-clause-cost g c = λ b fits.
    let runs : c.deref.result.now ≡ c.args.self.now.runs = c.deref.ensures.value ∙ ap (λ (k : Indexed). k.runs) c.self.view_is in
    let begun : ℕ = length (filter (is_begun c.args.prefix.now) (joined c.args.self.now.runs)) in
    snapshot-more c.args.self.now c.requires.0 b (b + 1) begun _ _ c.requires.1 fits
    (subst (λ (rs : List (List Version)). c.scan_steps.new.steps ≤ c.args.steps.now + length rs * (b + 1) + length (filter (is_begun c.args.prefix.now) (joined rs))) runs
    (c.in_ok-shown.ensures.cost b
    (subst (λ (rs : List (List Version)). All (λ run. HasDigits b (length run)) rs) (sym runs) (each-fits c.args.self.now.runs b fits))))
