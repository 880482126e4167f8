use Rattle.std.proofs.Common.{◌≡◌, ◌<◌, List, ap, sym, subst, ◌∙◌}
use Rattle.std.specs.List.{All}
use Rattle.std.specs.List.Sorted.{IsSorted}
use Rattle.im_versions.specs.declared.versions.Version.{Version}
use Rattle.im_index.specs.Indexed.{Indexed, IsSnapshotOf}
use Rattle.im_index.specs.Marks.{found, numbered}
use Rattle.im_index.proofs.HoldLemmas.{joined}
use Rattle.im_index.proofs.IndexLemmas.{index-shows, snapshot-sorted}
use Rattle.im_index.proofs.SnapshotLemmas.{snapshot-numbered, snapshot-versions}
use Rattle.im_index.proofs.index.IndexKvView.versions.Goals as goal

pub versions-requires-clause-sorted : goal.versions-requires-clause-sorted
versions-requires-clause-sorted c =
    let runs : c.deref.result.now ≡ c.args.self.now.runs = c.deref.ensures.value ∙ ap (λ (k : Indexed). k.runs) c.self.view_is in
    subst (λ (rs : List (List Version)). All (IsSorted numbered) rs) (sym runs) (snapshot-sorted c.args.self.now c.requires.0 (index-shows c.args.self.now c.requires.0 c.requires.1))

pub versions-requires-clause-counted : goal.versions-requires-clause-counted
versions-requires-clause-counted c =
    let runs : c.deref.result.now ≡ c.args.self.now.runs = c.deref.ensures.value ∙ ap (λ (k : Indexed). k.runs) c.self.view_is in
    subst (λ (rs : List (List Version)). All (λ run. All (λ (v : Version). 0 < v.tx) run) rs) (sym runs) (snapshot-numbered c.args.self.now c.requires.0 (index-shows c.args.self.now c.requires.0 c.requires.1))

pub returns : goal.returns
returns c = λ history is within.
    let runs : c.deref.result.now ≡ c.args.self.now.runs = c.deref.ensures.value ∙ ap (λ (k : Indexed). k.runs) c.self.view_is in
    let shows : IsSnapshotOf c.args.self.now history = index-shows c.args.self.now history is in
    c.in_ok-versions.ensures
    ∙ ap (λ (rs : List (List Version)). found c.args.key.now c.args.n (joined rs)) runs
    ∙ snapshot-versions c.args.self.now history c.args.key.now c.args.n shows within
