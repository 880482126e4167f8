use Rattle.std.proofs.Common.{◌≡◌, ◌<◌, List, ap, sym, subst, ◌∙◌}
use Rattle.std.specs.List.{All}
use Rattle.std.specs.List.Sorted.{IsSorted}
use Rattle.im_versions.specs.declared.versions.Version.{Version}
use Rattle.im_index.specs.Indexed.{AreRunsOf, Indexed, IsSnapshotOf}
use Rattle.im_index.specs.Marks.{numbered}
use Rattle.im_index.proofs.IndexLemmas.{index-shows, snapshot-sorted}
use Rattle.im_index.proofs.SnapshotLemmas.{snapshot-numbered, snapshot-scan}
use Rattle.im_index.proofs.index.IndexKvView.scan.Goals as goal

pub scan-requires-clause-sorted : goal.scan-requires-clause-sorted
scan-requires-clause-sorted c =
    let runs : c.deref.result.now ≡ c.args.self.now.runs = c.deref.ensures.value ∙ ap (λ (k : Indexed). k.runs) c.self.view_is in
    subst (λ (rs : List (List Version)). All (IsSorted numbered) rs) (sym runs) (snapshot-sorted c.args.self.now c.requires.0 (index-shows c.args.self.now c.requires.0 c.requires.1))

pub scan-requires-clause-counted : goal.scan-requires-clause-counted
scan-requires-clause-counted c =
    let runs : c.deref.result.now ≡ c.args.self.now.runs = c.deref.ensures.value ∙ ap (λ (k : Indexed). k.runs) c.self.view_is in
    subst (λ (rs : List (List Version)). All (λ run. All (λ (v : Version). 0 < v.tx) run) rs) (sym runs) (snapshot-numbered c.args.self.now c.requires.0 (index-shows c.args.self.now c.requires.0 c.requires.1))

pub returns : goal.returns
returns c = λ history is within.
    let runs : c.deref.result.now ≡ c.args.self.now.runs = c.deref.ensures.value ∙ ap (λ (k : Indexed). k.runs) c.self.view_is in
    let shows : IsSnapshotOf c.args.self.now history = index-shows c.args.self.now history is in
    let are : AreRunsOf c.deref.result.now shows.whole = subst (λ (rs : List (List Version)). AreRunsOf rs shows.whole) (sym runs) shows.runs in
    snapshot-scan c.args.self.now history c.args.prefix.now c.args.n c.in_ok-scan.field-0 shows within (c.in_ok-scan.ensures shows.whole are)
