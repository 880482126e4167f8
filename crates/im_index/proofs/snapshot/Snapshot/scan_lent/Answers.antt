use Rattle.std.proofs.Common.{◌≡◌, ◌<◌, List, ap, map, sym, subst, ◌∙◌}
use Rattle.std.specs.List.{All}
use Rattle.std.specs.List.Sorted.{IsSorted}
use Rattle.im_versions.specs.declared.versions.Version.{Version}
use Rattle.im_index.specs.Indexed.{AreRunsOf, Indexed}
use Rattle.im_index.specs.Marks.{numbered}
use Rattle.im_index.proofs.IndexLemmas.{snapshot-sorted}
use Rattle.im_index.proofs.SnapshotLemmas.{snapshot-numbered, snapshot-scan}
use Rattle.im_index.proofs.snapshot.Snapshot.scan_lent.Goals as goal

pub scan_lent-requires-clause-sorted : goal.scan_lent-requires-clause-sorted
scan_lent-requires-clause-sorted c =
    let runs : c.deref.result.now ≡ c.args.self.now.runs = c.deref.ensures.value ∙ ap (λ (k : Indexed). k.runs) c.self.view_is in
    subst (λ (rs : List (List Version)). All (IsSorted numbered) rs) (sym runs) (snapshot-sorted c.args.self.now c.requires.0 c.requires.1)

pub scan_lent-requires-clause-counted : goal.scan_lent-requires-clause-counted
scan_lent-requires-clause-counted c =
    let runs : c.deref.result.now ≡ c.args.self.now.runs = c.deref.ensures.value ∙ ap (λ (k : Indexed). k.runs) c.self.view_is in
    subst (λ (rs : List (List Version)). All (λ run. All (λ (v : Version). 0 < v.tx) run) rs) (sym runs) (snapshot-numbered c.args.self.now c.requires.0 c.requires.1)

pub returns : goal.returns
returns c = λ history is within.
    let runs : c.deref.result.now ≡ c.args.self.now.runs = c.deref.ensures.value ∙ ap (λ (k : Indexed). k.runs) c.self.view_is in
    let are : AreRunsOf c.deref.result.now is.whole = subst (λ (rs : List (List Version)). AreRunsOf rs is.whole) (sym runs) is.runs in
    snapshot-scan c.args.self.now history c.args.prefix.now c.args.n (map (λ v. v.now) c.in_ok-scan_lent.field-0.items) is within (c.in_ok-scan_lent.ensures is.whole are)
