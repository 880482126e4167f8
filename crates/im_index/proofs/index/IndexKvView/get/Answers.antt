use Rattle.std.proofs.Common.{◌≡◌, List, None, ap, sym, subst, ◌∙◌}
use Rattle.std.specs.List.{All, last_or}
use Rattle.std.specs.List.Sorted.{IsSorted}
use Rattle.im_versions.specs.declared.versions.Version.{Version}
use Rattle.im_index.specs.Indexed.{Indexed, IsSnapshotOf}
use Rattle.im_index.specs.Marks.{found, numbered}
use Rattle.im_index.proofs.HoldLemmas.{joined}
use Rattle.im_index.proofs.IndexLemmas.{index-shows, snapshot-last, snapshot-sorted}
use Rattle.im_index.proofs.index.IndexKvView.get.Goals as goal

pub get-requires : goal.get-requires
get-requires c =
    let runs : c.deref.result.now ≡ c.args.self.now.runs = c.deref.ensures.value ∙ ap (λ (k : Indexed). k.runs) c.self.view_is in
    subst (λ (rs : List (List Version)). All (IsSorted numbered) rs) (sym runs) (snapshot-sorted c.args.self.now c.requires.0 (index-shows c.args.self.now c.requires.0 c.requires.1))

pub returns : goal.returns
returns c = λ history is within.
    let runs : c.deref.result.now ≡ c.args.self.now.runs = c.deref.ensures.value ∙ ap (λ (k : Indexed). k.runs) c.self.view_is in
    let shows : IsSnapshotOf c.args.self.now history = index-shows c.args.self.now history is in
    c.in_ok-get.ensures
    ∙ ap (λ (rs : List (List Version)). last_or None (found c.args.key.now c.args.n (joined rs))) runs
    ∙ snapshot-last c.args.self.now history c.args.key.now c.args.n shows within
