use Rattle.std.proofs.Common.{◌≡◌, ◌∙◌, List, None, ap, sym, subst}
use Rattle.std.specs.List.{All, last_or}
use Rattle.std.specs.List.Sorted.{IsSorted}
use Rattle.im_versions.specs.declared.versions.Version.{Version}
use Rattle.im_index.specs.Indexed.{Indexed, IsIndexOf}
use Rattle.im_index.specs.Marks.{found, numbered}
use Rattle.im_index.proofs.HoldLemmas.{joined}
use Rattle.im_index.proofs.IndexLemmas.{index-cost, index-last, index-shows, snapshot-sorted}
use Rattle.im_index.proofs.index.Index.last_steps.Goals as goal

pub last-requires : goal.last-requires
last-requires g c =
    let runs : c.deref.result.now ≡ c.args.self.now.runs = c.deref.ensures.value ∙ ap (λ (k : Indexed). k.runs) c.self.view_is in
    subst (λ (rs : List (List Version)). All (IsSorted numbered) rs) (sym runs)
    (snapshot-sorted c.args.self.now c.requires.0 (index-shows c.args.self.now c.requires.0 c.requires.1))

pub returns-clause-value : goal.returns-clause-value
returns-clause-value g c = λ history is.
    let inside = subst (λ (k : Indexed). IsIndexOf k history) (sym c.self.view_is) is in
    c.last.ensures.last
    ∙ ap (λ (rs : List (List Version)). last_or None (found c.args.key.now c.self.inside.taken (joined rs))) c.deref.ensures.value
    ∙ index-last _ history c.args.key.now inside

pub returns-clause-cost : goal.returns-clause-cost
returns-clause-cost g c = λ history b is fits.
    let runs : c.deref.result.now ≡ c.args.self.now.runs = c.deref.ensures.value ∙ ap (λ (k : Indexed). k.runs) c.self.view_is in
    index-cost c.args.self.now history b _ _ c.deref.result.now runs is fits c.last.ensures.cost
