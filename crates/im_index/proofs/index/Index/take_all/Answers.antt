use Rattle.std.proofs.Common.{◌≡◌, ◌+◌, List, length, refl, sym, subst, ap, ◌∙◌}
use Rattle.im_versions.specs.Versions.{versions_from}
use Rattle.im_versions.specs.declared.versions.Version.{Version}
use Rattle.im_index.specs.Indexed.{Indexed, IsIndexOf}
use Rattle.im_index.specs.Runs.{AreHalving, HoldInOrder, lengths, taken_in}
use Rattle.im_index.proofs.IndexLemmas.{index-take}
use Rattle.im_index.proofs.index.Index.take_all.Goals as goal

pub returns-clause-taken : goal.returns-clause-taken
returns-clause-taken c = λ history is.
    let inside = subst (λ (k : Indexed). IsIndexOf k history) (sym c.self.view_is) is in
    index-take history c.args.txs.now _ _ c.in_ok-versions.versions.items inside c.in_ok-versions.ensures
    (λ before h. c.in_ok-runs.ensures.holds before (subst (λ (rs : List (List Version)). HoldInOrder rs before) (sym c.deref.ensures.value) h))
    (λ h. c.in_ok-runs.ensures.halving (subst AreHalving (sym c.deref.ensures.value) h))
    refl

pub returns-clause-lengths : goal.returns-clause-lengths
returns-clause-lengths c =
    let made : c.in_ok-versions.versions.items ≡ versions_from (c.args.self.now.taken + 1) c.args.txs.now =
    c.in_ok-versions.ensures ∙ ap (λ (k : Indexed). versions_from (k.taken + 1) c.args.txs.now) c.self.view_is in
    let old : c.deref.result.now ≡ c.args.self.now.runs = c.deref.ensures.value ∙ ap (λ (k : Indexed). k.runs) c.self.view_is in
    c.in_ok-runs.ensures.lengths
    ∙ ap (λ (vs : List Version). taken_in (length vs) (lengths c.deref.result.now)) made
    ∙ ap (λ (rs : List (List Version)). taken_in (length (versions_from (c.args.self.now.taken + 1) c.args.txs.now)) (lengths rs)) old
