use Rattle.std.proofs.Common.{◌+◌, ℕ, List, sym, subst, ap}
use Rattle.std.proofs.lemmas.List.{length-map}
use Rattle.im_versions.specs.declared.versions.Version.{Version}
use Rattle.im_index.specs.Indexed.{Indexed, IsIndexOf}
use Rattle.im_index.specs.Keys.{bare, bare_transaction}
use Rattle.im_index.specs.Runs.{AreHalving, HoldInOrder}
use Rattle.im_index.proofs.IndexLemmas.{index-take}
use Rattle.im_index.proofs.index.Index.take_keys.Goals as goal

pub returns-clause-taken : goal.returns-clause-taken
returns-clause-taken c = λ history is.
    let inside = subst (λ (k : Indexed). IsIndexOf k history) (sym c.self.view_is) is in
    index-take history (bare c.args.txs.now) _ _ c.in_ok-versions.versions.items inside c.in_ok-versions.ensures
    (λ before h. c.in_ok-runs.ensures.holds before (subst (λ (rs : List (List Version)). HoldInOrder rs before) (sym c.deref.ensures.value) h))
    (λ h. c.in_ok-runs.ensures.halving (subst AreHalving (sym c.deref.ensures.value) h))
    (ap (λ (n : ℕ). c.self.inside.taken + n) (sym (length-map c.args.txs.now bare_transaction)))
