use Rattle.std.proofs.Common.{◌+◌, refl, sym, subst, ap, ◌∙◌}
use Rattle.im_versions.specs.Versions.{versions_in}
use Rattle.im_plain.specs.Listed.{IsListOf}
use Rattle.im_plain.proofs.PlainLemmas.{IsListOf-take}
use Rattle.im_plain.proofs.index.PlainIndex.take.Goals as goal

pub returns-clause-taken : goal.returns-clause-taken
returns-clause-taken c = λ history is.
    let inside = subst (λ x. IsListOf x history) (sym c.self.view_is) is in
    IsListOf-take history c.args.tx.now _ _ c.in_ok-versions.versions.items inside
    (c.in_ok-versions.ensures ∙ ap (versions_in (c.self.inside.taken + 1)) c.as_slice.ensures)
    c.in_ok-append.ensures.items refl
