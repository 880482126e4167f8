use Rattle.std.proofs.Common.{◌∙◌, ℕ, subst}
use Rattle.im_versions.specs.declared.versions.Version.{Version}
use Rattle.im_index.specs.Fronts.{IsFront}
use Rattle.im_index.proofs.KeyFrontLemmas.{by-fronts}
use Rattle.im_index.proofs.shared.Shared.cmp_key.Goals as goal

pub returns-in_default : goal.returns-in_default
returns-in_default c =
    let a : ℕ = c.self.inside.front in
    let b : ℕ = c.other.inside.front in
    let mine = subst (λ (v : Version). IsFront a v.key) c.self.view_is c.self.invariant in
    let theirs = subst (λ (v : Version). IsFront b v.key) c.other.view_is c.other.invariant in
    c.cmp.ensures ∙ by-fronts a b c.args.self.now.key c.args.other.now.key mine theirs (λ same. c.in_default.not-Equal (c.cmp.ensures ∙ same))
