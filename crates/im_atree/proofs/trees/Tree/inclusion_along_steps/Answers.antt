use Rattle.std.proofs.Common.{reverse, refl, arith, ap, sym, subst, ◌∙◌}
use Rattle.im_levels.specs.Edges.{IsEdgeOf}
use Rattle.im_levels.proofs.ReadLemmas.{whole-fits, leveled-parts}
use Rattle.im_atree.proofs.trees.Tree.inclusion_along_steps.Goals as goal

pub next_fits-requires : goal.next_fits-requires
next_fits-requires g c = c.self.invariant

pub path_down_along-requires-clause-fits : goal.path_down_along-requires-clause-fits
path_down_along-requires-clause-fits g c = omega (arith, c.next_fits.ensures, c.requires.within, ap (λ v. v.size) c.self.view_is)

pub path_down_along-requires-clause-inside : goal.path_down_along-requires-clause-inside
path_down_along-requires-clause-inside g c =
    whole-fits _ c.self.inside.size _ (omega (arith, c.requires.within, ap (λ v. v.size) c.self.view_is)) (omega (arith, c.self.invariant))

pub path_down_along-requires-clause-made : goal.path_down_along-requires-clause-made
path_down_along-requires-clause-made g c =
    subst (λ ds. IsEdgeOf (g.H.Hash32.digest c.args.hash.now) ds c.args.edge.now) (sym (ap (λ v. v.digests) c.self.view_is)) c.requires.made

pub returns-clause-made : goal.returns-clause-made
returns-clause-made g c =
    subst (λ ds. IsEdgeOf (g.H.Hash32.digest c.args.hash.now) ds c.path_down_along.new.edge) (ap (λ v. v.digests) c.self.view_is) c.in_ok-terms.ensures.made

pub returns-clause-value : goal.returns-clause-value
returns-clause-value g c leaves f =
    let held = leveled-parts (g.H.Hash32.digest c.args.hash.now) leaves c.self.inside.digests c.self.inside.digests c.self.inside.size _ c.self.view_is refl f in
    c.turned.ensures
    ∙ ap (λ l. reverse l) (c.in_ok-terms.ensures.value leaves (omega (arith, held.0, c.requires.within, ap (λ v. v.size) c.self.view_is)) held.1)
