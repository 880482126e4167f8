use Rattle.std.proofs.Common.{◌≡◌, ◌≤◌, length, take, refl, arith, ap, sym, subst, ◌∙◌}
use Rattle.std.proofs.lemmas.List.{length-take-le}
use Rattle.im_levels.specs.Edges.{IsEdgeOf}
use Rattle.im_levels.proofs.ReadLemmas.{whole-fits, leveled-parts}
use Rattle.im_levels.proofs.GrowthLemmas.{list_whole, list_more}
use Rattle.im_atree.proofs.trees.Tree.consistency_along_steps.Goals as goal

pub returns-then-m-n-clause-value : goal.returns-then-m-n-clause-value
returns-then-m-n-clause-value g c leaves f =
    let counted : c.args.n ≤ length leaves = omega (arith, f.counted, c.requires.within) in
    let long : length (take c.args.n leaves) ≡ c.args.n = length-take-le c.args.n leaves counted in
    c.from_vec.ensures ∙ c.new.ensures.items ∙ sym (list_whole (g.H.Hash32.digest c.args.hash.now) (take c.args.n leaves) c.args.m (c.if-m-n.true ∙ sym long))

pub next_fits-requires : goal.next_fits-requires
next_fits-requires g c = c.self.invariant

pub list_down_along-requires-clause-fits : goal.list_down_along-requires-clause-fits
list_down_along-requires-clause-fits g c = omega (arith, c.next_fits.ensures, c.requires.within, ap (λ v. v.size) c.self.view_is)

pub list_down_along-requires-clause-inside : goal.list_down_along-requires-clause-inside
list_down_along-requires-clause-inside g c =
    whole-fits _ c.self.inside.size _ (omega (arith, c.requires.within, ap (λ v. v.size) c.self.view_is)) (omega (arith, c.self.invariant))

pub list_down_along-requires-clause-made : goal.list_down_along-requires-clause-made
list_down_along-requires-clause-made g c =
    subst (λ ds. IsEdgeOf (g.H.Hash32.digest c.args.hash.now) ds c.args.edge.now) (sym (ap (λ v. v.digests) c.self.view_is)) c.requires.made

pub returns-clause-made : goal.returns-clause-made
returns-clause-made g c =
    subst (λ ds. IsEdgeOf (g.H.Hash32.digest c.args.hash.now) ds c.list_down_along.new.edge) (ap (λ v. v.digests) c.self.view_is) c.in_ok-terms.ensures.made

pub returns-clause-value : goal.returns-clause-value
returns-clause-value g c leaves f =
    let held = leveled-parts (g.H.Hash32.digest c.args.hash.now) leaves c.self.inside.digests c.self.inside.digests c.self.inside.size _ c.self.view_is refl f in
    let counted : c.args.n ≤ length leaves = omega (arith, held.0, c.requires.within, ap (λ v. v.size) c.self.view_is) in
    let long : length (take c.args.n leaves) ≡ c.args.n = length-take-le c.args.n leaves counted in
    list_more (g.H.Hash32.digest c.args.hash.now) (take c.args.n leaves) c.args.m _ _ (λ e. c.if-m-n.false (e ∙ long)) (c.in_ok-terms.ensures.value leaves counted held.1) c.turned.ensures
