use Rattle.std.proofs.Common.{◌≤◌, ◌-◌, length, reverse, get_or, [], refl, arith, ap, ◌∙◌}
use Rattle.im_model.specs.Paths.{up}
use Rattle.im_levels.proofs.ReadLemmas.{whole-fits, leveled-parts}
use Rattle.im_atree.proofs.PassLemmas.{path-in_front}
use Rattle.im_atree.proofs.trees.Tree.inclusion_steps.Goals as goal

pub next_fits-requires : goal.next_fits-requires
next_fits-requires g c = c.self.invariant

pub path_down-requires-clause-fits : goal.path_down-requires-clause-fits
path_down-requires-clause-fits g c = omega (arith, c.next_fits.ensures, c.requires.within, ap (λ v. v.size) c.self.view_is)

pub path_down-requires-clause-inside : goal.path_down-requires-clause-inside
path_down-requires-clause-inside g c =
    whole-fits _ c.self.inside.size _ (omega (arith, c.requires.within, ap (λ v. v.size) c.self.view_is)) (omega (arith, c.self.invariant))

pub returns-clause-value : goal.returns-clause-value
returns-clause-value g c leaves f =
    let held = leveled-parts (g.H.Hash32.digest c.args.hash.now) leaves c.self.inside.digests c.self.inside.digests c.self.inside.size _ c.self.view_is refl f in
    c.turned.ensures
    ∙ ap (λ l. reverse l) (c.in_ok-terms.ensures.value leaves (omega (arith, held.0, c.requires.within, ap (λ v. v.size) c.self.view_is)) held.1)

pub returns-clause-exact : goal.returns-clause-exact
returns-clause-exact g c leaves f =
    let counted : c.args.n ≤ length leaves = omega (arith, f.counted, c.requires.within) in
    ap (λ l. length l) (returns-clause-value g c leaves f)
    ∙ (path-in_front (g.H.Hash32.digest c.args.hash.now) leaves (c.args.i - 1) c.args.n (omega (arith, c.requires.some, c.requires.inside)) counted).0

pub returns-clause-leads : goal.returns-clause-leads
returns-clause-leads g c leaves f =
    let hash = g.H.Hash32.digest c.args.hash.now in
    let counted : c.args.n ≤ length leaves = omega (arith, f.counted, c.requires.within) in
    ap (λ l. up hash c.args.n (c.args.i - 1) (get_or leaves (c.args.i - 1) []) (reverse l)) (returns-clause-value g c leaves f)
    ∙ (path-in_front hash leaves (c.args.i - 1) c.args.n (omega (arith, c.requires.some, c.requires.inside)) counted).1
