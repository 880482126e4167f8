use Rattle.std.proofs.Common.{◌≡◌, ◌≤◌, length, take, refl, arith, ap, sym, ◌∙◌}
use Rattle.std.proofs.lemmas.List.{length-take-le}
use Rattle.im_levels.proofs.ReadLemmas.{whole-fits, leveled-parts}
use Rattle.im_levels.proofs.GrowthLemmas.{list_whole, list_more}
use Rattle.im_atree.proofs.PassLemmas.{list_exact, list_passes}
use Rattle.im_atree.proofs.trees.Tree.consistency_steps.Goals as goal

pub returns-then-m-n-clause-value : goal.returns-then-m-n-clause-value
returns-then-m-n-clause-value g c leaves f =
    let counted : c.args.n ≤ length leaves = omega (arith, f.counted, c.requires.within) in
    let long : length (take c.args.n leaves) ≡ c.args.n = length-take-le c.args.n leaves counted in
    c.from_vec.ensures ∙ c.new.ensures.items ∙ sym (list_whole (g.H.Hash32.digest c.args.hash.now) (take c.args.n leaves) c.args.m (c.if-m-n.true ∙ sym long))

pub next_fits-requires : goal.next_fits-requires
next_fits-requires g c = c.self.invariant

pub list_down-requires-clause-fits : goal.list_down-requires-clause-fits
list_down-requires-clause-fits g c = omega (arith, c.next_fits.ensures, c.requires.within, ap (λ v. v.size) c.self.view_is)

pub list_down-requires-clause-inside : goal.list_down-requires-clause-inside
list_down-requires-clause-inside g c =
    whole-fits _ c.self.inside.size _ (omega (arith, c.requires.within, ap (λ v. v.size) c.self.view_is)) (omega (arith, c.self.invariant))

pub returns-clause-value : goal.returns-clause-value
returns-clause-value g c leaves f =
    let held = leveled-parts (g.H.Hash32.digest c.args.hash.now) leaves c.self.inside.digests c.self.inside.digests c.self.inside.size _ c.self.view_is refl f in
    let counted : c.args.n ≤ length leaves = omega (arith, held.0, c.requires.within, ap (λ v. v.size) c.self.view_is) in
    let long : length (take c.args.n leaves) ≡ c.args.n = length-take-le c.args.n leaves counted in
    list_more (g.H.Hash32.digest c.args.hash.now) (take c.args.n leaves) c.args.m _ _ (λ e. c.if-m-n.false (e ∙ long)) (c.in_ok-terms.ensures.value leaves counted held.1) c.turned.ensures

pub returns-then-m-n-clause-exact : goal.returns-then-m-n-clause-exact
returns-then-m-n-clause-exact g c leaves f =
    let counted : c.args.n ≤ length leaves = omega (arith, f.counted, c.requires.within) in
    list_exact (g.H.Hash32.digest c.args.hash.now) leaves c.args.m c.args.n _ c.requires.some c.requires.grows counted (returns-then-m-n-clause-value g c leaves f)

pub returns-then-m-n-clause-passes : goal.returns-then-m-n-clause-passes
returns-then-m-n-clause-passes g c leaves f =
    let counted : c.args.n ≤ length leaves = omega (arith, f.counted, c.requires.within) in
    list_passes (g.H.Hash32.digest c.args.hash.now) leaves c.args.m c.args.n _ c.requires.some c.requires.grows counted (returns-then-m-n-clause-value g c leaves f)

pub returns-clause-exact : goal.returns-clause-exact
returns-clause-exact g c leaves f =
    let counted : c.args.n ≤ length leaves = omega (arith, f.counted, c.requires.within) in
    list_exact (g.H.Hash32.digest c.args.hash.now) leaves c.args.m c.args.n _ c.requires.some c.requires.grows counted (returns-clause-value g c leaves f)

pub returns-clause-passes : goal.returns-clause-passes
returns-clause-passes g c leaves f =
    let counted : c.args.n ≤ length leaves = omega (arith, f.counted, c.requires.within) in
    list_passes (g.H.Hash32.digest c.args.hash.now) leaves c.args.m c.args.n _ c.requires.some c.requires.grows counted (returns-clause-value g c leaves f)
