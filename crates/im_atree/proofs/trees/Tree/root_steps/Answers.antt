use Rattle.std.proofs.Common.{refl, arith, ap}
use Rattle.im_levels.proofs.CountLemmas.{ones-most}
use Rattle.im_levels.proofs.PartLemmas.{all-part}
use Rattle.im_levels.proofs.ReadLemmas.{whole-fits, leveled-parts}
use Rattle.im_atree.proofs.trees.Tree.root_steps.Goals as goal

pub next_fits-requires : goal.next_fits-requires
next_fits-requires g c = c.self.invariant

pub part_root-requires-clause-fits : goal.part_root-requires-clause-fits
part_root-requires-clause-fits g c = omega (arith, c.next_fits.ensures, c.requires.within, ap (λ v. v.size) c.self.view_is)

pub part_root-requires-clause-aligned : goal.part_root-requires-clause-aligned
part_root-requires-clause-aligned g c = all-part _

pub part_root-requires-clause-inside : goal.part_root-requires-clause-inside
part_root-requires-clause-inside g c =
    whole-fits _ c.self.inside.size _ (omega (arith, c.requires.within, ap (λ v. v.size) c.self.view_is)) (omega (arith, c.self.invariant))

pub returns-clause-value : goal.returns-clause-value
returns-clause-value g c leaves f =
    let held = leveled-parts (g.H.Hash32.digest c.args.hash.now) leaves c.self.inside.digests c.self.inside.digests c.self.inside.size _ c.self.view_is refl f in
    c.part_root.ensures.value leaves (omega (arith, held.0, c.requires.within, ap (λ v. v.size) c.self.view_is)) held.1

pub returns-clause-bound : goal.returns-clause-bound
returns-clause-bound g c b h = omega (arith, c.part_root.ensures.cost, ones-most b c.args.n h)
