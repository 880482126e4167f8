use Rattle.std.proofs.Common.{◌≡◌, ◌<◌, ◌+◌, ◌-◌, ◌*◌, ◌^◌, length, arith, rules, ap, subst, sym, ◌∙◌}
use Rattle.im_levels.specs.Leveled.{AreStored}
use Rattle.im_levels.proofs.CountLemmas.{whole-most}
use Rattle.im_levels.proofs.ReadLemmas.{tree-some, tree-place, tree-read}
use Rattle.im_levels.proofs.steps.nodes.Nodes.read.Goals as goal

pub whole-before-requires : goal.whole-before-requires
whole-before-requires g c =
    let same : length c.as_slice-digests.result.now ≡ length c.args.self.now = ap (λ l. length l) (c.as_slice-digests.ensures.value ∙ c.self.view_is) in
    let few : length c.as_slice-digests.result.now < 2 ^ 64 = omega arith in
    omega (arith, c.requires.inside, tree-place c.args.tree.at c.args.tree.width c.requires.aligned)

pub overflow_sub-place : goal.overflow_sub-place
overflow_sub-place g c = omega (arith, tree-some c.args.tree.at c.args.tree.width c.requires.aligned)

pub overflow_mul-place : goal.overflow_mul-place
overflow_mul-place g c =
    let same : length c.as_slice-digests.result.now ≡ length c.args.self.now = ap (λ l. length l) (c.as_slice-digests.ensures.value ∙ c.self.view_is) in
    omega (arith, c.requires.inside, tree-place c.args.tree.at c.args.tree.width c.requires.aligned)

pub overflow_add-place : goal.overflow_add-place
overflow_add-place g c =
    let same : length c.as_slice-digests.result.now ≡ length c.args.self.now = ap (λ l. length l) (c.as_slice-digests.ensures.value ∙ c.self.view_is) in
    omega (arith, c.requires.inside, c.whole-before.ensures, tree-place c.args.tree.at c.args.tree.width c.requires.aligned)

pub bounds-digests-place : goal.bounds-digests-place
bounds-digests-place g c =
    let same : length c.as_slice-digests.result.now ≡ length c.args.self.now = ap (λ l. length l) (c.as_slice-digests.ensures.value ∙ c.self.view_is) in
    omega (arith, c.requires.inside, c.whole-before.ensures, tree-place c.args.tree.at c.args.tree.width c.requires.aligned)

pub offset_bounds-digests-place : goal.offset_bounds-digests-place
offset_bounds-digests-place g c =
    let same : length c.as_slice-digests.result.now ≡ length c.args.self.now = ap (λ l. length l) (c.as_slice-digests.ensures.value ∙ c.self.view_is) in
    let inside : c.whole-before.result + 2 * (c.args.tree.width - 1) < length c.as_slice-digests.result.now =
    omega (arith, c.requires.inside, c.whole-before.ensures, tree-place c.args.tree.at c.args.tree.width c.requires.aligned) in
    search rules

pub returns-clause-value : goal.returns-clause-value
returns-clause-value g c hash leaves inside stored =
    let same : c.as_slice-digests.result.now ≡ c.args.self.now = c.as_slice-digests.ensures.value ∙ c.self.view_is in
    tree-read hash leaves c.as_slice-digests.result.now c.args.tree.at c.args.tree.width c.whole-before.result c.whole-before.ensures c.requires.aligned inside
    (subst (λ d. AreStored hash leaves d) (sym same) stored)

pub returns-clause-fits : goal.returns-clause-fits
returns-clause-fits g c =
    let same : length c.as_slice-digests.result.now ≡ length c.args.self.now = ap (λ l. length l) (c.as_slice-digests.ensures.value ∙ c.self.view_is) in
    omega (arith, c.requires.inside, whole-most (c.args.tree.at + c.args.tree.width))
