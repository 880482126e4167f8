use Rattle.std.proofs.Common.{rules, ◌-◌, ◌∙◌, sym, reverse, arith, subst}
use Rattle.std.proofs.lemmas.List.{length-reverse}
use Rattle.std.proofs.lemmas.Result.{IfOk-weaker}
use Rattle.im_forge.specs.Parted.{ArePaths, IsParted}
use Rattle.im_forge.specs.declared.parts.Parted.{Parted}
use Rattle.im_forge.proofs.PartLemmas.{parted-leaves, cut-left, cut-right, parted-cut_left, parted-cut_right}
use Rattle.im_forge.proofs.parts.+part.Goals as goal

pub returns-in-None : goal.returns-in-None
returns-in-None g t c =
    IfOk-weaker c.leaves.result _ _
    (λ p is. subst (λ (q : Parted). IsParted (g.H.Hash32.digest c.args.hash.now) c.args.n c.args.i c.args.leaf.now c.args.leaf2.now (reverse c.args.path.now) (reverse c.args.path2.now) q) (sym is)
    (parted-leaves (g.H.Hash32.digest c.args.hash.now) c.args.n c.args.i c.args.leaf.now c.args.leaf2.now (reverse c.args.path.now) (reverse c.args.path2.now)
    (length-reverse c.args.path.now ∙ c.in-None.ensures.cases) c.requires))
    c.leaves.ensures

pub part-requires : goal.part-requires
part-requires g t c κs within =
    let a : ArePaths c.split-k.result c.args.i c.args.leaf.now c.args.leaf2.now (reverse c.in-Some.front.now) (reverse c.last_of.result.1.now) =
    cut-left (g.H.Hash32.digest c.args.hash.now) c.args.n c.args.i c.split-k.result c.args.leaf.now c.args.leaf2.now c.args.path.now c.args.path2.now c.in-Some.front.now c.last_of.result.1.now c.in-Some.term.now c.last_of.result.0.now
    c.in-Some.ensures.cases.0 c.last_of.ensures.value c.requires c.split-k.ensures.value c.if-i-k.true in
    search (rules, a)

pub returns-then-i-k : goal.returns-then-i-k
returns-then-i-k g t c =
    IfOk-weaker c.over_left.result _ _
    (λ p o. parted-cut_left (g.H.Hash32.digest c.args.hash.now) (λ s. g.met.H.Hash32.size c.args.hash.now s) c.args.n c.args.i c.split-k.result c.args.leaf.now c.args.leaf2.now c.args.path.now c.args.path2.now
    c.in-Some.front.now c.last_of.result.1.now c.in-Some.term.now c.last_of.result.0.now c.in_ok-below-in-Some.below p
    c.in-Some.ensures.cases.0 c.last_of.ensures.value c.requires c.split-k.ensures.value c.if-i-k.true c.in_ok-below-in-Some.ensures o)
    c.over_left.ensures

pub part-requires-in-Some : goal.part-requires-in-Some
part-requires-in-Some g t c κs within =
    let a : ArePaths (c.args.n - c.split-k.result) (c.args.i - c.split-k.result) c.args.leaf.now c.args.leaf2.now (reverse c.in-Some.front.now) (reverse c.last_of.result.1.now) =
    cut-right (g.H.Hash32.digest c.args.hash.now) c.args.n c.args.i c.split-k.result c.args.leaf.now c.args.leaf2.now c.args.path.now c.args.path2.now c.in-Some.front.now c.last_of.result.1.now c.in-Some.term.now c.last_of.result.0.now
    c.in-Some.ensures.cases.0 c.last_of.ensures.value c.requires c.split-k.ensures.value (omega arith) in
    search (rules, a)

pub returns-in_ok-below-in-Some-2 : goal.returns-in_ok-below-in-Some-2
returns-in_ok-below-in-Some-2 g t c =
    IfOk-weaker c.over_right.result _ _
    (λ p o. parted-cut_right (g.H.Hash32.digest c.args.hash.now) c.args.n c.args.i c.split-k.result c.args.leaf.now c.args.leaf2.now c.args.path.now c.args.path2.now
    c.in-Some.front.now c.last_of.result.1.now c.in-Some.term.now c.last_of.result.0.now c.in_ok-below-in-Some-2.below p
    c.in-Some.ensures.cases.0 c.last_of.ensures.value c.requires c.split-k.ensures.value (omega arith) c.in_ok-below-in-Some-2.ensures o)
    c.over_right.ensures
