use Rattle.std.proofs.Common.{rules, ◌-◌, ◌∙◌, reverse, arith, subst}
use Rattle.std.proofs.lemmas.Result.{IfOk-weaker}
use Rattle.std.proofs.lemmas.List.{length-reverse}
use Rattle.im_pathmove.specs.Walked.{HaveShape, IsJoined}
use Rattle.im_pathmove.specs.declared.carried.Carried.{Carried}
use Rattle.im_pathmove.proofs.WalkLemmas.{walked-whole, walked-beside}
use Rattle.im_pathmove.proofs.TurnLemmas.{IfOk-is, shape-beside, shape-below, walked-across, walked-below}
use Rattle.im_pathmove.proofs.walks.+walk.Goals as goal

pub returns-in-None : goal.returns-in-None
returns-in-None g t c =
    IfOk-is c.whole.result _ _
    (walked-whole (g.H.Hash32.digest c.args.hash.now) c.args.m c.args.n c.args.i c.args.leaf.now c.args.path.now c.args.first.now (reverse c.args.others.now) (length-reverse c.args.others.now ∙ c.in-None.ensures.cases) c.requires)
    c.whole.ensures

pub walk-requires : goal.walk-requires
walk-requires g t c κs within =
    let a : HaveShape c.args.m c.split-k.result c.args.i (reverse c.args.path.now) c.args.first.now (reverse c.in-Some.front.now) =
    shape-beside c.args.m c.args.n c.args.i c.split-k.result (reverse c.args.path.now) c.args.first.now c.args.others.now c.in-Some.front.now c.in-Some.term.now
    c.in-Some.ensures.cases.0 c.requires c.split-k.ensures.value c.if-m-k.true in
    search (rules, a)

pub returns-then-m-k : goal.returns-then-m-k
returns-then-m-k g t c =
    IfOk-is c.beside.result _ _
    (walked-beside (g.H.Hash32.digest c.args.hash.now) c.args.m c.args.n c.args.i c.split-k.result c.args.leaf.now (reverse c.args.path.now) c.args.first.now c.args.others.now c.in-Some.front.now c.in-Some.term.now
    c.in_ok-walked-in-Some.walked c.in-Some.ensures.cases.0 c.requires c.split-k.ensures.value c.if-m-k.true c.in_ok-walked-in-Some.ensures)
    c.beside.ensures

pub returns-then-i-k : goal.returns-then-i-k
returns-then-i-k g t c =
    IfOk-weaker c.joined.result _ _
    (λ w j. walked-across (g.H.Hash32.digest c.args.hash.now) (λ s. g.met.H.Hash32.size c.args.hash.now s) c.args.m c.args.n c.args.i c.split-k.result c.args.leaf.now c.args.path.now c.last_of.result.1.now c.last_of.result.0.now
    c.args.first.now c.args.others.now c.in-Some.front.now c.in-Some.term.now c.root_by_path-left.result c.roots_of-roots.result.older c.roots_of-roots.result.newer w
    c.last_of.ensures.value c.in-Some.ensures.cases.0 c.requires c.split-k.ensures.value (omega arith) c.if-i-k.true
    c.root_by_path-left.ensures c.roots_of-roots.ensures.older c.roots_of-roots.ensures.newer
    (subst (λ (kept : Carried). IsJoined (g.H.Hash32.digest c.args.hash.now) c.root_by_path-left.result c.last_of.result.0.now c.in-Some.term.now c.roots_of-roots.result.older c.roots_of-roots.result.newer kept w) c.in_ok-kept-in-Some.ensures j))
    c.joined.ensures

pub walk-requires-in-Some : goal.walk-requires-in-Some
walk-requires-in-Some g t c κs within =
    let a : HaveShape (c.args.m - c.split-k.result) (c.args.n - c.split-k.result) (c.args.i - c.split-k.result) (reverse c.last_of.result.1.now) c.args.first.now (reverse c.in-Some.front.now) =
    shape-below c.args.m c.args.n c.args.i c.split-k.result c.args.path.now c.last_of.result.1.now c.last_of.result.0.now c.args.first.now c.args.others.now c.in-Some.front.now c.in-Some.term.now
    c.last_of.ensures.value c.in-Some.ensures.cases.0 c.requires c.split-k.ensures.value (omega arith) (omega arith) in
    search (rules, a)

pub returns-in_ok-walked-in-Some-2 : goal.returns-in_ok-walked-in-Some-2
returns-in_ok-walked-in-Some-2 g t c =
    IfOk-weaker c.below.result _ _
    (λ w j. walked-below (g.H.Hash32.digest c.args.hash.now) c.args.m c.args.n c.args.i c.split-k.result c.args.leaf.now c.args.path.now c.last_of.result.1.now c.last_of.result.0.now
    c.args.first.now c.args.others.now c.in-Some.front.now c.in-Some.term.now c.in_ok-walked-in-Some-2.walked w
    c.last_of.ensures.value c.in-Some.ensures.cases.0 c.requires c.split-k.ensures.value (omega arith) (omega arith) c.in_ok-walked-in-Some-2.ensures j)
    c.below.ensures
