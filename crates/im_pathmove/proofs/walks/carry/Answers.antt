use Rattle.std.proofs.Common.{◌-◌, ◌++◌, reverse, arith, subst, sym}
use Rattle.im_model.specs.Paths.{up, up_strings}
use Rattle.im_model.specs.Growth.{newer_root, consistency_strings}
use Rattle.im_pathmove.specs.Carried.{IsCarried}
use Rattle.im_pathmove.specs.declared.carried.Carried.{Carried}
use Rattle.im_pathmove.proofs.TurnLemmas.{IfOk-is, shape-ready, carried-walked, carried-whole}
use Rattle.im_pathmove.proofs.walks.carry.Goals as goal

pub walk-requires : goal.walk-requires
walk-requires g c = shape-ready c.args.m c.args.n (c.args.i - 1) c.args.path.now c.args.consistency.now c.in-Some.others.now c.in-Some.first.now
    c.told-path c.told-consistency c.in-Some.ensures.cases.0 (omega arith) c.requires.grows c.requires.path c.requires.consistency

pub returns-in-None : goal.returns-in-None
returns-in-None g c = IfOk-is c.path_copy.result _ _
    (carried-whole (g.H.Hash32.digest c.args.hash.now) c.args.m c.args.n (c.args.i - 1) c.args.leaf.now c.args.path.now c.args.consistency.now c.told-path c.in-None.ensures.cases
    (omega arith) c.requires.grows c.requires.path c.requires.consistency)
    c.path_copy.ensures

pub returns-in_ok-walked-in-Some : goal.returns-in_ok-walked-in-Some
returns-in_ok-walked-in-Some g c =
    subst (λ (x : Carried). IsCarried (g.H.Hash32.digest c.args.hash.now) c.args.n (c.args.i - 1) c.args.leaf.now
    (newer_root (g.H.Hash32.digest c.args.hash.now) c.args.m c.args.n (up (g.H.Hash32.digest c.args.hash.now) c.args.m (c.args.i - 1) c.args.leaf.now (reverse c.args.path.now)) c.args.consistency.now)
    (up_strings (g.H.Hash32.digest c.args.hash.now) c.args.m (c.args.i - 1) c.args.leaf.now (reverse c.args.path.now) ++ consistency_strings (g.H.Hash32.digest c.args.hash.now) c.args.m c.args.n c.args.consistency.now) x)
    (sym c.carried_of.ensures)
    (carried-walked (g.H.Hash32.digest c.args.hash.now) c.args.m c.args.n (c.args.i - 1) c.args.leaf.now c.args.path.now c.args.consistency.now c.in-Some.others.now c.in-Some.first.now
    c.in_ok-walked-in-Some.walked c.in-Some.ensures.cases.0 c.in_ok-walked-in-Some.ensures c.requires.one_root)
