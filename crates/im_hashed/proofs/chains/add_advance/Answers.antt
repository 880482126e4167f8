use Rattle.std.proofs.lemmas.Result.{IfOk-weaker}
use Rattle.im_hashed.proofs.WalkLemmas.{advance-none, advance-some}
use Rattle.im_hashed.proofs.chains.add_advance.Goals as goal

pub returns-in-None : goal.returns-in-None
returns-in-None g c = advance-none (g.H.Hash32.digest c.args.hash.now) c.args.a c.args.size c.args.terms.now c.args.paths.now c.args.out.now.items c.in-None.ensures.cases

pub returns-in-Some : goal.returns-in-Some
returns-in-Some g c =
    IfOk-weaker c.add_walk.result _ _
    (λ r h. advance-some (g.H.Hash32.digest c.args.hash.now) c.args.a c.args.size c.in-Some.first.now c.args.terms.now c.in-Some.inners.now c.args.paths.now c.args.out.now.items c.add_walk.new.out.items c.in-Some.ensures.cases.0 h)
    c.add_walk.ensures
