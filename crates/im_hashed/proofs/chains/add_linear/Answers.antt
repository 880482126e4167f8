use Rattle.std.proofs.lemmas.Result.{IfOk-weaker}
use Rattle.im_hashed.proofs.WalkLemmas.{linear-none, linear-some}
use Rattle.im_hashed.proofs.chains.add_linear.Goals as goal

pub returns-in-None : goal.returns-in-None
returns-in-None g c = linear-none (g.H.Hash32.digest c.args.hash.now) c.args.from c.args.terms.now c.args.out.now.items c.in-None.ensures.cases

pub returns-in-Some : goal.returns-in-Some
returns-in-Some g c =
    IfOk-weaker c.add_chain.result _ _
    (λ r h. linear-some (g.H.Hash32.digest c.args.hash.now) c.args.from c.in-Some.first.now c.args.terms.now c.in-Some.inners.now c.args.out.now.items c.add_chain.new.out.items c.in-Some.ensures.cases.0 h)
    c.add_chain.ensures
