use Rattle.std.proofs.lemmas.Result.{IfOk-weaker}
use Rattle.im_hashed.proofs.DualLemmas.{last-not, last-due}
use Rattle.im_hashed.proofs.duals.add_last.Goals as goal

pub returns-then-size-eq0 : goal.returns-then-size-eq0
returns-then-size-eq0 g c = last-not (g.H.Hash32.digest c.args.hash.now) c.args.size c.args.alh.now c.args.path.now c.args.out.now.items c.if-size-eq0.true

pub returns : goal.returns
returns g c =
    IfOk-weaker c.add_path_of.result _ _
    (λ r h. last-due (g.H.Hash32.digest c.args.hash.now) c.args.size c.args.alh.now c.args.path.now c.args.out.now.items c.add_path_of.new.out.items c.if-size-eq0.false h)
    c.add_path_of.ensures
