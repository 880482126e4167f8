use Rattle.std.proofs.lemmas.Result.{IfOk-weaker}
use Rattle.im_hashed.proofs.DualLemmas.{inclusion-not, inclusion-due}
use Rattle.im_hashed.proofs.duals.add_inclusion.Goals as goal

pub returns-then-s-size : goal.returns-then-s-size
returns-then-s-size g c = inclusion-not (g.H.Hash32.digest c.args.hash.now) c.args.s c.args.size c.args.alh.now c.args.path.now c.args.out.now.items c.if-s-size.true

pub returns : goal.returns
returns g c =
    IfOk-weaker c.add_path_of.result _ _
    (λ r h. inclusion-due (g.H.Hash32.digest c.args.hash.now) c.args.s c.args.size c.args.alh.now c.args.path.now c.args.out.now.items c.add_path_of.new.out.items c.if-s-size.false h)
    c.add_path_of.ensures
