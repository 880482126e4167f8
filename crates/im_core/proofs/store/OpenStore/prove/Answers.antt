use Rattle.std.proofs.lemmas.Result.{IfOk-weaker}
use Rattle.im_core.proofs.UpLemmas.{proved}
use Rattle.im_core.proofs.store.OpenStore.prove.Goals as goal

pub returns : goal.returns
returns g c m session u =
    IfOk-weaker c.proof.result _ _ (λ output gives. proved (g.H.Hash32.digest c.args.hash.now) c.args.self.now m u session c.args.question output gives) (c.proof.ensures m u)
