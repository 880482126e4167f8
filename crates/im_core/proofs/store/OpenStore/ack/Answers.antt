use Rattle.std.proofs.lemmas.Result.{IfOk-weaker}
use Rattle.im_core.proofs.UpLemmas.{acknowledged}
use Rattle.im_core.proofs.store.OpenStore.ack.Goals as goal

pub returns : goal.returns
returns c hash m session u =
    IfOk-weaker c.header.result _ _ (λ output gives. acknowledged hash c.args.self.now m u session c.args.number output gives) (c.header.ensures hash m u)
