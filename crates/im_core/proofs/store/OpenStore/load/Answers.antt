use Rattle.im_core.proofs.UpLemmas.{loads}
use Rattle.im_core.proofs.store.OpenStore.load.Goals as goal

pub returns : goal.returns
returns c hash m session u = loads hash c.args.self.now m u session c.args.word c.word-number.result (c.word-number.ensures hash m u)
