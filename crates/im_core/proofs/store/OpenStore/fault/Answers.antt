use Rattle.std.proofs.Common.{arith}
use Rattle.im_core.proofs.UpLemmas.{faulted}
use Rattle.im_core.proofs.store.OpenStore.fault.Goals as goal

pub returns : goal.returns
returns c hash m u = faulted hash c.args.self.now m u c.saturating_add-failures.result (omega (arith, c.saturating_add-failures.ensures))
