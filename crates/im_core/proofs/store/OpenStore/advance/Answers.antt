use Rattle.std.proofs.Common.{ap, Option}
use Rattle.im_machine.specs.declared.outputs.Output.TheVariants as says
use Rattle.im_proof.specs.declared.proofs.DualProof.{DualProof}
use Rattle.im_core.proofs.store.OpenStore.advance.Goals as goal

pub returns-in-Ok : goal.returns-in-Ok
returns-in-Ok g c m u = ap (λ (a : Option DualProof). says.Advance c.args.dual a) (c.in-Ok.ensures m u)
