use Rattle.im_machine_laws.proofs.GateLemmas.{crash-ungated, ungated-images}
use Rattle.im_machine_laws.proofs.RunLemmas.{sound-reached}
use Rattle.im_machine_laws.proofs.laws.a_closed_gate_keeps_its_batch_out.Goals as goal

pub returns-clause-images : goal.returns-clause-images
returns-clause-images c = λ hash m image gives reached up going ungated now. ungated-images hash m image (sound-reached hash m gives reached) up going ungated now

pub returns-clause-opened : goal.returns-clause-opened
returns-clause-opened c = λ hash m down next image number gives reached up going ungated crash opens.
    crash-ungated hash m down next image number gives (sound-reached hash m gives reached) up going ungated crash opens
