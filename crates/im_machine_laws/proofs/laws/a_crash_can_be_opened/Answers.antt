use Rattle.im_machine_laws.proofs.MomentLemmas.{leaves-open}
use Rattle.im_machine_laws.proofs.OpenLemmas.{front-of}
use Rattle.im_machine_laws.proofs.RunLemmas.{opened-number, sound-reached}
use Rattle.im_machine_laws.proofs.laws.a_crash_can_be_opened.Goals as goal

pub returns-clause-allowed : goal.returns-clause-allowed
returns-clause-allowed c = λ hash m gives reached down.
    let from = front-of hash m gives (sound-reached hash m gives reached) down in
    (_, from.stands)

pub returns-clause-opened : goal.returns-clause-opened
returns-clause-opened c = λ hash m next number gives reached steps. opened-number hash m next number gives (sound-reached hash m gives reached) steps

pub returns-clause-at_every_moment : goal.returns-clause-at_every_moment
returns-clause-at_every_moment c = λ hash m next number gives reached steps. leaves-open hash m next number (sound-reached hash m gives reached) steps
