use Rattle.im_machine_laws.proofs.MomentLemmas.{leaves-step}
use Rattle.im_machine_laws.proofs.RunLemmas.{sound-reached}
use Rattle.im_machine_laws.proofs.laws.each_image_holds_what_is_durable.Goals as goal

pub returns-clause-now : goal.returns-clause-now
returns-clause-now c = λ hash m image gives reached now. (sound-reached hash m gives reached).images image now

pub returns-clause-at_every_moment : goal.returns-clause-at_every_moment
returns-clause-at_every_moment c = λ hash m next event output gives reached e steps other.
    leaves-step hash m next event output gives (sound-reached hash m gives reached) e steps other
