use Rattle.im_machine_laws.proofs.RunLemmas.{sound-reached, stays-step}
use Rattle.im_machine_laws.proofs.laws.what_is_durable_stays.Goals as goal

pub returns : goal.returns
returns c = λ hash m next event output gives reached steps.
    let stays = stays-step hash m next event output gives (sound-reached hash m gives reached) steps in
    (stays.more, stays.same)
