use Rattle.im_machine_laws.proofs.AnswerLemmas.{answered-somehow}
use Rattle.im_machine_laws.proofs.RunLemmas.{sound-reached}
use Rattle.im_machine_laws.proofs.laws.an_allowed_event_is_answered.Goals as goal

pub returns : goal.returns
returns c = λ hash m event gives reached may. answered-somehow hash m event (sound-reached hash m gives reached) may
