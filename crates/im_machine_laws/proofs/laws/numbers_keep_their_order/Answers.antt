use Rattle.im_machine_laws.proofs.RunLemmas.{sound-reached}
use Rattle.im_machine_laws.proofs.laws.numbers_keep_their_order.Goals as goal

pub returns : goal.returns
returns c = λ hash m session gives reached.
    let s = sound-reached hash m gives reached in
    (s.history, s.order.linked_durable, s.order.indexed_durable, s.order.durable_placed, s.sessions session)
