use Rattle.im_store_laws.proofs.BatchEvents.{batch_events, last_events}
use Rattle.im_store_laws.proofs.BesideEvents.{rest_kept}
use Rattle.im_store_laws.proofs.ReachedEvents.{rests_there}
use Rattle.im_store_laws.proofs.laws.a_batch_is_stage_seal_gate_settle.Goals as goal

pub returns-clause-steps : goal.returns-clause-steps
returns-clause-steps c = λ hash n durable history before now made. batch_events hash n durable history before now made

pub returns-clause-last : goal.returns-clause-last
returns-clause-last c = λ hash n durable history before now made. last_events hash n durable history before now made

pub returns-clause-between : goal.returns-clause-between
returns-clause-between c = λ hash m next event output batches t beside step rests. rest_kept hash m next event output batches t beside step rests

pub returns-clause-rests : goal.returns-clause-rests
returns-clause-rests c = λ hash n durable history before now made m gives reached holds going idle count disk.
    rests_there hash n durable history before now made m gives reached holds going idle count disk
