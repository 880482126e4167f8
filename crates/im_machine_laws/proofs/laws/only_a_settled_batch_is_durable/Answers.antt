use Rattle.std.proofs.Common.{arith}
use Rattle.im_machine_laws.proofs.SettleLemmas.{durable-same}
use Rattle.im_machine_laws.proofs.laws.only_a_settled_batch_is_durable.Goals as goal

pub returns-clause-same : goal.returns-clause-same
returns-clause-same c = λ hash m next event output steps settled opened. durable-same hash m next event output steps settled opened

pub returns-clause-unacknowledged : goal.returns-clause-unacknowledged
returns-clause-unacknowledged c = λ hash m session number behind may. omega (arith, behind, may.1.within)
