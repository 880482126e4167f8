use Rattle.im_machine.specs.Machines.{start}
use Rattle.im_core.proofs.run.run_events.Goals as goal

pub run_on-outputs-requires : goal.run_on-outputs-requires
run_on-outputs-requires g c = (start, c.in_ok-core.ensures)

pub returns-clause-run : goal.returns-clause-run
returns-clause-run g c = c.run_on-outputs.ensures.run start c.in_ok-core.ensures

pub returns-clause-one_each : goal.returns-clause-one_each
returns-clause-one_each g c = c.run_on-outputs.ensures.one_each
