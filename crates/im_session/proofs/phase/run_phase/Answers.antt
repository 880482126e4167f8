use Rattle.im_session.proofs.phase.run_phase.Goals as goal

-- what the sessions' thread and the helpers' gave back
pub returns-clause-done : goal.returns-clause-done
returns-clause-done g c = c.side_by_side-linker.ensures.second

pub returns-clause-linker : goal.returns-clause-linker
returns-clause-linker g c = c.side_by_side-linker.ensures.first.0

pub returns-clause-idle : goal.returns-clause-idle
returns-clause-idle g c = c.side_by_side-linker.ensures.first.1

pub returns-clause-indexer : goal.returns-clause-indexer
returns-clause-indexer g c = c.side_by_side-linker.ensures.first.2
