use Rattle.im_session.proofs.phase.help.Goals as goal

-- what both threads gave back
pub returns-clause-linker : goal.returns-clause-linker
returns-clause-linker g c = c.side_by_side.ensures.first.0

pub returns-clause-idle : goal.returns-clause-idle
returns-clause-idle g c = c.side_by_side.ensures.first.1

pub returns-clause-indexer : goal.returns-clause-indexer
returns-clause-indexer g c = c.side_by_side.ensures.second
