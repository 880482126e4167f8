use Rattle.im_journal.proofs.journal.Journal.begin.Goals as goal

pub returns-clause-begun : goal.returns-clause-begun
returns-clause-begun g c = c.in_ok-begin_batch.ensures.ok
