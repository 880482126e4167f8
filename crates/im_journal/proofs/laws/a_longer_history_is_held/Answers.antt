use Rattle.im_journal.proofs.Longer.{batch_longer, held_longer, rest_longer}
use Rattle.im_journal.proofs.laws.a_longer_history_is_held.Goals as goal

pub returns-clause-at_rest : goal.returns-clause-at_rest
returns-clause-at_rest g c hash history more batches is rest = rest_longer g.D.Disk.told hash history more batches c.args._journal.now is rest

pub returns-clause-in_batch : goal.returns-clause-in_batch
returns-clause-in_batch g c hash history more batches rs is mid = batch_longer g.D.Disk.told hash history more batches rs c.args._journal.now is mid

pub returns-clause-held : goal.returns-clause-held
returns-clause-held g c hash history more batches is held = held_longer g.D.Disk.told hash history more batches c.args._journal.now is held
