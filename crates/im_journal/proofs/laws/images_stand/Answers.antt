use Rattle.im_journal.proofs.Mids.{mid_stands, rest_stands}
use Rattle.im_journal.proofs.laws.images_stand.Goals as goal

pub returns-clause-at_rest : goal.returns-clause-at_rest
returns-clause-at_rest g c hash history batches rest = rest_stands g.D.Disk.told hash history batches c.args._journal.now rest

pub returns-clause-in_batch : goal.returns-clause-in_batch
returns-clause-in_batch g c hash history batches rs mid = mid_stands g.D.Disk.told hash history batches rs c.args._journal.now mid

pub returns-clause-held : goal.returns-clause-held
returns-clause-held g c hash history batches held = held.images
