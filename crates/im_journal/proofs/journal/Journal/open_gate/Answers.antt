use Rattle.im_journal.specs.declared.batches.Step.TheVariants.{Gated}
use Rattle.im_journal.proofs.Held.{held_by}
use Rattle.im_journal.proofs.Mids.{stays_at_last}
use Rattle.im_journal.proofs.journal.Journal.open_gate.Goals as goal

pub returns-in_err-go-clause-any_moment : goal.returns-in_err-go-clause-any_moment
returns-in_err-go-clause-any_moment g c hash history batches rs mid = stays_at_last g.D.Disk.told hash history batches rs c.args.self.now mid

pub returns-clause-batch : goal.returns-clause-batch
returns-clause-batch g c = c.open_batch.ensures.err

pub returns-clause-ok : goal.returns-clause-ok
returns-clause-ok g c = c.open_batch.ensures.ok

pub returns-clause-again : goal.returns-clause-again
returns-clause-again g c = c.open_batch.ensures.memory

pub returns-clause-any_moment : goal.returns-clause-any_moment
returns-clause-any_moment g c = c.open_batch.ensures.any_moment

pub returns-clause-calls : goal.returns-clause-calls
returns-clause-calls g c = c.open_batch.ensures.calls

pub returns-clause-step : goal.returns-clause-step
returns-clause-step g c = c.open_batch.ensures.step

pub returns-clause-kept : goal.returns-clause-kept
returns-clause-kept g c = c.open_batch.ensures.kept

pub returns-clause-pieces : goal.returns-clause-pieces
returns-clause-pieces g c = c.open_batch.ensures.pieces

pub returns-clause-held : goal.returns-clause-held
returns-clause-held g c hash history batches rs mid e =
    held_by g.D.Disk.told hash history batches rs c.args.self.now c.open_batch.new.self Gated mid c.open_batch.ensures.kept.0 c.open_batch.ensures.kept.1
    (c.open_batch.ensures.any_moment hash history batches rs mid).1 (c.open_batch.ensures.here hash history batches rs mid)
