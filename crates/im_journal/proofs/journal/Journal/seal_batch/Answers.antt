use Rattle.std.proofs.Common.{length, [], ◌∷◌}
use Rattle.im_format.specs.Batches.{gate_of, spans_of}
use Rattle.im_journal.specs.Pieces.{end_of}
use Rattle.im_journal.proofs.Held.{seal_here}
use Rattle.im_journal.proofs.Mids.{seal_leaves}
use Rattle.std.specs.Prelude.{Ok, Err}
use Rattle.im_disk.specs.declared.calls.Call.TheVariants.{Synced}
use Rattle.im_disk.specs.declared.disk.DiskError.TheVariants.{Failed, Memory}
use Rattle.im_journal.proofs.Making.{made_by}
use Rattle.im_journal.proofs.journal.Journal.seal_batch.Goals as goal

pub returns-in-Ok-clause-any_moment : goal.returns-in-Ok-clause-any_moment
returns-in-Ok-clause-any_moment g c hash history batches rs mid =
    seal_leaves g.D.Disk.told hash history batches rs _ c.args.self.now c.self.view_is mid c.requires.staged (g.D.Disk.told c.seal_pieces.new.disk)
    (c.seal_pieces.ensures.any_moment (end_of c.self.inside.ends) (spans_of batches) (gate_of (length batches)) c.self.inside.batch.pieces.items)

pub returns-in-Err-Failed-clause-any_moment : goal.returns-in-Err-Failed-clause-any_moment
returns-in-Err-Failed-clause-any_moment g c hash history batches rs mid =
    seal_leaves g.D.Disk.told hash history batches rs _ c.args.self.now c.self.view_is mid c.requires.staged (g.D.Disk.told c.seal_pieces.new.disk)
    (c.seal_pieces.ensures.any_moment (end_of c.self.inside.ends) (spans_of batches) (gate_of (length batches)) c.self.inside.batch.pieces.items)

pub returns-in-Err-Memory-clause-any_moment : goal.returns-in-Err-Memory-clause-any_moment
returns-in-Err-Memory-clause-any_moment g c hash history batches rs mid =
    seal_leaves g.D.Disk.told hash history batches rs _ c.args.self.now c.self.view_is mid c.requires.staged (g.D.Disk.told c.seal_pieces.new.disk)
    (c.seal_pieces.ensures.any_moment (end_of c.self.inside.ends) (spans_of batches) (gate_of (length batches)) c.self.inside.batch.pieces.items)

pub returns-in-Ok-clause-calls : goal.returns-in-Ok-clause-calls
returns-in-Ok-clause-calls g c = made_by g.D.Disk.told (λ k. Synced ∷ []) (λ k. Synced ∷ []) _ c.args.self.now c.self.view_is (g.D.Disk.told c.seal_pieces.new.disk) (Ok tt) c.in-Ok.ensures.calls

pub returns-in-Err-Failed-clause-calls : goal.returns-in-Err-Failed-clause-calls
returns-in-Err-Failed-clause-calls g c = made_by g.D.Disk.told (λ k. Synced ∷ []) (λ k. Synced ∷ []) _ c.args.self.now c.self.view_is (g.D.Disk.told c.seal_pieces.new.disk) (Err Failed) (rw c.in-Err-Failed.field-0-is at c.in-Err-Failed.ensures.calls)

pub returns-in-Err-Memory-clause-calls : goal.returns-in-Err-Memory-clause-calls
returns-in-Err-Memory-clause-calls g c = made_by g.D.Disk.told (λ k. Synced ∷ []) (λ k. Synced ∷ []) _ c.args.self.now c.self.view_is (g.D.Disk.told c.seal_pieces.new.disk) (Err Memory) (rw c.in-Err-Memory.field-0-is at c.in-Err-Memory.ensures.calls)

pub returns-in-Ok-clause-here : goal.returns-in-Ok-clause-here
returns-in-Ok-clause-here g c hash history batches rs mid =
    seal_here g.D.Disk.told hash history batches rs _ c.args.self.now c.self.view_is mid c.requires.staged (g.D.Disk.told c.seal_pieces.new.disk) (c.seal_pieces.ensures.here (end_of c.self.inside.ends) (spans_of batches) (gate_of (length batches)) c.self.inside.batch.pieces.items)

pub returns-in-Err-Failed-clause-here : goal.returns-in-Err-Failed-clause-here
returns-in-Err-Failed-clause-here g c hash history batches rs mid =
    seal_here g.D.Disk.told hash history batches rs _ c.args.self.now c.self.view_is mid c.requires.staged (g.D.Disk.told c.seal_pieces.new.disk) (c.seal_pieces.ensures.here (end_of c.self.inside.ends) (spans_of batches) (gate_of (length batches)) c.self.inside.batch.pieces.items)

pub returns-in-Err-Memory-clause-here : goal.returns-in-Err-Memory-clause-here
returns-in-Err-Memory-clause-here g c hash history batches rs mid =
    seal_here g.D.Disk.told hash history batches rs _ c.args.self.now c.self.view_is mid c.requires.staged (g.D.Disk.told c.seal_pieces.new.disk) (c.seal_pieces.ensures.here (end_of c.self.inside.ends) (spans_of batches) (gate_of (length batches)) c.self.inside.batch.pieces.items)
