use Rattle.std.proofs.Common.{length}
use Rattle.im_format.specs.Batches.{gate_of, spans_of}
use Rattle.im_journal.specs.Pieces.{end_of}
use Rattle.im_journal.proofs.Held.{put_here}
use Rattle.im_journal.proofs.Mids.{put_leaves}
use Rattle.std.specs.Prelude.{Ok, Err}
use Rattle.im_disk.specs.declared.disk.DiskError.TheVariants.{Failed, Memory}
use Rattle.im_journal.proofs.Making.{put_makes}
use Rattle.im_journal.proofs.journal.Journal.put_batch.Goals as goal

pub returns-in-Ok-clause-any_moment : goal.returns-in-Ok-clause-any_moment
returns-in-Ok-clause-any_moment g c hash history batches rs mid =
    put_leaves g.D.Disk.told hash history batches rs _ c.args.self.now c.self.view_is mid c.requires.staging c.as_slice.result.now c.as_slice.ensures.value (g.D.Disk.told c.put_pieces.new.disk)
    (c.put_pieces.ensures.any_moment (end_of c.self.inside.ends) (spans_of batches) (gate_of (length batches)))

pub returns-in-Err-Failed-clause-any_moment : goal.returns-in-Err-Failed-clause-any_moment
returns-in-Err-Failed-clause-any_moment g c hash history batches rs mid =
    put_leaves g.D.Disk.told hash history batches rs _ c.args.self.now c.self.view_is mid c.requires.staging c.as_slice.result.now c.as_slice.ensures.value (g.D.Disk.told c.put_pieces.new.disk)
    (c.put_pieces.ensures.any_moment (end_of c.self.inside.ends) (spans_of batches) (gate_of (length batches)))

pub returns-in-Err-Memory-clause-any_moment : goal.returns-in-Err-Memory-clause-any_moment
returns-in-Err-Memory-clause-any_moment g c hash history batches rs mid =
    put_leaves g.D.Disk.told hash history batches rs _ c.args.self.now c.self.view_is mid c.requires.staging c.as_slice.result.now c.as_slice.ensures.value (g.D.Disk.told c.put_pieces.new.disk)
    (c.put_pieces.ensures.any_moment (end_of c.self.inside.ends) (spans_of batches) (gate_of (length batches)))

pub returns-in-Ok-clause-calls : goal.returns-in-Ok-clause-calls
returns-in-Ok-clause-calls g c =
    put_makes g.D.Disk.told _ c.args.self.now c.self.view_is c.as_slice.result.now c.as_slice.ensures.value c.put_pieces.new.written (g.D.Disk.told c.put_pieces.new.disk) (Ok tt) c.in-Ok.ensures.calls

pub returns-in-Err-Failed-clause-calls : goal.returns-in-Err-Failed-clause-calls
returns-in-Err-Failed-clause-calls g c =
    put_makes g.D.Disk.told _ c.args.self.now c.self.view_is c.as_slice.result.now c.as_slice.ensures.value c.put_pieces.new.written (g.D.Disk.told c.put_pieces.new.disk) (Err Failed) (rw c.in-Err-Failed.field-0-is at c.in-Err-Failed.ensures.calls)

pub returns-in-Err-Memory-clause-calls : goal.returns-in-Err-Memory-clause-calls
returns-in-Err-Memory-clause-calls g c =
    put_makes g.D.Disk.told _ c.args.self.now c.self.view_is c.as_slice.result.now c.as_slice.ensures.value c.put_pieces.new.written (g.D.Disk.told c.put_pieces.new.disk) (Err Memory) (rw c.in-Err-Memory.field-0-is at c.in-Err-Memory.ensures.calls)

pub returns-in-Ok-clause-here : goal.returns-in-Ok-clause-here
returns-in-Ok-clause-here g c hash history batches rs mid =
    put_here g.D.Disk.told hash history batches rs _ c.args.self.now c.self.view_is mid c.requires.staging c.as_slice.result.now c.as_slice.ensures.value (g.D.Disk.told c.put_pieces.new.disk) (c.put_pieces.ensures.here (end_of c.self.inside.ends) (spans_of batches) (gate_of (length batches)))

pub returns-in-Err-Failed-clause-here : goal.returns-in-Err-Failed-clause-here
returns-in-Err-Failed-clause-here g c hash history batches rs mid =
    put_here g.D.Disk.told hash history batches rs _ c.args.self.now c.self.view_is mid c.requires.staging c.as_slice.result.now c.as_slice.ensures.value (g.D.Disk.told c.put_pieces.new.disk) (c.put_pieces.ensures.here (end_of c.self.inside.ends) (spans_of batches) (gate_of (length batches)))

pub returns-in-Err-Memory-clause-here : goal.returns-in-Err-Memory-clause-here
returns-in-Err-Memory-clause-here g c hash history batches rs mid =
    put_here g.D.Disk.told hash history batches rs _ c.args.self.now c.self.view_is mid c.requires.staging c.as_slice.result.now c.as_slice.ensures.value (g.D.Disk.told c.put_pieces.new.disk) (c.put_pieces.ensures.here (end_of c.self.inside.ends) (spans_of batches) (gate_of (length batches)))
