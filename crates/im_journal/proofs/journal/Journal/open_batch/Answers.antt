use Rattle.std.proofs.Common.{arith, ◌<◌, ◌^◌, sym, ap, subst, [], ◌∷◌}
use Rattle.im_format.specs.Batches.{spans_of}
use Rattle.im_journal.specs.Pieces.{end_of}
use Rattle.im_journal.specs.declared.ends.Ends.{Ends}
use Rattle.im_journal.proofs.Held.{open_here}
use Rattle.im_journal.proofs.Mids.{mid_room, open_leaves}
use Rattle.std.specs.Prelude.{Ok, Err}
use Rattle.im_disk.specs.declared.calls.Call.TheVariants.{Wrote}
use Rattle.im_disk.specs.declared.disk.DiskError.TheVariants.{Failed, Memory}
use Rattle.im_journal.proofs.Making.{made_by}
use Rattle.im_journal.proofs.journal.Journal.open_batch.Goals as goal

pub returns-in-Ok-clause-any_moment : goal.returns-in-Ok-clause-any_moment
returns-in-Ok-clause-any_moment g c hash history batches rs mid =
    open_leaves g.D.Disk.told hash history batches rs _ c.args.self.now c.self.view_is mid c.requires.sealed (g.D.Disk.told c.open_gate.new.disk)
    (c.open_gate.ensures.any_moment (end_of c.self.inside.ends) (spans_of batches) c.self.inside.batch.pieces.items)

pub returns-in-Err-Failed-clause-any_moment : goal.returns-in-Err-Failed-clause-any_moment
returns-in-Err-Failed-clause-any_moment g c hash history batches rs mid =
    open_leaves g.D.Disk.told hash history batches rs _ c.args.self.now c.self.view_is mid c.requires.sealed (g.D.Disk.told c.open_gate.new.disk)
    (c.open_gate.ensures.any_moment (end_of c.self.inside.ends) (spans_of batches) c.self.inside.batch.pieces.items)

pub returns-in-Err-Memory-clause-any_moment : goal.returns-in-Err-Memory-clause-any_moment
returns-in-Err-Memory-clause-any_moment g c hash history batches rs mid =
    open_leaves g.D.Disk.told hash history batches rs _ c.args.self.now c.self.view_is mid c.requires.sealed (g.D.Disk.told c.open_gate.new.disk)
    (c.open_gate.ensures.any_moment (end_of c.self.inside.ends) (spans_of batches) c.self.inside.batch.pieces.items)

pub open_gate-requires-clause-end : goal.open_gate-requires-clause-end
open_gate-requires-clause-end g c =
    let m = c.requires.mid in
    let room : c.self.inside.ends.commits < 2 ^ 61 = subst (λ (e : Ends). e.commits < 2 ^ 61) (sym (ap (λ j. j.ends) c.self.view_is)) (mid_room g.D.Disk.told m.0 m.1 m.2 m.3 c.args.self.now m.4 1) in
    omega (arith, room)

pub returns-in-Ok-clause-calls : goal.returns-in-Ok-clause-calls
returns-in-Ok-clause-calls g c = made_by g.D.Disk.told (λ k. Wrote 1 k.ends.commits (1 ∷ []) ∷ []) (λ k. Wrote 1 k.ends.commits (1 ∷ []) ∷ []) _ c.args.self.now c.self.view_is (g.D.Disk.told c.open_gate.new.disk) (Ok tt) c.in-Ok.ensures.calls

pub returns-in-Err-Failed-clause-calls : goal.returns-in-Err-Failed-clause-calls
returns-in-Err-Failed-clause-calls g c = made_by g.D.Disk.told (λ k. Wrote 1 k.ends.commits (1 ∷ []) ∷ []) (λ k. Wrote 1 k.ends.commits (1 ∷ []) ∷ []) _ c.args.self.now c.self.view_is (g.D.Disk.told c.open_gate.new.disk) (Err Failed) (rw c.in-Err-Failed.field-0-is at c.in-Err-Failed.ensures.calls)

pub returns-in-Err-Memory-clause-calls : goal.returns-in-Err-Memory-clause-calls
returns-in-Err-Memory-clause-calls g c = made_by g.D.Disk.told (λ k. Wrote 1 k.ends.commits (1 ∷ []) ∷ []) (λ k. Wrote 1 k.ends.commits (1 ∷ []) ∷ []) _ c.args.self.now c.self.view_is (g.D.Disk.told c.open_gate.new.disk) (Err Memory) (rw c.in-Err-Memory.field-0-is at c.in-Err-Memory.ensures.calls)

pub returns-in-Ok-clause-here : goal.returns-in-Ok-clause-here
returns-in-Ok-clause-here g c hash history batches rs mid =
    open_here g.D.Disk.told hash history batches rs _ c.args.self.now c.self.view_is mid c.requires.sealed (g.D.Disk.told c.open_gate.new.disk) (c.open_gate.ensures.here (end_of c.self.inside.ends) (spans_of batches) c.self.inside.batch.pieces.items)

pub returns-in-Err-Failed-clause-here : goal.returns-in-Err-Failed-clause-here
returns-in-Err-Failed-clause-here g c hash history batches rs mid =
    open_here g.D.Disk.told hash history batches rs _ c.args.self.now c.self.view_is mid c.requires.sealed (g.D.Disk.told c.open_gate.new.disk) (c.open_gate.ensures.here (end_of c.self.inside.ends) (spans_of batches) c.self.inside.batch.pieces.items)

pub returns-in-Err-Memory-clause-here : goal.returns-in-Err-Memory-clause-here
returns-in-Err-Memory-clause-here g c hash history batches rs mid =
    open_here g.D.Disk.told hash history batches rs _ c.args.self.now c.self.view_is mid c.requires.sealed (g.D.Disk.told c.open_gate.new.disk) (c.open_gate.ensures.here (end_of c.self.inside.ends) (spans_of batches) c.self.inside.batch.pieces.items)
