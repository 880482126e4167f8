use Rattle.std.proofs.Common.{◌≡◌, ℕ, List, ◌≤◌, ◌-◌, length, take, drop}
use Rattle.std.specs.Prelude.{IfSome}
use Rattle.im_disk.specs.Moments.{Leaves}
use Rattle.im_format.specs.declared.spans.Span.{Span}
use Rattle.im_journal.specs.Made.{MadeUpTo, writes_of}
use Rattle.im_journal.specs.Phases.{IsSafe, IsStaging}
use Rattle.im_journal.proofs.steps.put_pieces.Given as goal

abbrev pub invariant-loop-written : goal.invariant-loop-written
invariant-loop-written g l =
    let told = g.D.Disk.told in
    record {
      forth : l.fn.written ≤ l.written;
      within : l.written ≤ length l.pieces;
      staging : (ends : ℕ → ℕ) (spans : List Span) (gate : ℕ) → IfSome (told l.fn.disk) (IsStaging ends spans gate (take l.fn.written l.pieces) (drop l.fn.written l.pieces))
          → IfSome (told l.disk) (IsStaging ends spans gate (take l.written l.pieces) (drop l.written l.pieces)) × Leaves (IsSafe ends spans gate) (told l.fn.disk) (told l.disk);
      made : MadeUpTo (writes_of (drop l.fn.written l.pieces)) (writes_of (drop l.written l.pieces)) (told l.fn.disk) (told l.disk);
      faults : g.D.Disk.faults l.disk ≡ g.D.Disk.faults l.fn.disk;
    }

abbrev pub decreases-loop-written : goal.decreases-loop-written
decreases-loop-written g l = length l.pieces - l.written
