use Rattle.std.proofs.Common.{◌≡◌, ◌≤◌, ℕ, length, get_or}
use Rattle.im_dealing.proofs.WriteLemmas.{IsWritten}
use Rattle.im_dealing.specs.Written.{texts_left}
use Rattle.im_dealing.proofs.writing.write_front.Given as goal

abbrev pub invariant-loop-number : goal.invariant-loop-number
invariant-loop-number g l = record {
  room : length l.next ≡ 8;
  small : (i : ℕ) → get_or l.next i 0 ≤ l.number-index;
  written : IsWritten l.order l.next (texts_left l.ended) l.number-index (g.K.Sink.written l.initial.sink) (g.K.Sink.written l.sink);
  faults : g.K.Sink.faults l.sink ≡ g.K.Sink.faults l.initial.sink;
}
