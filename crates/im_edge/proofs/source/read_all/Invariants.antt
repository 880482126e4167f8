use Rattle.std.proofs.Common.{◌≡◌, ◌≤◌, length, ◌-◌, ◌+◌}
use Rattle.std.specs.Io.KnownBytes.{Consumes}
use Rattle.im_edge.proofs.source.read_all.Given as goal

abbrev pub invariant-loop-buffer : goal.invariant-loop-buffer
invariant-loop-buffer g l = record {
  part : Consumes (g.S.Source.left l.fn.source) (g.S.Source.left l.source) l.octets.items;
  room : length l.buffer ≡ 4096;
  few : length l.octets.items ≤ l.most + 4096;
  same : g.S.Source.faults l.source ≡ g.S.Source.faults l.fn.source;
}

abbrev pub decreases-loop-buffer : goal.decreases-loop-buffer
decreases-loop-buffer g l = l.most + 1 - length l.octets.items
