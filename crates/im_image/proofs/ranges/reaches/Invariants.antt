use Rattle.std.proofs.Common.{◌≤◌, ◌↔◌, length, reverse}
use Rattle.im_image.specs.Remains.{ranges_of, furthest_end}
use Rattle.im_image.proofs.ranges.reaches.Given as goal

abbrev pub invariant-loop-call : goal.invariant-loop-call
invariant-loop-call l =
    (l.len ≤ furthest_end l.end (ranges_of (reverse l.calls) l.file)) ↔ (l.len ≤ furthest_end l.end (ranges_of (reverse l.rest) l.file))

abbrev pub decreases-loop-call : goal.decreases-loop-call
decreases-loop-call l = length l.rest
