use Rattle.std.proofs.Common.{◌≡◌, length}
use Rattle.im_dealing.proofs.WriteLemmas.{IsFront}
use Rattle.im_dealing.specs.Written.{texts_left}
use Rattle.im_dealing.proofs.writing.front_of.Given as goal

abbrev pub invariant-loop-count : goal.invariant-loop-count
invariant-loop-count l = record {
  room : length l.next ≡ 8;
  front : IsFront l.order l.next (texts_left l.ended) l.count;
}
