use Rattle.std.proofs.Common.{take}
use Rattle.im_text.specs.Cuts.{Lacks}
use Rattle.im_text.proofs.cuts.cut.Given as goal

abbrev pub invariant-loop-i : goal.invariant-loop-i
invariant-loop-i l = Lacks l.mark (take l.i l.text)
