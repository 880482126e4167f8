use Rattle.std.proofs.Common.{◌≡◌, take}
use Rattle.im_sqltype.specs.Texts.{row_text}
use Rattle.im_sqltype.proofs.texts.row_text.Given as goal

-- the texts of the values so far were written
abbrev pub invariant-loop-value : goal.invariant-loop-value
invariant-loop-value l = l.out ≡ row_text (take l.value-index l.values)
