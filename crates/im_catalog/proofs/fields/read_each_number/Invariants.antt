use Rattle.im_catalog.specs.Fronts.{StandsFirst, AreMany}
use Rattle.im_catalog.specs.Parts.{FitsTwo, fields_text}
use Rattle.im_catalog.proofs.fields.read_each_number.Given as goal

-- the numbers so far were read, and what is left stands behind them
abbrev pub invariant-loop-at : goal.invariant-loop-at
invariant-loop-at l = StandsFirst (AreMany FitsTwo l._at) fields_text l.text l.numbers.items l.left
