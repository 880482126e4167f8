use Rattle.im_catalog.specs.Fronts.{StandsFirst, AreMany}
use Rattle.im_catalog.specs.Parts.{IsColumn, columns_text}
use Rattle.im_catalog.proofs.fields.read_columns.Given as goal

-- the columns so far were read, and what is left stands behind them
abbrev pub invariant-loop-at : goal.invariant-loop-at
invariant-loop-at l = StandsFirst (AreMany IsColumn l._at) columns_text l.text l.columns.items l.left
