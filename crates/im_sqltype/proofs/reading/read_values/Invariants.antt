use Rattle.std.proofs.Common.{take}
use Rattle.im_sqltype.specs.Reading.{BeginWith}
use Rattle.im_sqltype.proofs.reading.read_values.Given as goal

-- the values so far were read, and what is left stands behind them
abbrev pub invariant-loop-kind : goal.invariant-loop-kind
invariant-loop-kind l = BeginWith (take l.kind-index l.kinds) l.text l.values.items l.left
