use Rattle.std.proofs.Common.{◌≤◌, ◌-◌, ℕ, List, length}
use Rattle.im_model.specs.declared.transactions.Transaction.{Transaction}
use Rattle.im_sqlsound.proofs.LoopLemmas.{IsUpto}
use Rattle.im_sqlsound.proofs.kept.kept.Given as goal

-- the keys are SQL's behind each transaction up to one that has the last version so far
abbrev pub invariant-loop-at : goal.invariant-loop-at
invariant-loop-at g l = (history : List Transaction) → g.V.KvView.stands l.view history → l.n ≤ length history → (l.at ≤ length l.all) × ((k : ℕ) × IsUpto history l.all l.at k)

abbrev pub decreases-loop-at : goal.decreases-loop-at
decreases-loop-at g l = length l.all - l.at
