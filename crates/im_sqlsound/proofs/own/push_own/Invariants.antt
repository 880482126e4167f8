use Rattle.std.proofs.Common.{◌≡◌, ◌≤◌, ◌++◌, List, length, take, flat_map}
use Rattle.im_model.specs.declared.transactions.Transaction.{Transaction}
use Rattle.im_sqlsound.specs.Stepping.{live_of}
use Rattle.im_sqlsound.proofs.own.push_own.Given as goal

-- those of the keys so far are added
abbrev pub invariant-loop-version : goal.invariant-loop-version
invariant-loop-version g l = (history : List Transaction) → g.V.KvView.stands l.view history → l.n ≤ length history
    → l.live.items ≡ l.initial.live.items ++ flat_map (live_of (take l.n history) l.front) (take l.version-index l.own)
