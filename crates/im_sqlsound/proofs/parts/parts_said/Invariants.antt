use Rattle.std.proofs.Common.{◌≡◌, ◌≤◌, false, List, length, take, Some, All}
use Rattle.std.specs.List.{AllZip}
use Rattle.im_model.specs.declared.transactions.Transaction.{Transaction}
use Rattle.im_versions.specs.Versions.{last_version}
use Rattle.im_versions.specs.declared.versions.Version.{Version}
use Rattle.im_sqlmodel.specs.Kept.{IsSqlSound}
use Rattle.im_sqlsound.specs.Stepping.{IsPartBy}
use Rattle.im_sqlsound.proofs.parts.parts_said.Given as goal

-- the tables of the versions so far
abbrev pub invariant-loop-version : goal.invariant-loop-version
invariant-loop-version g l = (history : List Transaction) → g.V.KvView.stands l.view history → l.n ≤ length history → l.before ≤ length history → IsSqlSound (take l.before history)
    → All (λ (v : Version). (last_version (take l.before history) v.key ≡ Some v) × (v.deleted ≡ false)) l.said
    → AllZip (IsPartBy (take l.before history) (take l.n history) l.own) (take l.version-index l.said) l.tables.items
