-- What an index and its snapshots hold of a history.
use Rattle.std.specs.Prelude.{◌≡◌, ◌≤◌, ℕ, List, length, take}
use Rattle.im_model.specs.declared.transactions.Transaction.{Transaction}
use Rattle.im_versions.specs.Versions.{all_versions}
use Rattle.im_versions.specs.declared.versions.Version.{Version}
use Rattle.im_index.specs.Runs.{AreHalving, HoldInOrder}

-- runs, the oldest first, and a number of transactions
pub record Indexed : Type 0 where
  pub runs : List (List Version)
  pub taken : ℕ

-- the runs hold the versions of this history, and none is shorter than twice the one behind it
pub record AreRunsOf (runs : List (List Version)) (history : List Transaction) : Type 0 where
  pub holds : HoldInOrder runs (all_versions history)
  pub halving : AreHalving runs

-- an index of this history
pub record IsIndexOf (indexed : Indexed) (history : List Transaction) : Type 0 where
  pub runs : AreRunsOf indexed.runs history
  pub taken : indexed.taken ≡ length history

-- a snapshot that shows this history: its runs are of a history that begins with this one
pub record IsSnapshotOf (indexed : Indexed) (history : List Transaction) : Type 0 where
  pub whole : List Transaction
  pub runs : AreRunsOf indexed.runs whole
  pub first : history ≡ take indexed.taken whole
  pub within : indexed.taken ≤ length whole
