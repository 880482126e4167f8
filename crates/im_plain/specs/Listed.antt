-- What the index as one list holds.
use Rattle.std.specs.Prelude.{◌≡◌, ℕ, List, length}
use Rattle.im_model.specs.declared.transactions.Transaction.{Transaction}
use Rattle.im_versions.specs.Versions.{all_versions}
use Rattle.im_versions.specs.declared.versions.Version.{Version}

-- the versions of a history, and the number of its transactions
pub record Listed : Type 0 where
  pub versions : List Version
  pub taken : ℕ

-- they are those of this history
pub record IsListOf (listed : Listed) (history : List Transaction) : Type 0 where
  pub versions : listed.versions ≡ all_versions history
  pub taken : listed.taken ≡ length history
