-- Placed transactions, with an index of the keys of the first of them.
use Rattle.std.specs.Prelude.{◌≤◌, ℕ, List, length, take}
use Rattle.im_model.specs.declared.transactions.Transaction.{Transaction}
use Rattle.im_index.specs.Indexed.{Indexed, IsIndexOf}
use Rattle.im_index.specs.Keys.{bare}

-- transactions, how many of them the index has, and how many more there is room for
pub record Keyed : Type 0 where
  pub transactions : List Transaction
  pub keyed : ℕ
  pub room : ℕ

-- an index of the keys of the first of these transactions
pub record IsKeyed (keys : Indexed) (transactions : List Transaction) : Type 0 where
  pub within : keys.taken ≤ length transactions
  pub first : IsIndexOf keys (bare (take keys.taken transactions))
