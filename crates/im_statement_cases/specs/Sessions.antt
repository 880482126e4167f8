-- What a session holds.
use Rattle.std.specs.Prelude.{◌≡◌, List}
use Rattle.im_model.specs.History.{IsHistory}
use Rattle.im_model.specs.declared.transactions.Transaction.{Transaction}
use Rattle.im_book.specs.Booked.{last_bl}
use Rattle.im_index.specs.Indexed.{Indexed, IsIndexOf}

-- a history that was placed over no tree, and the index of its keys
pub record IsSession (transactions : List Transaction) (indexed : Indexed) : Type 0 where
  pub history : IsHistory transactions
  pub trees : last_bl transactions ≡ 0
  pub index : IsIndexOf indexed transactions
