-- Placed transactions with their headers.
use Rattle.std.specs.Prelude.{◌≡◌, ℕ, List}
use Rattle.im_digest.specs.Digests.{Hash}
use Rattle.im_model.specs.History.{alhs_of, last_bl_or, IsHistory}
use Rattle.im_model.specs.declared.headers.Header.{Header}
use Rattle.im_model.specs.declared.transactions.Transaction.{Transaction}
use Rattle.im_proof.specs.Built.{headers_of}

-- the lists of a book, how many of its transactions the index of keys has, and how many transactions more they have
-- room for
pub record Booked : Type 0 where
  pub transactions : List Transaction
  pub headers : List Header
  pub alhs : List (List ℕ)
  pub keyed : ℕ
  pub room : ℕ

-- the lists are those of one history
pub record IsBook (hash : Hash) (book : Booked) : Type 0 where
  pub history : IsHistory book.transactions
  pub headers : book.headers ≡ headers_of hash book.transactions
  pub alhs : book.alhs ≡ alhs_of hash book.transactions

-- the size of the tree that the last transaction was placed over, 0 where there is none
abbrev pub last_bl : List Transaction → ℕ
last_bl history = last_bl_or 0 history
