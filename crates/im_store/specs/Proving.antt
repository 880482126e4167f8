-- What proofs are built of.
use Rattle.std.specs.Prelude.{◌≡◌, ◌≤◌, ℕ, List, length, map, slice_index_or}
use Rattle.im_digest.specs.Digests.{Hash}
use Rattle.im_levels.specs.Leveled.{Stored}
use Rattle.im_linker.specs.Trees.{IsTreeOf}
use Rattle.im_model.specs.Entries.{entry_digest}
use Rattle.im_model.specs.History.{transaction_of, IsHistory}
use Rattle.im_model.specs.declared.transactions.Transaction.{Transaction}
use Rattle.im_proof.specs.Between.{dual_between, no_entry}
use Rattle.im_proof.specs.Built.{path_of}
use Rattle.im_table.specs.Histories.{history_of}
use Rattle.im_table.specs.declared.items.LogItem.{LogItem}
use Rattle.im_store.specs.declared.answers.ProvedEntry.{ProvedEntry}

-- the items are a history, the tree has the first Alh of them, and all of the tree that transaction n was placed over
pub record IsProvedOver (hash : Hash) (items : List LogItem) (tree : Stored) (n : ℕ) : Type 0 where
  pub history : IsHistory (history_of items)
  pub leaves : IsTreeOf hash items tree
  pub some : 1 ≤ n
  pub within : n ≤ length items
  pub over : (transaction_of (history_of items) n).bl ≤ tree.size

-- an entry of a transaction of a history, by its index, its path, and the dual proof from the transaction to the state
pub record ProvesEntry (hash : Hash) (history : List Transaction) (number index state : ℕ) (item : ProvedEntry) : Type 0 where
  pub dual_is : item.dual ≡ dual_between hash history number state
  pub entry_is : item.entry ≡ slice_index_or (transaction_of history number).entries index no_entry
  pub index_is : item.index ≡ index
  pub path_is : item.path ≡ path_of hash (map (entry_digest hash) (transaction_of history number).entries) index
