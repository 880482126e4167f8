-- What a store is made of, from what was found.
use Rattle.std.specs.Prelude.{◌≡◌, ℕ, map}
use Rattle.im_index.specs.Indexed.{IsIndexOf}
use Rattle.im_opening.specs.declared.found.FoundHistory.{FoundHistory}
use Rattle.im_table.specs.Histories.{history_of}
use Rattle.im_table.specs.Known.{Place}
use Rattle.im_table.specs.Views.{opener}
use Rattle.im_store.specs.Found.{items_of}
use Rattle.im_store.specs.declared.opened.parts.Parts.{Parts}

-- the words of this number of value logs, and the parts, are made of what was found: the pass has each role and the whole weight, the book has the
-- headers and the Alh that were found, and the tree is the one that was found
pub record AreMadeOf (found : FoundHistory) (logs : ℕ) (tip : Place) (parts : Parts) : Type 0 where
  pub found_is : tip.found ≡ items_of found.records.items
  pub logs_are : tip.logs ≡ logs
  pub table : parts.pass.table ≡ tip.table
  pub view : parts.pass.view ≡ opener (items_of found.records.items)
  pub index_is : IsIndexOf parts.index (history_of (items_of found.records.items))
  pub transactions_are : parts.book.transactions ≡ history_of (items_of found.records.items)
  pub headers_are : parts.book.headers ≡ found.headers.items
  pub alhs_are : parts.book.alhs ≡ found.alhs.items
  pub refs_are : parts.refs.items ≡ map (λ item. item.refs) (items_of found.records.items)
  pub tree_is : parts.tree ≡ found.tree
