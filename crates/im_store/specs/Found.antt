-- What a store is made of as it is opened.
use Rattle.std.specs.Prelude.{◌≡◌, ◌≤◌, ℕ, List, length, map, true, Option}
use Rattle.im_book.specs.Booked.{IsBook}
use Rattle.im_digest.specs.Digests.{Hash}
use Rattle.im_disk.specs.Disk.{Told}
use Rattle.im_format.specs.Batches.{joined}
use Rattle.im_format.specs.Records.{AreRecords}
use Rattle.im_format.specs.declared.records.Record.{Record}
use Rattle.im_index.specs.Indexed.{IsIndexOf}
use Rattle.im_journal.specs.Kept.{IsAtRest, Kept}
use Rattle.im_linker.specs.Trees.{IsTreeOf}
use Rattle.im_table.specs.Histories.{history_of}
use Rattle.im_table.specs.Known.{Place}
use Rattle.im_table.specs.Views.{opener}
use Rattle.im_table.specs.declared.items.LogItem.{LogItem}
use Rattle.im_store.specs.declared.opened.parts.Parts.{Parts}

-- the items of these records, each marked as found
abbrev pub items_of : List Record → List LogItem
items_of records = map (λ r. record { found = true; tx = r.tx; refs = r.refs }) records

-- the words and the parts of a store in which these records were found, of this number of value logs: the pass has each role and the whole weight, and
-- index, book, references and tree are those of all of them
pub record ArePartsOf (hash : Hash) (records : List Record) (logs : ℕ) (tip : Place) (parts : Parts) : Type 0 where
  pub found : tip.found ≡ items_of records
  pub logs_are : tip.logs ≡ logs
  pub some : 1 ≤ logs
  pub few : logs ≤ 4
  pub table : parts.pass.table ≡ tip.table
  pub view : parts.pass.view ≡ opener (items_of records)
  pub records_are : AreRecords hash (history_of (items_of records)) 1 records
  pub index_is : IsIndexOf parts.index (history_of (items_of records))
  pub transactions_are : parts.book.transactions ≡ history_of (items_of records)
  pub book_is : IsBook hash parts.book
  pub refs_are : parts.refs.items ≡ map (λ item. item.refs) (items_of records)
  pub tree_is : IsTreeOf hash (items_of records) parts.tree
  pub whole : parts.tree.size ≡ length (items_of records)

-- a store as it was opened: its journal is at rest, with batches of the records that were found, no call of its disk has failed, and its
-- parts are those of these records
pub record HoldsFound {D : Type 0} (told : D → Option Told) (hash : Hash) (logs : ℕ) (tip : Place) (journal : Kept D) (parts : Parts) : Type 0 where
  pub records : List Record
  pub batches : List (List Record)
  pub joined_is : joined batches ≡ records
  pub rests : IsAtRest told hash (history_of (items_of records)) batches journal
  pub all : journal.durable ≡ length records
  pub going : journal.failures ≡ 0
  pub parts_are : ArePartsOf hash records logs tip parts
