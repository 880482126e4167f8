-- The records of items, as the files keep them.
use Rattle.std.specs.Prelude.{◌≡◌, ◌+◌, ◌≤◌, ℕ, List, length, map, take, drop}
use Rattle.im_digest.specs.Digests.{Hash}
use Rattle.im_format.specs.Records.{AreRecords}
use Rattle.im_format.specs.declared.records.Record.{Record}
use Rattle.im_table.specs.Histories.{history_of}
use Rattle.im_table.specs.declared.items.LogItem.{LogItem}

-- these are the records of as many items, behind so many others of the list
pub record AreRecordsOf (hash : Hash) (items : List LogItem) (behind : ℕ) (rs : List Record) : Type 0 where
  pub within : behind + length rs ≤ length items
  pub transactions_are : map (λ r. r.tx) rs ≡ take (length rs) (drop behind (history_of items))
  pub refs_are : map (λ r. r.refs) rs ≡ take (length rs) (drop behind (map (λ item. item.refs) items))
  pub records_are : AreRecords hash (history_of items) (behind + 1) rs
