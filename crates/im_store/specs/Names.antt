-- What names an opened store.
use Rattle.std.specs.Prelude.{ℕ, ℤ, List, Option}
use Rattle.im_digest.specs.Digests.{Hash}
use Rattle.im_disk.specs.Disk.{Told}
use Rattle.im_table.specs.Known.{TableId}
use Rattle.im_table.specs.declared.items.LogItem.{LogItem}

-- the tip, what was found, the number of value logs, the hash, what the disk told and how often it had failed as it was opened,
-- the time that the clock always gives and the times that it had given
pub record Naming : Type 0 where
  pub table : TableId
  pub found : List LogItem
  pub logs : ℕ
  pub digest : Hash
  pub synced : Option Told
  pub faults : ℕ
  pub time : Option ℤ
  pub given : Option (List ℤ)

-- what is seen of a store that was opened and has no name yet: the tip, what was found, the number of value logs, the hash function, the disk and
-- the clock
pub record Unnamed (H D C : Type 0) : Type 0 where
  pub table : TableId
  pub found : List LogItem
  pub logs : ℕ
  pub hash : H
  pub disk : D
  pub clock : C

-- what names it, by what these tell: the hash, what the disk tells and how often it has failed, the clock's times
abbrev pub naming_of : {H D C : Type 0} → (H → Hash) → (D → Option Told) → (D → ℕ) → (C → Option ℤ) → (C → Option (List ℤ)) → Unnamed H D C → Naming
naming_of digest told faults constant given o = record {
  table = o.table;
  found = o.found;
  logs = o.logs;
  digest = digest o.hash;
  synced = told o.disk;
  faults = faults o.disk;
  time = constant o.clock;
  given = given o.clock;
}
