-- How far the files were read, and what was read of them.
use Rattle.std.specs.Prelude.{◌≡◌, ◌≤◌, ◌+◌, ℕ, List, [], ◌∷◌, ◌++◌, length, map, take}
use Rattle.im_digest.specs.Digests.{Hash}
use Rattle.im_disk.specs.Disk.{Files}
use Rattle.im_format.specs.Damages.{Reached, behind, behind_one}
use Rattle.im_format.specs.Records.{AreReferences, records_octets}
use Rattle.im_format.specs.declared.records.Record.{Record}
use Rattle.im_levels.specs.Leveled.{Stored, IsLeveled}
use Rattle.im_model.specs.History.{Follow, alhs_of, bl_root_of, last_bl_or}
use Rattle.im_model.specs.declared.transactions.Transaction.{Transaction}
use Rattle.im_proof.specs.Built.{headers_of}
use Rattle.im_record.specs.Back.{record_in}
use Rattle.im_opening.specs.Parts.{records_in}
use Rattle.im_opening.specs.declared.records.Progress.{Progress}

-- as the definition of an image's checks tells it
abbrev pub reached_of : Progress → Reached
reached_of p = record { alhs = p.alhs.items; bl = p.bl; place = p.place }

-- the transactions of records
abbrev pub txs_of : List Record → List Transaction
txs_of records = map (λ r. r.tx) records

-- the references of records, from this ID on, are those of their values
abbrev pub AreReferred : Hash → ℕ → List Record → Type 0
AreReferred hash id [] = Unit {0}
AreReferred hash id (r ∷ rs) = AreReferences hash id r.tx.entries r.refs × AreReferred hash (id + 1) rs

-- records of a history: their transactions follow each other, and their Alh are the history's; the last one's
-- tree has this size, this root and these digests of its whole subtrees
pub record IsConsistent (hash : Hash) (records : List Record) (alhs : List (List ℕ)) (bl : ℕ) (bl_root : List ℕ) (tree : Stored) : Type 0 where
  pub few : length alhs ≤ 1048576
  pub follow : Follow 0 0 (txs_of records)
  pub last : last_bl_or 0 (txs_of records) ≡ bl
  pub linked : bl ≤ length alhs
  pub root_is : bl_root ≡ bl_root_of hash alhs bl
  pub tree_is : IsLeveled hash (take bl alhs) tree
  pub alhs_are : alhs ≡ alhs_of hash (txs_of records)
  pub kept : map (λ r. r.alh) records ≡ alhs
  pub refer : AreReferred hash 1 records

-- what was read so far is the records of a history, with the Alh and the tree behind them
abbrev pub Fits : Hash → Progress → Type 0
Fits hash p = IsConsistent hash p.records.items p.alhs.items p.bl p.bl_root p.tree

-- the records that were read end where their octets do, and each has its header
pub record IsWholeProgress (hash : Hash) (p : Progress) : Type 0 where
  pub place_is : p.place ≡ length (records_octets 1 p.records.items)
  pub headers_are : p.headers.items ≡ headers_of hash (txs_of p.records.items)

-- one record more was read, as the image has it
pub record IsOneMore (hash : Hash) (image : Files) (before now : Progress) : Type 0 where
  pub records_are : now.records.items ≡ before.records.items ++ record_in image before.place ∷ []
  pub reached_is : reached_of now ≡ behind_one hash image (reached_of before)

-- so many records more were read, as the image has them
pub record AreMore (hash : Hash) (image : Files) (count : ℕ) (before now : Progress) : Type 0 where
  pub records_are : now.records.items ≡ before.records.items ++ records_in image before.place count
  pub reached_is : reached_of now ≡ behind hash image count (reached_of before)
