-- What an image holds of a transaction's entries: the fields of each, and its value.
use Rattle.std.proofs.Common.{◌≡◌, ℕ, ◌+◌, List, [], ◌∷◌, length}
use Rattle.im_digest.specs.Digests.{Hash}
use Rattle.im_disk.specs.Disk.{Files}
use Rattle.im_model.specs.History.{IsEntry}
use Rattle.im_model.specs.declared.entries.Entry.{Entry}
use Rattle.im_format.specs.Batches.{value_span}
use Rattle.im_format.specs.Records.{IsReference}
use Rattle.im_format.specs.Spans.{Reads}
use Rattle.im_format.specs.Standing.{LiesIn}
use Rattle.im_format.specs.declared.references.ValueRef.{ValueRef}
use Rattle.im_format.proofs.EntryLemmas.{HasEntry, hval_place}

-- an entry of transaction id at a place, within the limits, and its value where its reference says
pub record HoldsEntry (hash : Hash) (image : Files) (id at : ℕ) (entry : Entry) (ref : ValueRef) : Type 0 where
  pub is : IsEntry entry
  pub refers : IsReference hash id entry.value ref
  pub size : length ref.hval ≡ 32
  pub has : HasEntry (image 0) at entry ref
  pub lies : LiesIn image ref
  pub reads : Reads image (value_span entry.value ref)

-- where it ends
abbrev pub entry_end : ℕ → Entry → ℕ
entry_end at entry = hval_place at (length entry.md) (length entry.key) + 45

-- entries that follow each other
abbrev pub HoldsEntries : Hash → Files → ℕ → ℕ → List Entry → List ValueRef → Type 0
HoldsEntries hash image id at [] [] = Unit {0}
HoldsEntries hash image id at [] (ref ∷ refs) = ⊥
HoldsEntries hash image id at (entry ∷ entries) [] = ⊥
HoldsEntries hash image id at (entry ∷ entries) (ref ∷ refs) =
    HoldsEntry hash image id at entry ref × HoldsEntries hash image id (entry_end at entry) entries refs

-- where they end
abbrev pub entries_end : ℕ → List Entry → ℕ
entries_end at [] = at
entries_end at (entry ∷ entries) = entries_end (entry_end at entry) entries
