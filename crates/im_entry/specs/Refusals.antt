-- Which drafts are no entries, and why.
use Rattle.std.specs.Prelude.{◌≡◌, ◌<◌, ◌≤◌, ℕ, List, [], length}
use Rattle.im_draft.specs.declared.drafts.Attrs.{Attrs}
use Rattle.im_draft.specs.declared.drafts.Draft.{Draft}
use Rattle.im_entry.specs.declared.make.EntryError.{EntryError}
use Rattle.im_entry.specs.declared.make.EntryError.TheVariants.{Memory, KeyEmpty, KeyLong, ValueLong}

-- the draft with these attributes, this key and this value
abbrev pub draft_with : Attrs → List ℕ → List ℕ → Draft
draft_with attrs key value = record { attrs = attrs; key = key; value = value }

-- this is the first refusal of a draft: by its key, then by its value
abbrev pub RefusesDraft : Draft → EntryError → Type 0
RefusesDraft draft Memory = ⊥
RefusesDraft draft KeyEmpty = draft.key ≡ []
RefusesDraft draft (KeyLong len) = (1024 < len) × (len ≡ length draft.key)
RefusesDraft draft (ValueLong len) =
    (1 ≤ length draft.key) × (length draft.key ≤ 1024) × (4096 < len) × (len ≡ length draft.value)
