-- The metadata of an entry as its attributes, and where other octets stop being metadata.
use Rattle.std.specs.Prelude.{◌≡◌, ℕ, ◌+◌, ◌<◌, Bool, List, ◌++◌, length, take}
use Rattle.im_model.specs.Entries.{attributes}
use Rattle.im_draft.specs.declared.drafts.Attrs.{Attrs}

-- the metadata of an entry with these attributes
abbrev pub IsMetadata : List ℕ → Attrs → Type 0
IsMetadata octets attrs = octets ≡ attributes attrs.deleted attrs.non_indexable

-- some metadata begins with these octets
abbrev pub BeginsMetadata : List ℕ → Type 0
BeginsMetadata front =
    (deleted : Bool) × (non_indexable : Bool) × (rest : List ℕ) × (attributes deleted non_indexable ≡ front ++ rest)

-- octet `at` is the first that can't stand where it stands: some metadata begins with the octets before
-- it, and none with them and it
pub record IsFirstBad (octets : List ℕ) (at : ℕ) : Type 0 where
  pub within : at < length octets
  pub before : BeginsMetadata (take at octets)
  pub here : BeginsMetadata (take (at + 1) octets) → ⊥
