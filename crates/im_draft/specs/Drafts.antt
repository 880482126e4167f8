-- Which drafts are the entries of a transaction, and why others are refused.
use Rattle.std.specs.Prelude.{◌≡◌, ◌≢◌, ℕ, ◌<◌, ◌≤◌, List, [], ◌∷◌, length, take, slice_index_or, All, AllPairs, false, true}
use Rattle.im_model.specs.Entries.{attributes}
use Rattle.im_model.specs.declared.entries.Entry.{Entry}
use Rattle.im_draft.specs.declared.drafts.Attrs.{Attrs}
use Rattle.im_draft.specs.declared.drafts.Draft.{Draft}
use Rattle.im_draft.specs.declared.refusals.PrepareError.{PrepareError}
use Rattle.im_draft.specs.declared.refusals.PrepareError.TheVariants.{Memory, NoEntries, TooMany, KeyEmpty, KeyLong, ValueLong, Twice}

-- the attributes of an entry that has none
abbrev pub no_attributes : Attrs
no_attributes = record { deleted = false; non_indexable = false }

-- what deletes a key: its value is empty
abbrev pub deletion : List ℕ → Draft
deletion key = record { attrs = record { deleted = true; non_indexable = false }; key = key; value = [] }

-- the entry that a draft asks for
abbrev pub entry_of : Draft → Entry
entry_of draft = record { md = attributes draft.attrs.deleted draft.attrs.non_indexable; key = draft.key; value = draft.value }

-- stands where a number is beyond the drafts
abbrev pub no_draft : Draft
no_draft = record { attrs = no_attributes; key = []; value = [] }

-- draft i, from 0
abbrev pub draft_of : List Draft → ℕ → Draft
draft_of drafts i = slice_index_or drafts i no_draft

-- a key of 1 to 1024 octets and a value of at most 4096
pub record IsFine (draft : Draft) : Type 0 where
  pub key_given : 1 ≤ length draft.key
  pub key_short : length draft.key ≤ 1024
  pub value_short : length draft.value ≤ 4096

-- no two keys are equal
abbrev pub HaveDistinctKeys : List Draft → Type 0
HaveDistinctKeys drafts = AllPairs (λ a b. a.key ≢ b.key) drafts

-- the drafts are the entries of a transaction
pub record AreEntries (drafts : List Draft) : Type 0 where
  pub some : 1 ≤ length drafts
  pub few : length drafts ≤ 1024
  pub each : All IsFine drafts
  pub distinct : HaveDistinctKeys drafts

-- draft i is one of drafts that are neither none nor too many, and each before it is fine; what is wrong
-- with it stands beside this
pub record IsFirstAtFault (drafts : List Draft) (i : ℕ) : Type 0 where
  pub few : length drafts ≤ 1024
  pub within : i < length drafts
  pub before : All IsFine (take i drafts)

-- this is the first refusal of the drafts: by their number, then by the first draft that isn't fine, then
-- by the first key that stood earlier, where i is the earlier draft
abbrev pub Refuses : List Draft → PrepareError → Type 0
Refuses drafts Memory = ⊥
Refuses drafts NoEntries = drafts ≡ []
Refuses drafts (TooMany n) = (1024 < n) × (n ≡ length drafts)
Refuses drafts (KeyEmpty i) = IsFirstAtFault drafts i × ((draft_of drafts i).key ≡ [])
Refuses drafts (KeyLong i len) =
    IsFirstAtFault drafts i × (1024 < len) × (len ≡ length (draft_of drafts i).key)
Refuses drafts (ValueLong i len) =
    IsFirstAtFault drafts i × (1 ≤ length (draft_of drafts i).key) × (length (draft_of drafts i).key ≤ 1024)
    × (4096 < len) × (len ≡ length (draft_of drafts i).value)
Refuses drafts (Twice i j) =
    (length drafts ≤ 1024) × All IsFine drafts × (i < j) × (j < length drafts)
    × ((draft_of drafts i).key ≡ (draft_of drafts j).key) × HaveDistinctKeys (take j drafts)

-- draft i is the first whose key begins with octet 00, which this store keeps for itself
pub record IsReserved (drafts : List Draft) (i : ℕ) : Type 0 where
  pub within : i < length drafts
  pub begins : (rest : List ℕ) × ((draft_of drafts i).key ≡ 0 ∷ rest)
  pub before : All (λ d. (rest : List ℕ) → d.key ≡ 0 ∷ rest → ⊥) (take i drafts)

-- no key begins with octet 00
abbrev pub AreFree : List Draft → Type 0
AreFree drafts = All (λ d. (rest : List ℕ) → d.key ≡ 0 ∷ rest → ⊥) drafts
