-- The strings that are hashed for an entry (immudb's embedded store, header version 1).
use Rattle.std.specs.Prelude.{ℕ, ◌<◌, ◌^◌, Bool, List, [], ◌∷◌, ◌++◌, length, if◌then◌else◌}
use Rattle.im_octet.specs.Fields.{field2}
use Rattle.im_digest.specs.Digests.{Hash}
use Rattle.im_model.specs.declared.entries.Entry.{Entry}

-- the metadata of an entry in a history: the codes of its attributes in rising order, 0 for a
-- deletion and 2 for one that no index shows
abbrev pub attributes : Bool → Bool → List ℕ
attributes deleted non_indexable =
    (if deleted then 0 ∷ [] else []) ++ (if non_indexable then 2 ∷ [] else [])

-- what stands before the key: mdLen 2 | md | keyLen 2
abbrev pub entry_head : Entry → List ℕ
entry_head entry = field2 (length entry.md) ++ entry.md ++ field2 (length entry.key)

-- mdLen 2 | md | keyLen 2 | key | H(value) 32
abbrev pub entry_string : Hash → Entry → List ℕ
entry_string hash entry = entry_head entry ++ entry.key ++ hash entry.value

-- the digest of an entry
abbrev pub entry_digest : Hash → Entry → List ℕ
entry_digest hash entry = hash (entry_string hash entry)

-- the strings that are hashed for an entry
abbrev pub entry_strings : Hash → Entry → List (List ℕ)
entry_strings hash entry = entry_string hash entry ∷ entry.value ∷ []

-- the lengths of an entry's metadata and key fit their places in its string
pub record EntryFits (entry : Entry) : Type 0 where
  pub md : length entry.md < 2 ^ 16
  pub key : length entry.key < 2 ^ 16
