-- Versions of keys in a history: filters over the list of its transactions. What is read off a list of
-- transactions is what stands after all of them; what stood after the first n is read off the first n.
use Rattle.std.specs.Prelude.{◌≡◌, ◌+◌, ◌==◌, ℕ, List, [], ◌∷◌, ◌++◌, map, filter, not, nat_eq, Bool, false, All, AllPairs, IsTrue, Option, Some, None}
use Rattle.std.specs.List.{list_any, last_or, starts_with, IsAmong}
use Rattle.std.specs.Str.{bytes_eq}
use Rattle.std.specs.Cmp.Lexicographic.{slice_cmp}
use Rattle.std.specs.Ordering.{nat_cmp}
use Rattle.std.specs.declared.cmp.Ordering.TheVariants.{Less}
use Rattle.im_model.specs.declared.entries.Entry.{Entry}
use Rattle.im_model.specs.declared.transactions.Transaction.{Transaction}
use Rattle.im_versions.specs.declared.versions.Version.{Version}

-- the entry's metadata has the attribute of this code: 0, it deletes its key; 2, no index shows it. No attribute
-- of a history's entries has more octets than its code
abbrev pub has_attribute : ℕ → Entry → Bool
has_attribute code entry = list_any (λ c. c == code) entry.md

-- the entry is a version of its key
abbrev pub is_shown : Entry → Bool
is_shown entry = not (has_attribute 2 entry)

-- the version that an entry of transaction k is
abbrev pub version_of : ℕ → Entry → Version
version_of k entry = record { tx = k; deleted = has_attribute 0 entry; key = entry.key; value = entry.value }

-- the versions that the entries of transaction k are, in their order
abbrev pub versions_in : ℕ → List Entry → List Version
versions_in k entries = map (version_of k) (filter is_shown entries)

-- those of transactions that follow each other, of which the first has number k
abbrev pub versions_from : ℕ → List Transaction → List Version
versions_from k [] = []
versions_from k (tx ∷ txs) = versions_in k tx.entries ++ versions_from (k + 1) txs

-- the versions of a history, oldest first
abbrev pub all_versions : List Transaction → List Version
all_versions history = versions_from 1 history

-- it is a version of this key
abbrev pub is_of : List ℕ → Version → Bool
is_of key version = bytes_eq version.key key

-- the versions of a key, oldest first
abbrev pub versions_of : List Transaction → List ℕ → List Version
versions_of history key = filter (is_of key) (all_versions history)

-- its last version, a deletion too, or none
abbrev pub last_version : List Transaction → List ℕ → Option Version
last_version history key = last_or None (versions_of history key)

-- there is a version, and it isn't a deletion
abbrev pub is_written : Option Version → Bool
is_written None = false
is_written (Some version) = not version.deleted

-- the key is live: it has a version, and the last one isn't a deletion
abbrev pub is_live : List Transaction → List ℕ → Bool
is_live history key = is_written (last_version history key)

-- the number of a version, 0 where there is none
abbrev pub version_number : Option Version → ℕ
version_number None = 0
version_number (Some version) = version.tx

-- the number of the transaction that wrote the key's last version, 0 where there is none
abbrev pub last_number : List Transaction → List ℕ → ℕ
last_number history key = version_number (last_version history key)

-- the key begins with the prefix
abbrev pub begins_with : List ℕ → List ℕ → Bool
begins_with prefix key = starts_with nat_eq key prefix

-- the first key is below the second, by the first octet that differs; a front part is below the longer key
abbrev pub IsBelow : List ℕ → List ℕ → Type 0
IsBelow a b = slice_cmp nat_cmp a b ≡ Less

-- the live keys that begin with a prefix, each as its last version, in rising order
pub record IsScan (history : List Transaction) (prefix : List ℕ) (shown : List Version) : Type 0 where
  pub rising : AllPairs (λ a b. IsBelow a.key b.key) shown
  pub live : All (λ v. (last_version history v.key ≡ Some v) × (v.deleted ≡ false)) shown
  pub begin : All (λ v. IsTrue (begins_with prefix v.key)) shown
  pub all : (key : List ℕ) (version : Version) → last_version history key ≡ Some version → version.deleted ≡ false
      → IsTrue (begins_with prefix key) → IsAmong shown version
