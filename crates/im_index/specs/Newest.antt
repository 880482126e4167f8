-- Maps from lent keys to lent versions.
use Rattle.std.specs.BTreeMap as tree
use Rattle.std.specs.BTreeMap.{BTreeMap}
use Rattle.std.specs.Borrow.{Bor}
use Rattle.std.specs.Cmp.Lexicographic.{slice_cmp}
use Rattle.std.specs.List.{last_or}
use Rattle.std.specs.Option.{option_map}
use Rattle.std.specs.Ordering.{nat_cmp}
use Rattle.std.specs.Map.{update}
use Rattle.std.specs.Prelude.{◌≡◌, ℕ, List, Option, Some, None, filter, if◌then◌else◌}
use Rattle.std.specs.Str.{bytes_eq}
use Rattle.im_versions.specs.Versions.{begins_with, is_of}
use Rattle.im_versions.specs.declared.versions.Version.{Version}

-- a map from lent keys to lent versions
abbrev pub Newest : Type 0
Newest = BTreeMap (Bor (List ℕ)) (Bor Version)

-- the version that a map has for a key, or none
abbrev pub newest_in : Newest → List ℕ → Option Version
newest_in newest key = option_map (λ v. v.now) (tree.get_by (λ k. slice_cmp nat_cmp key k.now) newest)

-- the last version of a key among these, or none
abbrev pub last_of : List Version → List ℕ → Option Version
last_of versions key = last_or None (filter (is_of key) versions)

-- the map has the last version of each key among these that begins with the prefix, and of no other
abbrev pub HasNewest : List Version → List ℕ → Newest → Type 0
HasNewest versions prefix newest =
    (key : List ℕ) → newest_in newest key ≡ (if begins_with prefix key then last_of versions key else None)

-- the new map has this version for a key, and keeps the version of each other key
abbrev pub PutsNewest : Newest → Newest → List ℕ → Version → Type 0
PutsNewest old new key version =
    (other : List ℕ) → newest_in new other ≡ update bytes_eq (newest_in old) key (Some version) other
