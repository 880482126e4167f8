-- Versions with their numbers, and maps that count them, for private clauses.
use Rattle.std.specs.BTreeMap as tree
use Rattle.std.specs.BTreeMap.{BTreeMap}
use Rattle.std.specs.Borrow.{Bor}
use Rattle.std.specs.Cmp.Lexicographic.{slice_cmp}
use Rattle.std.specs.Map.{update}
use Rattle.std.specs.Ordering.{nat_cmp}
use Rattle.std.specs.Str.{bytes_eq}
use Rattle.std.specs.Prelude.{◌≡◌, ℕ, List, map, unwrap_or, Option, Some}
use Rattle.im_versions.specs.declared.versions.Version.{Version}
use Rattle.im_catalog.specs.declared.histories.Numbered.{Numbered}

-- as a pair
abbrev pub pair_of : Numbered → ℕ × Version
pair_of n = (n.number, n.version.now)

abbrev pub pairs_of : List Numbered → List (ℕ × Version)
pairs_of numbered = map pair_of numbered

abbrev pub Counted : Type 0
Counted = BTreeMap (Bor (List ℕ)) ℕ

-- what a map from lent keys has for a key, or none
abbrev pub counted_in : Counted → List ℕ → Option ℕ
counted_in numbers key = tree.get_by (λ k. slice_cmp nat_cmp key k.now) numbers

-- the number of a key's last version so far, 0 where it has none
abbrev pub number_of : Counted → List ℕ → ℕ
number_of numbers key = unwrap_or (counted_in numbers key) 0

-- the new map has this number for a key, and keeps that of each other key
abbrev pub Counts : Counted → Counted → List ℕ → ℕ → Type 0
Counts old new key number = (other : List ℕ) → counted_in new other ≡ update bytes_eq (counted_in old) key (Some number) other
