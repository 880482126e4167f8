-- Maps from octet strings to numbers.
use Rattle.std.specs.BTreeMap as tree
use Rattle.std.specs.BTreeMap.{BTreeMap}
use Rattle.std.specs.Cmp.Lexicographic.{slice_cmp}
use Rattle.std.specs.Ordering.{nat_cmp}
use Rattle.std.specs.Borrow.{Bor}
use Rattle.std.specs.Map.{update}
use Rattle.std.specs.Str.{bytes_eq}
use Rattle.std.specs.Prelude.{◌≡◌, ℕ, List, Option, Some}

-- the number that a map from lent octets has for some
abbrev pub place_in : BTreeMap (Bor (List ℕ)) ℕ → List ℕ → Option ℕ
place_in places octets = tree.get_by (λ k. slice_cmp nat_cmp octets k.now) places

-- the new map has this number for some octets, and keeps the number of all others
abbrev pub PutsPlace : BTreeMap (Bor (List ℕ)) ℕ → BTreeMap (Bor (List ℕ)) ℕ → List ℕ → ℕ → Type 0
PutsPlace old new octets place =
    (other : List ℕ) → place_in new other ≡ update bytes_eq (place_in old) octets (Some place) other
