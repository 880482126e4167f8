-- Keys in order, and a map from each to its number.
use Rattle.std.specs.BTreeMap.{BTreeMap}
use Rattle.std.specs.Borrow.{Bor}
use Rattle.std.specs.Prelude.{◌≡◌, ℕ, List, length, map, nat_lt, Option, Some, None, if◌then◌else◌}
use Rattle.im_octet.specs.Places.{place_in}
use Rattle.im_format.specs.Damages.{index_of}

-- the number of a key, from 0, where it is one of these
abbrev pub key_number : List (List ℕ) → List ℕ → Option ℕ
key_number keys key = if nat_lt (index_of key keys) (length keys) then Some (index_of key keys) else None

-- lent keys
abbrev pub lent : List (Bor (List ℕ)) → List (List ℕ)
lent keys = map (λ k. k.now) keys

-- the map has the number of each of these keys, and no other key
pub record AreNumbered (keys : List (List ℕ)) (numbers : BTreeMap (Bor (List ℕ)) ℕ) : Type 0 where
  pub each : (key : List ℕ) → place_in numbers key ≡ key_number keys key
