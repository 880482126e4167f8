-- The first octets of a key, as one number.
use Rattle.std.specs.Prelude.{◌≡◌, ◌<◌, ℕ, zero, suc, List, [], ◌∷◌, ◌+◌, ◌*◌, ◌^◌, slice_index_or}

-- the number that the first k octets are, the highest first; behind the last of a shorter list stand zeros
unfoldable pub leading : ℕ → List ℕ → ℕ
leading zero octets = 0
leading (suc k) [] = 0
leading (suc k) (octet ∷ octets) = octet * 256 ^ k + leading k octets

-- the number is that of the first eight octets of a key, and the key is of octets
pub record IsFront (front : ℕ) (key : List ℕ) : Type 0 where
  pub front_is : front ≡ leading 8 key
  pub octets : (i : ℕ) → slice_index_or key i 0 < 256
