-- Digits are octets below 128, so they are a text.
use Rattle.std.proofs.Common.{◌≡◌, ℕ, zero, suc, List, [], ◌∷◌, true, IsUtf8, refl, arith}
use Rattle.std.specs.Str.{IsAscii}
use Rattle.std.proofs.lemmas.Bool.{and_parts, ltb-true}
use Rattle.std.proofs.lemmas.Str.{IsUtf8-from_ascii}
use Rattle.hex.specs.Hex.{encode_lower, lower_digits}
use Rattle.hex.proofs.HexLemmas.{IsAscii-encode_with}
use Rattle.json.proofs.Printed.Utf8.{are_ascii}

ascii-of : (xs : List ℕ) → are_ascii xs ≡ true → IsAscii xs
ascii-of [] e i = omega arith
ascii-of (x ∷ xs) e zero = ltb-true x 128 (and_parts _ _ e).0
ascii-of (x ∷ xs) e (suc i) = ascii-of xs (and_parts _ _ e).1 i

-- octets as digits are a text
pub hex-utf8 : (xs : List ℕ) → IsUtf8 (encode_lower xs)
hex-utf8 xs = IsUtf8-from_ascii (encode_lower xs) (IsAscii-encode_with lower_digits xs (ascii-of lower_digits refl))
