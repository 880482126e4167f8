-- Numbers as big-endian fields of 2, 4 and 8 octets.
use Rattle.std.specs.Prelude.{ℕ, ℤ, List}
use Rattle.std.specs.Int.{w16, w32, w64, to_be_bytes, cast_unsigned}

-- a number below 2^16 as 2 octets
unfoldable pub field2 : ℕ → List ℕ
field2 n = to_be_bytes w16 n

-- a number below 2^32 as 4 octets
unfoldable pub field4 : ℕ → List ℕ
field4 n = to_be_bytes w32 n

-- a number below 2^64 as 8 octets
unfoldable pub field8 : ℕ → List ℕ
field8 n = to_be_bytes w64 n

-- a number of 64 bits with a sign as 8 octets in two's complement
unfoldable pub signed_field8 : ℤ → List ℕ
signed_field8 z = to_be_bytes w64 (cast_unsigned w64 z)
