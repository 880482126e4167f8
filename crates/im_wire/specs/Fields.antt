-- What one JSON value says as a number, as octets or as digests.
use Rattle.std.specs.Prelude.{ℕ, ℤ, ◌&&◌, nat_lt, nat_le, List, [], ◌∷◌, length, if◌then◌else◌, Option, Some, None, option_and_then}
use Rattle.std.specs.Result.{result_ok}
use Rattle.hex.specs.Hex.{decode_of, decode_sized}
use Rattle.serde_json.specs.Data.{Data, Items, no_items, item}
use Rattle.serde_json.specs.Find.{get, as_number, as_u64, as_i64, as_str, as_array}
use Rattle.im_wire.specs.Gives.{◌>>=◌}

-- an integer below the limit, written without fraction, exponent and minus sign
unfoldable pub number_of : ℕ → Data → Option ℕ
number_of limit d = do
  n ← option_and_then as_u64 (as_number d)
  if nat_lt n limit then Some n else None

-- an integer of 64 bits with a sign, written without fraction and exponent
unfoldable pub signed_of : Data → Option ℤ
signed_of d = option_and_then as_i64 (as_number d)

-- octets as hex digits in either case, of a length within the limits
unfoldable pub octets_of : ℕ → ℕ → Data → Option (List ℕ)
octets_of least most d = do
  text ← as_str d
  octets ← result_ok (decode_of text)
  if nat_le least (length octets) && nat_le (length octets) most then Some octets else None

-- 32 octets as hex digits in either case
unfoldable pub digest_of : Data → Option (List ℕ)
digest_of d = do
  text ← as_str d
  result_ok (decode_sized text 32)

-- each item read alike, or nothing where one of them gives nothing
abbrev pub each_of : {A : Type 0} → (Data → Option A) → Items → Option (List A)
each_of read no_items = Some []
each_of read (item d ds) = do
  x ← read d
  xs ← each_of read ds
  Some (x ∷ xs)

-- an array of digests
unfoldable pub digests_of : Data → Option (List (List ℕ))
digests_of d = as_array d >>= each_of digest_of

-- an array of arrays of digests
unfoldable pub digest_lists_of : Data → Option (List (List (List ℕ)))
digest_lists_of d = as_array d >>= each_of digests_of

-- the field of that name, which must be there
abbrev pub field : {A : Type 0} → List ℕ → (Data → Option A) → Data → Option A
field name read d = get name d >>= read
