-- Names, numbers and values.
use Rattle.std.specs.Prelude.{ℕ, ◌-◌, ◌^◌, Bool, true, false, not, ◌&&◌, if◌then◌else◌, ◌==◌, nat_lt, nat_le, List, [], ◌∷◌, length, take, drop, map, slice_index, codes, Option, Some, None, Ok, ℤ, pos, neg_ℤ}
use Rattle.std.specs.Char.{to_ascii_lowercase}
use Rattle.std.specs.Result.{result_ok}
use Rattle.hex.specs.Hex.{decode_of}
use Rattle.im_text.specs.Words.{number_value}
use Rattle.im_sqlparse.specs.declared.kinds.Kind.{Kind}
use Rattle.im_sqlparse.specs.declared.kinds.Kind.TheVariants as k
use Rattle.im_sqlparse.specs.declared.errors.SyntaxKind.TheVariants as fault
use Rattle.im_sqlparse.specs.declared.statements.Literal.{Literal}
use Rattle.im_sqlparse.specs.declared.statements.Literal.TheVariants as literal
use Rattle.im_sqlparse.specs.Lex.{Text}
use Rattle.im_sqlparse.specs.Input.{Input, Reader, ◌>>=◌, ◌>>◌, ◌<$>◌, pure, refuse, fails, spelling, next, sees, peek, take_token, expect, separated}

-- a name has at most 48 characters, and is folded to lower case
unfoldable pub name : Reader Text
name = λ i.
    if sees k.Word i
    then (if nat_le (length (spelling i)) 48 then Ok (map to_ascii_lowercase (spelling i), next i) else fails fault.Name i)
    else refuse i

-- a column: a name, or `_rev` where that may stand
unfoldable pub column : Bool → Reader Text
column rev = λ i. if rev && sees k.Rev i then Ok (codes "_rev", next i) else name i

-- digits without a minus
unfoldable pub is_unsigned : Input → Bool
is_unsigned i = sees k.Number i && not (slice_index (spelling i) 0 == 45)

-- the number that digits say, if it is of a range
unfoldable pub within : ℕ → ℕ → Text → Option ℕ
within least most text =
    if nat_le least (number_value text) && nat_le (number_value text) most then Some (number_value text) else None

abbrev pub number_from : Option ℕ → Reader ℕ
number_from (Some n) = take_token >> pure n
number_from None = fails fault.Number

-- a number of a range
unfoldable pub number : ℕ → ℕ → Reader ℕ
number least most = λ i. if is_unsigned i then number_from (within least most (spelling i)) i else refuse i

-- without this many octets in front, and one behind
unfoldable pub inside : ℕ → Text → Text
inside front text = take (length text - front - 1) (drop front text)

-- one quote for each two
abbrev pub undouble : Bool → Text → Text
undouble is_second [] = []
undouble true (octet ∷ text) = undouble false text
undouble false (octet ∷ text) = octet ∷ undouble (octet == 39) text

-- an integer of 64 bits with a sign
abbrev pub below_zero : ℕ → Option ℤ
below_zero n = if nat_le n (2 ^ 63) then Some (neg_ℤ (pos n)) else None

abbrev pub above_zero : ℕ → Option ℤ
above_zero n = if nat_lt n (2 ^ 63) then Some (pos n) else None

unfoldable pub integer_value : Text → Option ℤ
integer_value text =
    if slice_index text 0 == 45 then below_zero (number_value (drop 1 text)) else above_zero (number_value text)

abbrev pub integer_of : Option ℤ → Reader Literal
integer_of (Some n) = take_token >> pure (literal.Integer n)
integer_of None = fails fault.Integer

unfoldable pub integer : Reader Literal
integer = λ i. integer_of (integer_value (spelling i)) i

-- The octets that hex digits say. The token's digits come in pairs, so there are some.
abbrev pub blob_of : Option Text → Reader Literal
blob_of (Some octets) = take_token >> pure (literal.Blob octets)
blob_of None = refuse

unfoldable pub blob : Reader Literal
blob = λ i. blob_of (result_ok (decode_of (inside 2 (spelling i)))) i

abbrev pub value_by : Kind → Reader Literal
value_by k.Null = take_token >> pure literal.Null
value_by k.False = take_token >> pure (literal.Boolean false)
value_by k.True = take_token >> pure (literal.Boolean true)
value_by k.Number = integer
value_by k.Text = (λ text. literal.Text (undouble false (inside 1 text))) <$> take_token
value_by k.Hex = blob
value_by _ = refuse

-- a value as it is written
unfoldable pub value : Reader Literal
value = peek >>= value_by

-- names in parentheses
unfoldable pub names : Reader (List Text)
names = do
  expect k.Open
  found ← separated k.Comma (column false)
  expect k.Close
  pure found

-- values in parentheses
unfoldable pub row : Reader (List Literal)
row = do
  expect k.Open
  found ← separated k.Comma value
  expect k.Close
  pure found
