-- The texts that tell what a statement answers.
use Rattle.std.specs.Prelude.{ℕ, ◌==◌, ◌||◌, List, [], ◌∷◌, ◌++◌, length, nat_lt, if◌then◌else◌, codes}
use Rattle.std.specs.List.{flat_map}
use Rattle.std.specs.Fmt.{decimal, signed_decimal}
use Rattle.hex.specs.Hex.{encode_lower}
use Rattle.im_sqltype.specs.declared.values.Value.{Value}
use Rattle.im_sqltype.specs.declared.values.Value.TheVariants.{Null, Integer, Boolean, Varchar, Blob}
use Rattle.im_sqlparse.specs.declared.errors.SqlSyntax.{SqlSyntax}
use Rattle.im_sqlparse.specs.declared.errors.SyntaxKind.{SyntaxKind}
use Rattle.im_sqlparse.specs.declared.errors.SyntaxKind.TheVariants as syntax
use Rattle.im_sqlmodel.specs.declared.answers.SqlError.{SqlError}
use Rattle.im_sqlmodel.specs.declared.answers.SqlError.TheVariants as error

-- ---- values

-- an octet of a text between single quotes: a quote is doubled, a backslash too, and an octet below 20 hex, or 7f, is a backslash, `x` and two
-- hex digits
abbrev pub quoted_octet : ℕ → List ℕ
quoted_octet octet =
    if octet == 39 then 39 ∷ 39 ∷ []
    else (if octet == 92 then 92 ∷ 92 ∷ []
    else (if nat_lt octet 32 || octet == 127 then 92 ∷ 120 ∷ encode_lower (octet ∷ [])
    else octet ∷ []))

-- a value as it is printed: `NULL`, a number, `true` or `false`, a text between single quotes, or `x'` and lower-case hex and `'`
unfoldable pub shown_value : Value → List ℕ
shown_value Null = codes "NULL"
shown_value (Integer number) = signed_decimal number
shown_value (Boolean truth) = if truth then codes "true" else codes "false"
shown_value (Varchar octets) = codes "'" ++ flat_map quoted_octet octets ++ codes "'"
shown_value (Blob octets) = codes "x'" ++ encode_lower octets ++ codes "'"

-- values behind others, each behind `, `
abbrev pub shown_behind : List Value → List ℕ
shown_behind values = flat_map (λ value. codes ", " ++ shown_value value) values

-- values with `, ` between
abbrev pub shown_values : List Value → List ℕ
shown_values [] = []
shown_values (value ∷ values) = shown_value value ++ shown_behind values

-- a row: ` (v, v, ..)`
unfoldable pub shown_row : List Value → List ℕ
shown_row values = codes " (" ++ shown_values values ++ codes ")"

-- the rows of a SELECT, in order: `rows <count>` and each of them
unfoldable pub rows_reply : List (List Value) → List ℕ
rows_reply rows = codes "rows " ++ decimal (length rows) ++ flat_map shown_row rows

-- where there is nothing to write
abbrev pub none_reply : List ℕ
none_reply = codes "none"

-- ---- what is wrong

abbrev pub syntax_word : SyntaxKind → List ℕ
syntax_word syntax.Token = codes "token"
syntax_word syntax.Expect = codes "expect"
syntax_word syntax.Integer = codes "integer"
syntax_word syntax.Name = codes "name"
syntax_word syntax.Number = codes "number"
syntax_word syntax.Deep = codes "deep"

-- of a text that isn't in the grammar: `error syntax <at> <kind>`
unfoldable pub syntax_reply : SqlSyntax → List ℕ
syntax_reply fault = codes "error syntax " ++ decimal fault.at ++ codes " " ++ syntax_word fault.kind

-- Of a statement that is refused: `error` and what is wrong, but for a SELECT after a number of transactions above that of its line, of which `refused beyond`
-- and the line's is told. Want of memory has no reply.
unfoldable pub error_reply : SqlError → List ℕ
error_reply error.Memory = []
error_reply (error.Exists table) = codes "error exists " ++ table
error_reply (error.NoTable table) = codes "error table " ++ table
error_reply (error.NoColumn name) = codes "error column " ++ name
error_reply (error.Twice name) = codes "error twice " ++ name
error_reply (error.HasRows table) = codes "error rows " ++ table
error_reply (error.Count row want got) = codes "error count " ++ decimal row ++ codes " " ++ decimal want ++ codes " " ++ decimal got
error_reply (error.WrongType row name) = codes "error type " ++ decimal row ++ codes " " ++ name
error_reply (error.TooLong row name) = codes "error long " ++ decimal row ++ codes " " ++ name
error_reply (error.NullGiven row name) = codes "error null " ++ decimal row ++ codes " " ++ name
error_reply (error.KeyLong row) = codes "error keylong " ++ decimal row
error_reply (error.RowLong row) = codes "error rowlong " ++ decimal row
error_reply (error.Duplicate row tx) = codes "error duplicate " ++ decimal row ++ codes " tx " ++ decimal tx
error_reply (error.Unique row index tx) = codes "error unique " ++ decimal row ++ codes " " ++ decimal index ++ codes " tx " ++ decimal tx
error_reply (error.TooMany entries) = codes "error toomany " ++ decimal entries
error_reply (error.Compare at) = codes "error compare " ++ decimal at
error_reply (error.Beyond n) = codes "refused beyond " ++ decimal n
