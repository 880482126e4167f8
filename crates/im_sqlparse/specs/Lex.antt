-- The tokens of SQL: what stands at the front of a text, and how long it is.
use Rattle.std.specs.Prelude.{◌≡◌, ◌≤◌, ℕ, ◌+◌, ◌%◌, Bool, true, false, ◌&&◌, ◌||◌, if◌then◌else◌, ◌==◌, List, [], ◌∷◌, take, drop, length, slice_index, codes, Option, Some, None}
use Rattle.std.specs.Char.{is_ascii_digit, is_ascii_hexdigit, is_ascii_alphabetic, is_ascii_alphanumeric}
use Rattle.std.specs.List.{prefix_len}
use Rattle.std.specs.Str.{str_eq_ignore_ascii_case}
use denote.Enum.Bare.{sameb}
use Rattle.im_sqlparse.specs.contracts.kinds.Kind.{the_type}
use Rattle.im_sqlparse.specs.declared.lex.Class.{Class}
use Rattle.im_sqlparse.specs.declared.lex.Class.TheVariants as class
use Rattle.im_sqlparse.specs.declared.kinds.Kind.{Kind}
use Rattle.im_sqlparse.specs.declared.kinds.Kind.TheVariants as k

abbrev pub Text : Type 0
Text = List ℕ

-- a kind, and a length in octets
abbrev pub Token : Type 0
Token = Kind × ℕ

-- `==` on kinds
unfoldable pub same_kind : Kind → Kind → Bool
same_kind = sameb the_type

-- Spaces and tabs part tokens. A word goes on with letters, digits and `_`.
abbrev pub is_in : Class → ℕ → Bool
is_in class.Blank octet = octet == 32 || octet == 9
is_in class.Word octet = is_ascii_alphanumeric octet || octet == 95
is_in class.Digit octet = is_ascii_digit octet
is_in class.Hex octet = is_ascii_hexdigit octet

-- the text from its first token on
unfoldable pub skip : Text → Text
skip text = drop (prefix_len (is_in class.Blank) text) text

-- the keywords, which are written in any case and are never names
abbrev pub keywords : List (Text × Kind)
keywords =
    (codes "AND", k.And) ∷ (codes "ASC", k.Asc) ∷ (codes "BEFORE", k.Before) ∷ (codes "BLOB", k.Blob) ∷
    (codes "BOOLEAN", k.Boolean) ∷ (codes "BY", k.By) ∷ (codes "CREATE", k.Create) ∷ (codes "DELETE", k.Delete) ∷
    (codes "DESC", k.Desc) ∷ (codes "EXISTS", k.Exists) ∷ (codes "FALSE", k.False) ∷ (codes "FROM", k.From) ∷
    (codes "HISTORY", k.History) ∷ (codes "IF", k.If) ∷ (codes "INDEX", k.Index) ∷ (codes "INSERT", k.Insert) ∷
    (codes "INTEGER", k.Integer) ∷ (codes "INTO", k.Into) ∷ (codes "IS", k.Is) ∷ (codes "KEY", k.Key) ∷
    (codes "LIMIT", k.Limit) ∷ (codes "NOT", k.Not) ∷ (codes "NULL", k.Null) ∷ (codes "OF", k.Of) ∷
    (codes "OFFSET", k.Offset) ∷ (codes "ON", k.On) ∷ (codes "OR", k.Or) ∷ (codes "ORDER", k.Order) ∷
    (codes "PRIMARY", k.Primary) ∷ (codes "SELECT", k.Select) ∷ (codes "TABLE", k.Table) ∷ (codes "TRUE", k.True) ∷
    (codes "TX", k.Tx) ∷ (codes "UNIQUE", k.Unique) ∷ (codes "UNTIL", k.Until) ∷ (codes "UPSERT", k.Upsert) ∷
    (codes "VALUES", k.Values) ∷ (codes "VARCHAR", k.Varchar) ∷ (codes "WHERE", k.Where) ∷ []

-- the kind of a word that begins with a letter: a keyword in any case, or else a word
abbrev pub lookup : List (Text × Kind) → Text → Kind
lookup [] word = k.Word
lookup (entry ∷ entries) word = if str_eq_ignore_ascii_case entry.0 word then entry.1 else lookup entries word

unfoldable pub keyword : Text → Kind
keyword = lookup keywords

-- the longest word
abbrev pub word_len : Text → ℕ
word_len = prefix_len (is_in class.Word)

-- a text that begins with a letter
unfoldable pub word : Text → Token
word text = (keyword (take (word_len text) text), word_len text)

-- a text that begins with `_`: the whole word is `_rev`, or it is none
unfoldable pub underscored : Text → Token
underscored text =
    (if str_eq_ignore_ascii_case (codes "_rev") (take (word_len text) text) then k.Rev else k.Bad, word_len text)

-- a text that begins with a minus: digits follow at once
unfoldable pub minus : Text → Token
minus text =
    let digits = prefix_len (is_in class.Digit) (drop 1 text) in
    if digits == 0 then (k.Bad, 1) else (k.Number, digits + 1)

-- the place behind the quote that closes a text, for octets that begin at `at`; a doubled quote doesn't close it
abbrev pub closing : Bool → ℕ → Text → Option ℕ
closing is_second at [] = None
closing true at (octet ∷ text) = closing false (at + 1) text
closing false at (octet ∷ text) =
    if octet == 39 && (if slice_index text 0 == 39 then false else true) then Some (at + 1) else closing (octet == 39) (at + 1) text

abbrev pub closed : Option ℕ → Token
closed None = (k.Bad, 1)
closed (Some end) = (k.Text, end)

-- a text that begins with a quote
unfoldable pub quoted : Text → Token
quoted text = closed (closing false 1 (drop 1 text))

-- a text that begins with `x'`: hex digits in pairs, and then a quote
unfoldable pub hex : Text → Token
hex text =
    let digits = prefix_len (is_in class.Hex) (drop 2 text) in
    if slice_index text (digits + 2) == 39 && digits % 2 == 0 then (k.Hex, digits + 3) else (k.Bad, 1)

-- `!=`, or a sign that begins with `<` or `>`, by its first octet and the next one
unfoldable pub comparison_sign : ℕ → ℕ → Token
comparison_sign octet next =
    if octet == 33 then (if next == 61 then (k.Unequal, 2) else (k.Bad, 1))
    else (if octet == 60 then (if next == 61 then (k.AtMost, 2) else (if next == 62 then (k.Unequal, 2) else (k.Less, 1)))
    else (if next == 61 then (k.AtLeast, 2) else (k.Greater, 1)))

-- a sign by its first octet and the next one
unfoldable pub sign : ℕ → ℕ → Token
sign octet next =
    if octet == 40 then (k.Open, 1)
    else (if octet == 41 then (k.Close, 1)
    else (if octet == 91 then (k.OpenBracket, 1)
    else (if octet == 93 then (k.CloseBracket, 1)
    else (if octet == 44 then (k.Comma, 1)
    else (if octet == 59 then (k.Semicolon, 1)
    else (if octet == 42 then (k.Star, 1)
    else (if octet == 61 then (k.Equal, 1)
    else (if octet == 33 || octet == 60 || octet == 62 then comparison_sign octet next
    else (k.Bad, 1)))))))))

-- The token at the front. A text reads as 0 past its end.
unfoldable pub token : Text → Token
token text =
    let octet = slice_index text 0 in
    if length text == 0 then (k.End, 0)
    else (if octet == 120 && slice_index text 1 == 39 then hex text
    else (if is_ascii_alphabetic octet then word text
    else (if octet == 95 then underscored text
    else (if is_ascii_digit octet then (k.Number, prefix_len (is_in class.Digit) text)
    else (if octet == 45 then minus text
    else (if octet == 39 then quoted text
    else sign octet (slice_index text 1)))))))

-- one octet long, or two where there is a second
abbrev pub IsShort : ℕ → ℕ → Type 0
IsShort next len = (1 ≤ len) × (len ≤ 2) × (next ≡ 0 → len ≡ 1)
