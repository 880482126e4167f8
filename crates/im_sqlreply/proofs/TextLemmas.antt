-- No octet that is printed is LF, and the first letters of replies.
use Rattle.std.proofs.Common.{◌≡◌, ◌≢◌, ◌⊎◌, ℕ, ◌==◌, ◌||◌, not, if◌then◌else◌, nat_lt, List, [], ◌∷◌, ◌++◌, drop, length, codes, true, false, inl, inr, refl}
use Rattle.std.proofs.lemmas.Bool.{and_from, cond_both, ltb-false, or_parts}
use Rattle.std.specs.Fmt.{decimal}
use Rattle.std.specs.List.{flat_map}
use Rattle.std.specs.Prelude.{⊤}
use Rattle.hex.specs.Hex.{encode_lower}
use Rattle.im_text.specs.Cuts.{Lacks}
use Rattle.im_text.proofs.CutLemmas.{Lacks-append}
use Rattle.im_sqltype.specs.declared.values.Value.{Value}
use Rattle.im_sqltype.specs.declared.values.Value.TheVariants.{Null, Integer, Boolean, Varchar, Blob}
use Rattle.im_sqlparse.specs.declared.errors.SqlSyntax.{SqlSyntax}
use Rattle.im_sqlparse.specs.declared.errors.SyntaxKind.{SyntaxKind}
use Rattle.im_sqlparse.specs.declared.errors.SyntaxKind.TheVariants as syntax
use Rattle.im_sqlmodel.specs.declared.answers.SqlError.{SqlError}
use Rattle.im_sqlmodel.specs.declared.answers.SqlError.TheVariants as error
use Rattle.im_sqlreply.proofs.DigitLemmas.{above-lacks, digits-lack, each-lacks, hex-lacks, signed-lacks}
use Rattle.im_sqlreply.specs.Replies.{error_reply, quoted_octet, rows_reply, shown_behind, shown_row, shown_value, shown_values, syntax_reply, syntax_word}

-- ---- rows

octet-lacks : (o : ℕ) → Lacks 10 (quoted_octet o)
octet-lacks o =
    let hex : List ℕ = 92 ∷ 120 ∷ encode_lower (o ∷ []) in
    let last : List ℕ = if nat_lt o 32 || o == 127 then hex else o ∷ [] in
    cond_both (o == 39) (39 ∷ 39 ∷ []) (if o == 92 then 92 ∷ 92 ∷ [] else last) (Lacks 10) (λ e. refl)
    (λ e. cond_both (o == 92) (92 ∷ 92 ∷ []) last (Lacks 10) (λ f. refl)
    (λ f. cond_both (nat_lt o 32 || o == 127) hex (o ∷ []) (Lacks 10) (λ g. hex-lacks (o ∷ []))
    (λ g. and_from (not (o == 10)) true (above-lacks o (ltb-false o 32 (or_parts (nat_lt o 32) (o == 127) g).0)) refl)))

value-lacks : (v : Value) → Lacks 10 (shown_value v)
unfolding shown_value
value-lacks Null = refl
value-lacks (Integer z) = signed-lacks z
value-lacks (Boolean true) = refl
value-lacks (Boolean false) = refl
value-lacks (Varchar octets) = Lacks-append 10 (flat_map quoted_octet octets) (39 ∷ []) (each-lacks quoted_octet octets octet-lacks) refl
value-lacks (Blob octets) = Lacks-append 10 (encode_lower octets) (39 ∷ []) (hex-lacks octets) refl

values-lack : (vs : List Value) → Lacks 10 (shown_values vs)
values-lack [] = refl
values-lack (v ∷ vs) = Lacks-append 10 (shown_value v) (shown_behind vs) (value-lacks v) (each-lacks (λ w. codes ", " ++ shown_value w) vs value-lacks)

row-lacks : (row : List Value) → Lacks 10 (shown_row row)
unfolding shown_row
row-lacks row = Lacks-append 10 (shown_values row) (41 ∷ []) (values-lack row) refl

pub rows-lack : (rows : List (List Value)) → Lacks 10 (rows_reply rows)
unfolding rows_reply
rows-lack rows = Lacks-append 10 (decimal (length rows)) (flat_map shown_row rows) (digits-lack (length rows)) (each-lacks shown_row rows row-lacks)

-- ---- errors

word-lacks : (kind : SyntaxKind) → Lacks 10 (syntax_word kind)
word-lacks syntax.Token = refl
word-lacks syntax.Expect = refl
word-lacks syntax.Integer = refl
word-lacks syntax.Name = refl
word-lacks syntax.Number = refl
word-lacks syntax.Deep = refl

-- a number, and a text behind it
behind-lacks : (n : ℕ) (text : List ℕ) → Lacks 10 text → Lacks 10 (decimal n ++ text)
behind-lacks n text lack = Lacks-append 10 (decimal n) text (digits-lack n) lack

pub syntax-lacks : (fault : SqlSyntax) → Lacks 10 (syntax_reply fault)
unfolding syntax_reply
syntax-lacks fault = Lacks-append 10 (decimal fault.at ++ codes " ") (syntax_word fault.kind) (behind-lacks fault.at (codes " ") refl) (word-lacks fault.kind)

-- the name that it tells, if it tells one, has no LF
abbrev pub NameLacks : SqlError → Type 0
NameLacks (error.Exists table) = Lacks 10 table
NameLacks (error.NoTable table) = Lacks 10 table
NameLacks (error.NoColumn name) = Lacks 10 name
NameLacks (error.Twice name) = Lacks 10 name
NameLacks (error.HasRows table) = Lacks 10 table
NameLacks (error.WrongType row name) = Lacks 10 name
NameLacks (error.TooLong row name) = Lacks 10 name
NameLacks (error.NullGiven row name) = Lacks 10 name
NameLacks other = ⊤

-- two numbers, with a text behind each
two-lack : (m : ℕ) (text : List ℕ) (n : ℕ) → Lacks 10 text → Lacks 10 (decimal m ++ text ++ decimal n)
two-lack m text n lack = Lacks-append 10 (decimal m ++ text) (decimal n) (behind-lacks m text lack) (digits-lack n)

column-lacks : (row : ℕ) (name : List ℕ) → Lacks 10 name → Lacks 10 (decimal row ++ codes " " ++ name)
column-lacks row name lack = Lacks-append 10 (decimal row ++ codes " ") name (behind-lacks row (codes " ") refl) lack

three-lack : (k m : ℕ) (text : List ℕ) (n : ℕ) → Lacks 10 text → Lacks 10 (decimal k ++ codes " " ++ decimal m ++ text ++ decimal n)
three-lack k m text n lack =
    Lacks-append 10 (decimal k ++ codes " " ++ decimal m ++ text) (decimal n)
    (Lacks-append 10 (decimal k ++ codes " " ++ decimal m) text (two-lack k (codes " ") m refl) lack) (digits-lack n)

pub error-lacks : (fault : SqlError) → NameLacks fault → Lacks 10 (error_reply fault)
unfolding error_reply
error-lacks error.Memory name = refl
error-lacks (error.Exists table) name = name
error-lacks (error.NoTable table) name = name
error-lacks (error.NoColumn column) name = name
error-lacks (error.Twice column) name = name
error-lacks (error.HasRows table) name = name
error-lacks (error.Count row want got) name = three-lack row want (codes " ") got refl
error-lacks (error.WrongType row column) name = column-lacks row column name
error-lacks (error.TooLong row column) name = column-lacks row column name
error-lacks (error.NullGiven row column) name = column-lacks row column name
error-lacks (error.KeyLong row) name = digits-lack row
error-lacks (error.RowLong row) name = digits-lack row
error-lacks (error.Duplicate row tx) name = two-lack row (codes " tx ") tx refl
error-lacks (error.Unique row index tx) name = three-lack row index (codes " tx ") tx refl
error-lacks (error.TooMany entries) name = digits-lack entries
error-lacks (error.Compare at) name = digits-lack at
error-lacks (error.Beyond n) name = digits-lack n

-- ---- first letters

-- of rows, of none, of an error
abbrev pub Begins : List ℕ → Type 0
Begins reply = (rest : List ℕ) × ((reply ≡ 114 ∷ rest) ⊎ ((reply ≡ 110 ∷ rest) ⊎ (reply ≡ 101 ∷ rest)))

pub rows-begin : (rows : List (List Value)) → Begins (rows_reply rows)
unfolding rows_reply
rows-begin rows = (drop 1 (rows_reply rows), inl refl)

pub error-begins : (fault : SqlError) → fault ≢ error.Memory → Begins (error_reply fault)
unfolding error_reply
error-begins error.Memory other = absurd (other refl)
error-begins (error.Beyond n) other = (drop 1 (error_reply (error.Beyond n)), inl refl)
error-begins fault other = (drop 1 (error_reply fault), inr (inr refl))

pub syntax-begins : (fault : SqlSyntax) → (rest : List ℕ) × (syntax_reply fault ≡ 101 ∷ rest)
unfolding syntax_reply
syntax-begins fault = (drop 1 (syntax_reply fault), refl)
