-- What a reader of the grammar reads from, and the steps that every rule is made of.
use Rattle.std.specs.Prelude.{◌≡◌, ℕ, zero, suc, ◌-◌, Bool, if◌then◌else◌, List, [], ◌∷◌, ◌++◌, length, take, drop, Result, Ok, Err, refl}
use Rattle.std.specs.Coded.{Coded, code_by, coded×, coded_ℕ, coded_list}
use Rattle.im_sqlparse.specs.declared.kinds.Kind.{Kind}
use Rattle.im_sqlparse.specs.declared.kinds.Kind.TheVariants as k
use Rattle.im_sqlparse.specs.declared.errors.ParseError.{ParseError}
use Rattle.im_sqlparse.specs.declared.errors.ParseError.TheVariants.{Memory, Syntax}
use Rattle.im_sqlparse.specs.declared.errors.SqlSyntax.{SqlSyntax}
use Rattle.im_sqlparse.specs.declared.errors.SyntaxKind.{SyntaxKind}
use Rattle.im_sqlparse.specs.declared.errors.SyntaxKind.TheVariants as fault
use Rattle.im_sqlparse.specs.Lex.{Text, token, skip, same_kind}

pub record Input : Type 0 where
  -- how many octets the whole text has
  pub whole : ℕ
  -- what stands behind the last token that was read
  pub text : Text

abbrev pub input_code : Coded Input
input_code = code_by (ℕ × Text) (coded× coded_ℕ (coded_list coded_ℕ)) (λ i. (i.whole, i.text)) (λ p. record { whole = p.0; text = p.1 }) (λ _. refl)

abbrev pub start_of : Text → Input
start_of text = record { whole = length text; text = text }

-- ---- the next token

unfoldable pub kind : Input → Kind
kind i = (token (skip i.text)).0

unfoldable pub spelling : Input → Text
spelling i = take (token (skip i.text)).1 (skip i.text)

unfoldable pub next : Input → Input
next i = record i { text = drop (token (skip i.text)).1 (skip i.text) }

-- how many octets there are from the token on
unfoldable pub left : Input → ℕ
left i = length (skip i.text)

-- the place of the token's first octet, or the text's length at its end
unfoldable pub place : Input → ℕ
place i = i.whole - left i

-- ---- readers: a value and what is left, or the first fault

abbrev pub Parsed : Type 0 → Type 0
Parsed A = Result (A × Input) SqlSyntax

abbrev pub Reader : Type 0 → Type 0
Reader A = Input → Parsed A

abbrev pub and_then : {A B : Type 0} → Parsed A → (A → Reader B) → Parsed B
and_then (Ok p) f = f p.0 p.1
and_then (Err e) f = Err e

infixl 10 ◌>>=◌
abbrev pub ◌>>=◌ : {A B : Type 0} → Reader A → (A → Reader B) → Reader B
p >>= f = λ i. and_then (p i) f

infixl 10 ◌>>◌
abbrev pub ◌>>◌ : {A B : Type 0} → Reader A → Reader B → Reader B
p >> q = p >>= (λ _. q)

abbrev pub pure : {A : Type 0} → A → Reader A
pure a = λ i. Ok (a, i)

infixr 11 ◌<$>◌
abbrev pub ◌<$>◌ : {A B : Type 0} → (A → B) → Reader A → Reader B
f <$> p = p >>= (λ x. pure (f x))

-- a fault at the next token
unfoldable pub fault_at : SyntaxKind → Input → SqlSyntax
fault_at what i = record { at = place i; kind = what }

abbrev pub fails : {A : Type 0} → SyntaxKind → Reader A
fails what = λ i. Err (fault_at what i)

-- why the next token can't follow: none begins there, or another one must
unfoldable pub refusal : Input → SqlSyntax
refusal i = fault_at (if same_kind (kind i) k.Bad then fault.Token else fault.Expect) i

abbrev pub refuse : {A : Type 0} → Reader A
refuse = λ i. Err (refusal i)

abbrev pub peek : Reader Kind
peek = λ i. Ok (kind i, i)

-- the next token's place
abbrev pub here : Reader ℕ
here = λ i. Ok (place i, i)

-- the token's octets, whatever its kind
abbrev pub take_token : Reader Text
take_token = λ i. Ok (spelling i, next i)

unfoldable pub sees : Kind → Input → Bool
sees what i = same_kind (kind i) what

unfoldable pub past_kind : Kind → Input → Input
past_kind what i = if sees what i then next i else i

-- takes a token of this kind, if it comes next
abbrev pub eat : Kind → Reader Bool
eat what = λ i. Ok (sees what i, past_kind what i)

-- takes a token of this kind, which must come next
unfoldable pub expect : Kind → Reader (Unit {0})
expect what = λ i. if sees what i then Ok (tt, next i) else refuse i

-- ---- lists. The number bounds the turns, and each turn takes a token, so the count of octets is enough.

unfoldable pub separated_from : {A : Type 0} → Kind → Reader A → ℕ → List A → Reader (List A)
separated_from mark item zero found = refuse
separated_from mark item (suc n) found = do
  x ← item
  more ← eat mark
  if more then separated_from mark item n (found ++ x ∷ []) else pure (found ++ x ∷ [])

-- one or more, with a mark between
abbrev pub separated : {A : Type 0} → Kind → Reader A → Reader (List A)
separated mark item = λ i. separated_from mark item (left i) [] i

-- ---- what a function that reads ensures: the reader's outcome, unless memory fails

abbrev pub ReadsTokens : {A : Type 0} → Parsed A → Result A ParseError → Input → Type 0
ReadsTokens outcome (Ok a) new = outcome ≡ Ok (a, new)
ReadsTokens outcome (Err Memory) new = Unit {0}
ReadsTokens outcome (Err (Syntax e)) new = outcome ≡ Err e
