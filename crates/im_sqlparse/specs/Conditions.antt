-- Conditions. The first parameter says whether `_rev` may stand where a column may.
use Rattle.std.specs.Prelude.{ℕ, zero, suc, Bool, ◌&&◌, ◌||◌, if◌then◌else◌, Option, Some, None}
use Rattle.im_sqlparse.specs.declared.kinds.Kind.{Kind}
use Rattle.im_sqlparse.specs.declared.kinds.Kind.TheVariants as k
use Rattle.im_sqlparse.specs.declared.errors.SyntaxKind.TheVariants as fault
use Rattle.im_sqlparse.specs.declared.statements.Operator.{Operator}
use Rattle.im_sqlparse.specs.declared.statements.Operator.TheVariants as operator
use Rattle.im_sqlparse.specs.declared.statements.Operand.{Operand}
use Rattle.im_sqlparse.specs.declared.statements.Operand.TheVariants as operand
use Rattle.im_sqlparse.specs.declared.statements.Condition.{Condition}
use Rattle.im_sqlparse.specs.declared.statements.Condition.TheVariants as condition
use Rattle.im_sqlparse.specs.Lex.{Text, same_kind}
use Rattle.im_sqlparse.specs.Input.{Reader, ◌>>=◌, ◌>>◌, ◌<$>◌, pure, refuse, fails, kind, peek, here, take_token, eat, expect, separated}
use Rattle.im_sqlparse.specs.Values.{column, value}

unfoldable pub begins_column : Bool → Kind → Bool
begins_column rev what = same_kind what k.Word || (rev && same_kind what k.Rev)

-- one side of a comparison
unfoldable pub side : Bool → Reader Operand
side rev = do
  what ← peek
  if begins_column rev what then operand.Column <$> column rev else operand.Literal <$> value

abbrev pub operator_of : Kind → Option Operator
operator_of k.Equal = Some operator.Equal
operator_of k.Unequal = Some operator.Unequal
operator_of k.Less = Some operator.Less
operator_of k.AtMost = Some operator.AtMost
operator_of k.Greater = Some operator.Greater
operator_of k.AtLeast = Some operator.AtLeast
operator_of _ = None

abbrev pub comparator_by : Option Operator → Reader Operator
comparator_by (Some found) = take_token >> pure found
comparator_by None = refuse

unfoldable pub comparator : Reader Operator
comparator = peek >>= (λ what. comparator_by (operator_of what))

-- what follows the left side of a comparison
unfoldable pub compared : Bool → Operand → Reader Condition
compared rev left = do
  at ← here
  found ← comparator
  right ← side rev
  pure (condition.Compare left found at right)

-- what follows a column and IS
unfoldable pub nullness : Text → Reader Condition
nullness name = do
  negated ← eat k.Not
  expect k.Null
  pure (condition.Nullness name negated)

-- what follows a column
unfoldable pub of_column : Bool → Text → Reader Condition
of_column rev name = do
  found ← eat k.Is
  if found then nullness name else compared rev (operand.Column name)

-- a comparison, or a column that is NULL or isn't
unfoldable pub comparison : Bool → Reader Condition
comparison rev = do
  what ← peek
  if begins_column rev what
      then (do name ← column rev; of_column rev name)
      else (do found ← value; compared rev (operand.Literal found))

-- `NOT` or `(`, in which another condition stands
unfoldable pub opens : Kind → Bool
opens what = same_kind what k.Not || same_kind what k.Open

-- factors with AND between
unfoldable pub conjunction : Reader Condition → Reader Condition
conjunction one = condition.All <$> separated k.And one

-- conjunctions of factors with OR between
unfoldable pub disjunction : Reader Condition → Reader Condition
disjunction one = condition.Any <$> separated k.Or (conjunction one)

-- behind NOT
unfoldable pub negation : Reader Condition → Reader Condition
negation one = condition.Not <$> one

-- behind an opening parenthesis
unfoldable pub nested : Reader Condition → Reader Condition
nested one = do
  found ← disjunction one
  expect k.Close
  pure found

-- NOT or a parenthesis, in which the factors stand
unfoldable pub deeper : Reader Condition → Reader Condition
deeper one = do
  is_not ← eat k.Not
  if is_not then negation one else (take_token >> nested one)

-- a factor in which so many NOT and parentheses may stand in one another
unfoldable pub factor : Bool → ℕ → Reader Condition
factor rev zero = λ i. if opens (kind i) then fails fault.Deep i else comparison rev i
factor rev (suc depth) = λ i. if opens (kind i) then deeper (factor rev depth) i else comparison rev i

abbrev pub most_depth : ℕ
most_depth = 64

-- the condition of a statement
unfoldable pub whole_condition : Bool → Reader Condition
whole_condition rev = disjunction (factor rev most_depth)

-- a condition behind WHERE, if that comes next
unfoldable pub filter : Bool → Reader (Option Condition)
filter rev = do
  found ← eat k.Where
  if found then Some <$> whole_condition rev else pure None
