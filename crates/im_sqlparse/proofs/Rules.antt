-- The rules of what stands in lists leave no more than they were given, and refuse the end of the text.
use Rattle.std.proofs.Common.{◌≡◌, ℕ, zero, suc, ◌&&◌, nat_le, Bool, true, false, cond, [], ◌∷◌, length, map, codes, Option, Some, None, Ok, ℤ, refl, ap, ◌∙◌, arith}
use Rattle.std.specs.Char.{to_ascii_lowercase}
use Rattle.std.specs.Result.{result_ok}
use Rattle.hex.specs.Hex.{decode_of}
use Rattle.im_sqlparse.specs.declared.errors.SyntaxKind.TheVariants as fault
use Rattle.im_sqlparse.specs.declared.kinds.Kind.{Kind}
use Rattle.im_sqlparse.specs.declared.kinds.Kind.TheVariants as k
use Rattle.im_sqlparse.specs.declared.statements.Literal.{Literal}
use Rattle.im_sqlparse.specs.declared.statements.Literal.TheVariants as literal
use Rattle.im_sqlparse.specs.declared.statements.Operator.{Operator}
use Rattle.im_sqlparse.specs.declared.statements.Operand.{Operand}
use Rattle.im_sqlparse.specs.declared.statements.Operand.TheVariants as operand
use Rattle.im_sqlparse.specs.declared.statements.Condition.{Condition}
use Rattle.im_sqlparse.specs.declared.statements.Condition.TheVariants as condition
use Rattle.im_sqlparse.specs.declared.statements.OrderTerm.{OrderTerm}
use Rattle.im_sqlparse.specs.Lex.{Text, token, skip, same_kind}
use Rattle.im_sqlparse.specs.Input.{Input, Reader, and_then, ◌>>=◌, ◌>>◌, ◌<$>◌, pure, refuse, fails, kind, spelling, next, left, peek, here, take_token, sees, eat, expect, separated, separated_from}
use Rattle.im_sqlparse.specs.Values.{name, column, integer_value, integer_of, integer, blob_of, blob, inside, undouble, value_by, value, row}
use Rattle.im_sqlparse.specs.Conditions.{begins_column, side, operator_of, comparator_by, comparator, compared, nullness, of_column, comparison, opens, conjunction, disjunction, negation, nested, deeper, factor}
use Rattle.im_sqlparse.specs.Statements.{order_term}
use Rattle.im_sqlparse.proofs.Depth.{level}
use Rattle.im_sqlparse.proofs.Shrinks.{Shrinks, next_le, both, of_cond, of_choice, of_pure, of_refuse, of_fails, of_peek, of_here, of_take, of_eat, of_expect, of_map, of_separated}
use Rattle.im_sqlparse.proofs.Whole.{EndsAt}

-- ---- leaving no more

name_shrinks : Shrinks name
unfolding name
name_shrinks i =
    of_choice (sees k.Word i) (cond (nat_le (length (spelling i)) 48) (Ok (map to_ascii_lowercase (spelling i), next i)) (fails fault.Name i)) (refuse i) i
    (of_choice (nat_le (length (spelling i)) 48) (Ok (map to_ascii_lowercase (spelling i), next i)) (fails fault.Name i) i (next_le i) tt) tt

pub column_shrinks : (rev : Bool) → Shrinks (column rev)
unfolding column
column_shrinks rev i = of_choice (rev && sees k.Rev i) (Ok (codes "_rev", next i)) (name i) i (next_le i) (name_shrinks i)

integer_of_shrinks : (found : Option ℤ) → Shrinks (integer_of found)
integer_of_shrinks (Some n) = both take_token (λ _. pure (literal.Integer n)) of_take (λ _. of_pure (literal.Integer n))
integer_of_shrinks None = of_fails Literal fault.Integer

integer_shrinks : Shrinks integer
unfolding integer
integer_shrinks i = integer_of_shrinks (integer_value (spelling i)) i

blob_of_shrinks : (found : Option Text) → Shrinks (blob_of found)
blob_of_shrinks (Some octets) = both take_token (λ _. pure (literal.Blob octets)) of_take (λ _. of_pure (literal.Blob octets))
blob_of_shrinks None = of_refuse Literal

blob_shrinks : Shrinks blob
unfolding blob
blob_shrinks i = blob_of_shrinks (result_ok (decode_of (inside 2 (spelling i)))) i

value_by_shrinks : (what : Kind) → Shrinks (value_by what)
value_by_shrinks k.Null = both take_token (λ _. pure literal.Null) of_take (λ _. of_pure literal.Null)
value_by_shrinks k.False = both take_token (λ _. pure (literal.Boolean false)) of_take (λ _. of_pure (literal.Boolean false))
value_by_shrinks k.True = both take_token (λ _. pure (literal.Boolean true)) of_take (λ _. of_pure (literal.Boolean true))
value_by_shrinks k.Number = integer_shrinks
value_by_shrinks k.Text = of_map (λ text. literal.Text (undouble false (inside 1 text))) take_token of_take
value_by_shrinks k.Hex = blob_shrinks
value_by_shrinks _ = of_refuse Literal

pub value_shrinks : Shrinks value
unfolding value
value_shrinks = both peek value_by of_peek value_by_shrinks

pub row_shrinks : Shrinks row
unfolding row
row_shrinks =
    both (expect k.Open) (λ _. separated k.Comma value >>= (λ found. expect k.Close >>= (λ _. pure found))) (of_expect k.Open) (λ _.
    both (separated k.Comma value) (λ found. expect k.Close >>= (λ _. pure found)) (of_separated k.Comma value value_shrinks) (λ found.
    both (expect k.Close) (λ _. pure found) (of_expect k.Close) (λ _. of_pure found)))

pub order_term_shrinks : Shrinks order_term
unfolding order_term
order_term_shrinks =
    let made : Text → Bool → OrderTerm = λ by descending. record { column = by; descending = descending } in
    both (column true) (λ by. eat k.Desc >>= (λ descending. cond descending (pure false) (eat k.Asc) >>= (λ _. pure (made by descending)))) (column_shrinks true) (λ by.
    both (eat k.Desc) (λ descending. cond descending (pure false) (eat k.Asc) >>= (λ _. pure (made by descending))) (of_eat k.Desc) (λ descending.
    both (cond descending (pure false) (eat k.Asc)) (λ _. pure (made by descending)) (of_cond descending (pure false) (eat k.Asc) (of_pure false) (of_eat k.Asc)) (λ _.
    of_pure (made by descending))))

side_shrinks : (rev : Bool) → Shrinks (side rev)
unfolding side
side_shrinks rev =
    both peek (λ what. cond (begins_column rev what) (operand.Column <$> column rev) (operand.Literal <$> value)) of_peek (λ what.
    of_cond (begins_column rev what) (operand.Column <$> column rev) (operand.Literal <$> value)
    (of_map operand.Column (column rev) (column_shrinks rev)) (of_map operand.Literal value value_shrinks))

comparator_by_shrinks : (found : Option Operator) → Shrinks (comparator_by found)
comparator_by_shrinks (Some found) = both take_token (λ _. pure found) of_take (λ _. of_pure found)
comparator_by_shrinks None = of_refuse Operator

comparator_shrinks : Shrinks comparator
unfolding comparator
comparator_shrinks = both peek (λ what. comparator_by (operator_of what)) of_peek (λ what. comparator_by_shrinks (operator_of what))

compared_shrinks : (rev : Bool) (first : Operand) → Shrinks (compared rev first)
unfolding compared
compared_shrinks rev first =
    both here (λ at. comparator >>= (λ found. side rev >>= (λ second. pure (condition.Compare first found at second)))) of_here (λ at.
    both comparator (λ found. side rev >>= (λ second. pure (condition.Compare first found at second))) comparator_shrinks (λ found.
    both (side rev) (λ second. pure (condition.Compare first found at second)) (side_shrinks rev) (λ second. of_pure (condition.Compare first found at second))))

nullness_shrinks : (called : Text) → Shrinks (nullness called)
unfolding nullness
nullness_shrinks called =
    both (eat k.Not) (λ negated. expect k.Null >>= (λ _. pure (condition.Nullness called negated))) (of_eat k.Not) (λ negated.
    both (expect k.Null) (λ _. pure (condition.Nullness called negated)) (of_expect k.Null) (λ _. of_pure (condition.Nullness called negated)))

of_column_shrinks : (rev : Bool) (called : Text) → Shrinks (of_column rev called)
unfolding of_column
of_column_shrinks rev called =
    both (eat k.Is) (λ found. cond found (nullness called) (compared rev (operand.Column called))) (of_eat k.Is) (λ found.
    of_cond found (nullness called) (compared rev (operand.Column called)) (nullness_shrinks called) (compared_shrinks rev (operand.Column called)))

comparison_shrinks : (rev : Bool) → Shrinks (comparison rev)
unfolding comparison
comparison_shrinks rev =
    let by_name : Reader Condition = column rev >>= (λ called. of_column rev called) in
    let by_value : Reader Condition = value >>= (λ found. compared rev (operand.Literal found)) in
    both peek (λ what. cond (begins_column rev what) by_name by_value) of_peek (λ what.
    of_cond (begins_column rev what) by_name by_value
    (both (column rev) (λ called. of_column rev called) (column_shrinks rev) (of_column_shrinks rev))
    (both value (λ found. compared rev (operand.Literal found)) value_shrinks (λ found. compared_shrinks rev (operand.Literal found))))

pub conjunction_shrinks : (one : Reader Condition) → Shrinks one → Shrinks (conjunction one)
unfolding conjunction
conjunction_shrinks one s = of_map condition.All (separated k.And one) (of_separated k.And one s)

disjunction_shrinks : (one : Reader Condition) → Shrinks one → Shrinks (disjunction one)
unfolding disjunction
disjunction_shrinks one s = of_map condition.Any (separated k.Or (conjunction one)) (of_separated k.Or (conjunction one) (conjunction_shrinks one s))

negation_shrinks : (one : Reader Condition) → Shrinks one → Shrinks (negation one)
unfolding negation
negation_shrinks one s = of_map condition.Not one s

nested_shrinks : (one : Reader Condition) → Shrinks one → Shrinks (nested one)
unfolding nested
nested_shrinks one s =
    both (disjunction one) (λ found. expect k.Close >>= (λ _. pure found)) (disjunction_shrinks one s) (λ found.
    both (expect k.Close) (λ _. pure found) (of_expect k.Close) (λ _. of_pure found))

deeper_shrinks : (one : Reader Condition) → Shrinks one → Shrinks (deeper one)
unfolding deeper
deeper_shrinks one s =
    both (eat k.Not) (λ is_not. cond is_not (negation one) (take_token >> nested one)) (of_eat k.Not) (λ is_not.
    of_cond is_not (negation one) (take_token >> nested one) (negation_shrinks one s)
    (both take_token (λ _. nested one) of_take (λ _. nested_shrinks one s)))

pub factor_shrinks : (rev : Bool) (depth : ℕ) → Shrinks (factor rev depth)
unfolding factor
factor_shrinks rev zero i = of_choice (opens (kind i)) (fails fault.Deep i) (comparison rev i) i tt (comparison_shrinks rev i)
factor_shrinks rev (suc depth) i =
    of_choice (opens (kind i)) (deeper (factor rev depth) i) (comparison rev i) i (deeper_shrinks (factor rev depth) (factor_shrinks rev depth) i) (comparison_shrinks rev i)

-- ---- refusing the end

token_end : (text : Text) → length text ≡ 0 → (token text).0 ≡ k.End
unfolding token
token_end [] none = refl
token_end (octet ∷ text) none = absurd (omega arith)

end_kind : (i : Input) → left i ≡ 0 → kind i ≡ k.End
unfolding left kind
end_kind i none = token_end (skip i.text) none

unseen : (what : Kind) (i : Input) → left i ≡ 0 → same_kind k.End what ≡ false → sees what i ≡ false
unfolding sees
unseen what i none other = ap (λ (x : Kind). same_kind x what) (end_kind i none) ∙ other

then_ends : {A B : Type 0} (p : Reader A) (f : A → Reader B) → EndsAt p → EndsAt (p >>= f)
then_ends p f h i none = ap (λ o. and_then o f) (h i none)

expect_ends : (what : Kind) → same_kind k.End what ≡ false → EndsAt (expect what)
unfolding expect
expect_ends what other i none = ap (λ (b : Bool). cond b (Ok (tt, next i)) (refuse i)) (unseen what i none other)

name_ends : EndsAt name
unfolding name same_kind
name_ends i none =
    ap (λ (b : Bool). cond b (cond (nat_le (length (spelling i)) 48) (Ok (map to_ascii_lowercase (spelling i), next i)) (fails fault.Name i)) (refuse i)) (unseen k.Word i none refl)

and_false : (b : Bool) → (b && false) ≡ false
and_false true = refl
and_false false = refl

pub column_ends : (rev : Bool) → EndsAt (column rev)
unfolding column same_kind
column_ends rev i none =
    ap (λ (b : Bool). cond (rev && b) (Ok (codes "_rev", next i)) (name i)) (unseen k.Rev i none refl)
    ∙ ap (λ (b : Bool). cond b (Ok (codes "_rev", next i)) (name i)) (and_false rev)
    ∙ name_ends i none

pub value_ends : EndsAt value
unfolding value
value_ends i none = ap (λ (what : Kind). value_by what i) (end_kind i none)

pub row_ends : EndsAt row
unfolding row same_kind
row_ends = then_ends (expect k.Open) (λ _. separated k.Comma value >>= (λ found. expect k.Close >>= (λ _. pure found))) (expect_ends k.Open refl)

pub order_term_ends : EndsAt order_term
unfolding order_term
order_term_ends =
    let made : Text → Bool → OrderTerm = λ by descending. record { column = by; descending = descending } in
    then_ends (column true) (λ by. eat k.Desc >>= (λ descending. cond descending (pure false) (eat k.Asc) >>= (λ _. pure (made by descending)))) (column_ends true)

no_column : (rev : Bool) → begins_column rev k.End ≡ false
unfolding begins_column same_kind
no_column true = refl
no_column false = refl

comparison_ends : (rev : Bool) → EndsAt (comparison rev)
unfolding comparison
comparison_ends rev i none =
    let by_name : Reader Condition = column rev >>= (λ called. of_column rev called) in
    let by_value : Reader Condition = value >>= (λ found. compared rev (operand.Literal found)) in
    ap (λ (what : Kind). (cond (begins_column rev what) by_name by_value) i) (end_kind i none)
    ∙ ap (λ (b : Bool). (cond b by_name by_value) i) (no_column rev)
    ∙ then_ends value (λ found. compared rev (operand.Literal found)) value_ends i none

shut : opens k.End ≡ false
unfolding opens same_kind
shut = refl

pub factor_ends : (rev : Bool) (depth : ℕ) → EndsAt (factor rev depth)
factor_ends rev depth i none = level rev depth i (ap opens (end_kind i none) ∙ shut) ∙ comparison_ends rev i none

pub conjunction_ends : (one : Reader Condition) → EndsAt (conjunction one)
unfolding conjunction separated_from
conjunction_ends one i none = ap (λ (n : ℕ). and_then (separated_from k.And one n [] i) (λ x. pure (condition.All x))) none
