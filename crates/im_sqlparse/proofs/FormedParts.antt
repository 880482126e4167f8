-- Values, columns and conditions are formed.
use Rattle.std.proofs.Common.{◌≡◌, ◌≤◌, ◌<◌, ◌^◌, ◌&&◌, ℕ, zero, suc, ℤ, pos, neg_ℤ, FitsSigned, w64, nat_le, nat_lt, Bool, true, false, cond, drop, slice_index, ◌==◌, Option, Some, None, refl, sym, ap, ◌∙◌, subst, List, inl, inr, leb-true, ltb-true, pow_pos}
use Rattle.std.proofs.lemmas.Bool.{and_parts}
use Rattle.std.specs.Result.{result_ok}
use Rattle.hex.specs.Hex.{decode_of}
use Rattle.im_text.specs.Words.{number_value}
use Rattle.im_sqlparse.specs.declared.errors.SyntaxKind.TheVariants as fault
use Rattle.im_sqlparse.specs.declared.kinds.Kind.{Kind}
use Rattle.im_sqlparse.specs.declared.kinds.Kind.TheVariants as k
use Rattle.im_sqlparse.specs.declared.statements.Literal.TheVariants as literal
use Rattle.im_sqlparse.specs.declared.statements.Operand.{Operand}
use Rattle.im_sqlparse.specs.declared.statements.Operand.TheVariants as operand
use Rattle.im_sqlparse.specs.declared.statements.Operator.{Operator}
use Rattle.im_sqlparse.specs.declared.statements.Condition.{Condition, out-Condition}
use Rattle.im_sqlparse.specs.declared.statements.Condition.TheOpen.{Condition-F}
use Rattle.im_sqlparse.specs.declared.statements.Condition.TheViews.{out-roll-Condition}
use Rattle.im_sqlparse.specs.declared.statements.Condition.TheVariants as condition
use Rattle.im_sqlparse.specs.Lex.{Text}
use Rattle.im_sqlparse.specs.Input.{Reader, ◌>>=◌, ◌>>◌, ◌<$>◌, pure, refuse, fails, kind, spelling, peek, here, take_token, eat, expect, separated}
use Rattle.im_sqlparse.specs.Values.{column, is_unsigned, within, number_from, number, below_zero, above_zero, integer_value, integer_of, integer, blob_of, blob, inside, undouble, value_by, value, names, row}
use Rattle.im_sqlparse.specs.Conditions.{begins_column, side, comparator, compared, nullness, of_column, comparison, opens, conjunction, disjunction, negation, nested, deeper, factor, most_depth, whole_condition, filter}
use Rattle.im_sqlparse.specs.Formed.{IsName, IsColumnName, AreNames, IsLiteral, IsLiteralRow, IsOperand, Level, IsComparisonAt, IsComparison, IsConjunctionAt, IsConjunction, IsDisjunctionAt, IsDisjunction, IsOpenedAt, IsOpened, IsFactor, IsFilter}
use Rattle.im_sqlparse.proofs.Gives.{Gives, SomeOf, given_weaker, both, after, of_pure, of_refuse, of_fails, of_cond, of_choice, of_map, of_separated}
use Rattle.im_sqlparse.proofs.NameRules.{column_gives, plain_column_gives}

-- ---- numbers

abbrev pub IsWithin : ℕ → ℕ → ℕ → Type 0
IsWithin least most n = (least ≤ n) × (n ≤ most)

within_gives : (least most n : ℕ) (b : Bool) → (nat_le least n && nat_le n most) ≡ b → Gives (IsWithin least most) (number_from (cond b (Some n) None))
within_gives least most n true is =
    let parts = and_parts (nat_le least n) (nat_le n most) is in
    after (IsWithin least most) take_token (λ _. pure n) (λ _. of_pure (IsWithin least most) n (leb-true least n parts.0, leb-true n most parts.1))
within_gives least most n false is = of_fails (IsWithin least most) fault.Number

pub number_gives : (least most : ℕ) → Gives (IsWithin least most) (number least most)
unfolding number within
number_gives least most i =
    let n = number_value (spelling i) in
    of_choice (IsWithin least most) (is_unsigned i) (number_from (within least most (spelling i)) i) (refuse i)
    (within_gives least most n (nat_le least n && nat_le n most) refl i) tt

-- ---- values

abbrev Fits : Option ℤ → Type 0
Fits (Some z) = FitsSigned w64 z
Fits None = Unit {0}

negative_fits : (n : ℕ) → n ≤ 2 ^ 63 → FitsSigned w64 (neg_ℤ (pos n))
negative_fits zero h = record { sfits = pow_pos 63 }
negative_fits (suc n) h = record { sfits = h }

below_fits : (n : ℕ) (b : Bool) → nat_le n (2 ^ 63) ≡ b → Fits (cond b (Some (neg_ℤ (pos n))) None)
below_fits n true is = negative_fits n (leb-true n (2 ^ 63) is)
below_fits n false is = tt

above_fits : (n : ℕ) (b : Bool) → nat_lt n (2 ^ 63) ≡ b → Fits (cond b (Some (pos n)) None)
above_fits n true is = record { sfits = ltb-true n (2 ^ 63) is }
above_fits n false is = tt

of_either : (b : Bool) (x y : Option ℤ) → Fits x → Fits y → Fits (cond b x y)
of_either true x y p q = p
of_either false x y p q = q

integer_value_fits : (text : Text) → Fits (integer_value text)
unfolding integer_value
integer_value_fits text =
    let below = number_value (drop 1 text) in
    let above = number_value text in
    of_either (slice_index text 0 == 45) (below_zero below) (above_zero above) (below_fits below (nat_le below (2 ^ 63)) refl) (above_fits above (nat_lt above (2 ^ 63)) refl)

integer_of_gives : (found : Option ℤ) → Fits found → Gives IsLiteral (integer_of found)
integer_of_gives (Some n) h = after IsLiteral take_token (λ _. pure (literal.Integer n)) (λ _. of_pure IsLiteral (literal.Integer n) h)
integer_of_gives None h = of_fails IsLiteral fault.Integer

integer_gives : Gives IsLiteral integer
unfolding integer
integer_gives i = integer_of_gives (integer_value (spelling i)) (integer_value_fits (spelling i)) i

blob_of_gives : (found : Option Text) → Gives IsLiteral (blob_of found)
blob_of_gives (Some octets) = after IsLiteral take_token (λ _. pure (literal.Blob octets)) (λ _. of_pure IsLiteral (literal.Blob octets) tt)
blob_of_gives None = of_refuse IsLiteral

blob_gives : Gives IsLiteral blob
unfolding blob
blob_gives i = blob_of_gives (result_ok (decode_of (inside 2 (spelling i)))) i

value_by_gives : (what : Kind) → Gives IsLiteral (value_by what)
value_by_gives k.Null = after IsLiteral take_token (λ _. pure literal.Null) (λ _. of_pure IsLiteral literal.Null tt)
value_by_gives k.False = after IsLiteral take_token (λ _. pure (literal.Boolean false)) (λ _. of_pure IsLiteral (literal.Boolean false) tt)
value_by_gives k.True = after IsLiteral take_token (λ _. pure (literal.Boolean true)) (λ _. of_pure IsLiteral (literal.Boolean true) tt)
value_by_gives k.Number = integer_gives
value_by_gives k.Text =
    after IsLiteral take_token (λ text. pure (literal.Text (undouble false (inside 1 text)))) (λ text. of_pure IsLiteral (literal.Text (undouble false (inside 1 text))) tt)
value_by_gives k.Hex = blob_gives
value_by_gives _ = of_refuse IsLiteral

pub value_gives : Gives IsLiteral value
unfolding value
value_gives = after IsLiteral peek value_by value_by_gives

pub row_gives : Gives IsLiteralRow row
unfolding row
row_gives =
    after IsLiteralRow (expect k.Open) (λ _. separated k.Comma value >>= (λ found. expect k.Close >>= (λ _. pure found))) (λ _.
    both (SomeOf IsLiteral) IsLiteralRow (separated k.Comma value) (λ found. expect k.Close >>= (λ _. pure found)) (of_separated IsLiteral k.Comma value value_gives) (λ found h.
    after IsLiteralRow (expect k.Close) (λ _. pure found) (λ _. of_pure IsLiteralRow found h)))

pub names_give : Gives AreNames names
unfolding names
names_give =
    after AreNames (expect k.Open) (λ _. separated k.Comma (column false) >>= (λ found. expect k.Close >>= (λ _. pure found))) (λ _.
    both (SomeOf IsName) AreNames (separated k.Comma (column false)) (λ found. expect k.Close >>= (λ _. pure found)) (of_separated IsName k.Comma (column false) plain_column_gives) (λ found h.
    after AreNames (expect k.Close) (λ _. pure found) (λ _. of_pure AreNames found h)))

-- ---- conditions, by their levels

opened-Any : (cs : List Condition) → out-Condition (condition.Any cs) ≡ Condition-F.Any cs
opened-Any cs = ap out-Condition (sym (condition.rolls-Any cs)) ∙ out-roll-Condition (Condition-F.Any cs)

opened-All : (cs : List Condition) → out-Condition (condition.All cs) ≡ Condition-F.All cs
opened-All cs = ap out-Condition (sym (condition.rolls-All cs)) ∙ out-roll-Condition (Condition-F.All cs)

opened-Not : (c : Condition) → out-Condition (condition.Not c) ≡ Condition-F.Not c
opened-Not c = ap out-Condition (sym (condition.rolls-Not c)) ∙ out-roll-Condition (Condition-F.Not c)

opened-Compare : (first : Operand) (o : Operator) (at : ℕ) (second : Operand) → out-Condition (condition.Compare first o at second) ≡ Condition-F.Compare first o at second
opened-Compare first o at second =
    ap out-Condition (sym (condition.rolls-Compare first o at second)) ∙ out-roll-Condition (Condition-F.Compare first o at second)

opened-Nullness : (called : Text) (negated : Bool) → out-Condition (condition.Nullness called negated) ≡ Condition-F.Nullness called negated
opened-Nullness called negated = ap out-Condition (sym (condition.rolls-Nullness called negated)) ∙ out-roll-Condition (Condition-F.Nullness called negated)

comparison_is : (rev : Bool) (first : Operand) (o : Operator) (at : ℕ) (second : Operand) → IsOperand rev first → IsOperand rev second
    → IsComparison rev (condition.Compare first o at second)
comparison_is rev first o at second p q = subst (IsComparisonAt rev) (sym (opened-Compare first o at second)) (p, q)

nullness_is : (rev : Bool) (called : Text) (negated : Bool) → IsColumnName rev called → IsComparison rev (condition.Nullness called negated)
nullness_is rev called negated h = subst (IsComparisonAt rev) (sym (opened-Nullness called negated)) h

conjunction_is : (IsOne : Condition → Type 0) (cs : List Condition) → SomeOf IsOne cs → IsConjunction IsOne (condition.All cs)
conjunction_is IsOne cs h = subst (IsConjunctionAt IsOne) (sym (opened-All cs)) h

disjunction_is : (IsOne : Condition → Type 0) (cs : List Condition) → SomeOf (IsConjunction IsOne) cs → IsDisjunction IsOne (condition.Any cs)
disjunction_is IsOne cs h = subst (IsDisjunctionAt IsOne) (sym (opened-Any cs)) h

negation_is : (IsOne : Condition → Type 0) (c : Condition) → IsOne c → IsOpened IsOne (condition.Not c)
negation_is IsOne c h = subst (IsOpenedAt IsOne) (sym (opened-Not c)) h

opened_level : (IsOne : Condition → Type 0) (l : Level) → IsDisjunctionAt IsOne l → IsOpenedAt IsOne l
opened_level IsOne (Condition-F.Any cs) h = h
opened_level IsOne (Condition-F.All cs) h = absurd h
opened_level IsOne (Condition-F.Not c) h = absurd h
opened_level IsOne (Condition-F.Compare first o at second) h = absurd h
opened_level IsOne (Condition-F.Nullness called negated) h = absurd h

opened : (IsOne : Condition → Type 0) (c : Condition) → IsDisjunction IsOne c → IsOpened IsOne c
opened IsOne c h = opened_level IsOne (out-Condition c) h

-- ---- conditions

side_gives : (rev : Bool) → Gives (IsOperand rev) (side rev)
unfolding side
side_gives rev =
    after (IsOperand rev) peek (λ what. cond (begins_column rev what) (operand.Column <$> column rev) (operand.Literal <$> value)) (λ what.
    of_cond (IsOperand rev) (begins_column rev what) (operand.Column <$> column rev) (operand.Literal <$> value)
    (of_map (IsColumnName rev) (IsOperand rev) operand.Column (column rev) (column_gives rev) (λ _ h. h))
    (of_map IsLiteral (IsOperand rev) operand.Literal value value_gives (λ _ h. h)))

compared_gives : (rev : Bool) (first : Operand) → IsOperand rev first → Gives (IsComparison rev) (compared rev first)
unfolding compared
compared_gives rev first is =
    after (IsComparison rev) here (λ at. comparator >>= (λ found. side rev >>= (λ second. pure (condition.Compare first found at second)))) (λ at.
    after (IsComparison rev) comparator (λ found. side rev >>= (λ second. pure (condition.Compare first found at second))) (λ found.
    both (IsOperand rev) (IsComparison rev) (side rev) (λ second. pure (condition.Compare first found at second)) (side_gives rev) (λ second h.
    of_pure (IsComparison rev) (condition.Compare first found at second) (comparison_is rev first found at second is h))))

nullness_gives : (rev : Bool) (called : Text) → IsColumnName rev called → Gives (IsComparison rev) (nullness called)
unfolding nullness
nullness_gives rev called is =
    after (IsComparison rev) (eat k.Not) (λ negated. expect k.Null >>= (λ _. pure (condition.Nullness called negated))) (λ negated.
    after (IsComparison rev) (expect k.Null) (λ _. pure (condition.Nullness called negated)) (λ _. of_pure (IsComparison rev) (condition.Nullness called negated) (nullness_is rev called negated is)))

of_column_gives : (rev : Bool) (called : Text) → IsColumnName rev called → Gives (IsComparison rev) (of_column rev called)
unfolding of_column
of_column_gives rev called is =
    after (IsComparison rev) (eat k.Is) (λ found. cond found (nullness called) (compared rev (operand.Column called))) (λ found.
    of_cond (IsComparison rev) found (nullness called) (compared rev (operand.Column called)) (nullness_gives rev called is) (compared_gives rev (operand.Column called) is))

comparison_gives : (rev : Bool) → Gives (IsComparison rev) (comparison rev)
unfolding comparison
comparison_gives rev =
    let by_name : Reader Condition = column rev >>= (λ called. of_column rev called) in
    let by_value : Reader Condition = value >>= (λ found. compared rev (operand.Literal found)) in
    after (IsComparison rev) peek (λ what. cond (begins_column rev what) by_name by_value) (λ what.
    of_cond (IsComparison rev) (begins_column rev what) by_name by_value
    (both (IsColumnName rev) (IsComparison rev) (column rev) (λ called. of_column rev called) (column_gives rev) (of_column_gives rev))
    (both IsLiteral (IsComparison rev) value (λ found. compared rev (operand.Literal found)) value_gives (λ found h. compared_gives rev (operand.Literal found) h)))

conjunction_gives : (IsOne : Condition → Type 0) (one : Reader Condition) → Gives IsOne one → Gives (IsConjunction IsOne) (conjunction one)
unfolding conjunction
conjunction_gives IsOne one h = of_map (SomeOf IsOne) (IsConjunction IsOne) condition.All (separated k.And one) (of_separated IsOne k.And one h) (conjunction_is IsOne)

disjunction_gives : (IsOne : Condition → Type 0) (one : Reader Condition) → Gives IsOne one → Gives (IsDisjunction IsOne) (disjunction one)
unfolding disjunction
disjunction_gives IsOne one h =
    of_map (SomeOf (IsConjunction IsOne)) (IsDisjunction IsOne) condition.Any (separated k.Or (conjunction one))
    (of_separated (IsConjunction IsOne) k.Or (conjunction one) (conjunction_gives IsOne one h)) (disjunction_is IsOne)

negation_gives : (IsOne : Condition → Type 0) (one : Reader Condition) → Gives IsOne one → Gives (IsOpened IsOne) (negation one)
unfolding negation
negation_gives IsOne one h = of_map IsOne (IsOpened IsOne) condition.Not one h (negation_is IsOne)

nested_gives : (IsOne : Condition → Type 0) (one : Reader Condition) → Gives IsOne one → Gives (IsOpened IsOne) (nested one)
unfolding nested
nested_gives IsOne one h =
    both (IsDisjunction IsOne) (IsOpened IsOne) (disjunction one) (λ found. expect k.Close >>= (λ _. pure found)) (disjunction_gives IsOne one h) (λ found is.
    after (IsOpened IsOne) (expect k.Close) (λ _. pure found) (λ _. of_pure (IsOpened IsOne) found (opened IsOne found is)))

deeper_gives : (IsOne : Condition → Type 0) (one : Reader Condition) → Gives IsOne one → Gives (IsOpened IsOne) (deeper one)
unfolding deeper
deeper_gives IsOne one h =
    after (IsOpened IsOne) (eat k.Not) (λ is_not. cond is_not (negation one) (take_token >> nested one)) (λ is_not.
    of_cond (IsOpened IsOne) is_not (negation one) (take_token >> nested one) (negation_gives IsOne one h)
    (after (IsOpened IsOne) take_token (λ _. nested one) (λ _. nested_gives IsOne one h)))

factor_gives : (rev : Bool) (depth : ℕ) → Gives (IsFactor rev depth) (factor rev depth)
unfolding factor
factor_gives rev zero i =
    of_choice (IsFactor rev zero) (opens (kind i)) (fails fault.Deep i) (comparison rev i) tt
    (given_weaker (IsComparison rev) (IsFactor rev zero) (comparison rev i) (λ _ h. h) (comparison_gives rev i))
factor_gives rev (suc depth) i =
    of_choice (IsFactor rev (suc depth)) (opens (kind i)) (deeper (factor rev depth) i) (comparison rev i)
    (given_weaker (IsOpened (IsFactor rev depth)) (IsFactor rev (suc depth)) (deeper (factor rev depth) i) (λ _ h. inr h) (deeper_gives (IsFactor rev depth) (factor rev depth) (factor_gives rev depth) i))
    (given_weaker (IsComparison rev) (IsFactor rev (suc depth)) (comparison rev i) (λ _ h. inl h) (comparison_gives rev i))

pub filter_gives : (rev : Bool) → Gives (IsFilter rev) (filter rev)
unfolding filter whole_condition
filter_gives rev =
    let whole : Reader Condition = disjunction (factor rev most_depth) in
    after (IsFilter rev) (eat k.Where) (λ found. cond found (Some <$> whole) (pure None)) (λ found.
    of_cond (IsFilter rev) found (Some <$> whole) (pure None)
    (of_map (IsDisjunction (IsFactor rev most_depth)) (IsFilter rev) Some whole (disjunction_gives (IsFactor rev most_depth) (factor rev most_depth) (factor_gives rev most_depth)) (λ _ h. h))
    (of_pure (IsFilter rev) None tt))
