use Rattle.std.proofs.Common.{refl}
use Rattle.im_sqlparse.specs.declared.kinds.Kind.TheVariants as k
use Rattle.im_sqlparse.specs.Conditions.{conjunction, factor}
use Rattle.im_sqlparse.specs.Lex.{same_kind}
use Rattle.im_sqlparse.specs.Statements.{order_term}
use Rattle.im_sqlparse.specs.Values.{column, row, value}
use Rattle.im_sqlparse.proofs.Rules.{column_shrinks, column_ends, value_shrinks, value_ends, row_shrinks, row_ends, order_term_shrinks, order_term_ends, factor_shrinks, factor_ends, conjunction_shrinks, conjunction_ends}
use Rattle.im_sqlparse.proofs.Whole.{is_whole}
use Rattle.im_sqlparse.proofs.laws.lists_are_whole.Goals as goal

pub returns-clause-columns : goal.returns-clause-columns
unfolding same_kind
returns-clause-columns c rev = is_whole k.Comma (column rev) (column_shrinks rev) (column_ends rev) refl

pub returns-clause-values : goal.returns-clause-values
unfolding same_kind
returns-clause-values c = is_whole k.Comma value value_shrinks value_ends refl

pub returns-clause-rows : goal.returns-clause-rows
unfolding same_kind
returns-clause-rows c = is_whole k.Comma row row_shrinks row_ends refl

pub returns-clause-terms : goal.returns-clause-terms
unfolding same_kind
returns-clause-terms c = is_whole k.Comma order_term order_term_shrinks order_term_ends refl

pub returns-clause-factors : goal.returns-clause-factors
unfolding same_kind
returns-clause-factors c rev depth = is_whole k.And (factor rev depth) (factor_shrinks rev depth) (factor_ends rev depth) refl

pub returns-clause-conjunctions : goal.returns-clause-conjunctions
unfolding same_kind
returns-clause-conjunctions c rev depth =
    is_whole k.Or (conjunction (factor rev depth)) (conjunction_shrinks (factor rev depth) (factor_shrinks rev depth)) (conjunction_ends (factor rev depth)) refl
