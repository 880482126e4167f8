use Rattle.std.proofs.Common.{◌∙◌, List, ap, ap₂}
use Rattle.im_sqltype.specs.declared.values.Value.{Value}
use Rattle.im_sqlparse.specs.declared.statements.OrderTerm.{OrderTerm}
use Rattle.im_sqlmodel.specs.Selects.{terms_cmp}
use Rattle.im_sqlmodel.specs.Sorts.{sorted}
use Rattle.im_plan.specs.Ordered.{shown_rows}
use Rattle.im_plan.proofs.selects.selected.Goals as goal

pub source_rows-requires-clause-view : goal.source_rows-requires-clause-view
source_rows-requires-clause-view g c = c.requires.view

pub returns : goal.returns
returns g c = λ history stands few is kept of rows source.
    c.in_ok-shown.ensures
    ∙ ap (shown_rows c.args.scope.now c.args.select.now)
    (c.as_slice-2.ensures.value ∙ c.in_ok-sort_rows.ensures
    ∙ ap₂ (λ (terms : List OrderTerm) (found : List (List Value)). sorted (terms_cmp c.args.scope.now terms) found) c.as_slice.ensures
    (c.in_ok-rows.ensures history stands few is kept of rows source))
