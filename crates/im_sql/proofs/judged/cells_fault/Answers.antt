use Rattle.std.proofs.Common.{◌≡◌, ◌<◌, List, length, get_or, sym, ap, ◌∙◌, arith}
use Rattle.im_sqlmodel.specs.declared.tables.Column.{Column}
use Rattle.im_sql.proofs.FitLemmas.{cells-past, fits-more, kinds-of-fit}
use Rattle.im_sql.proofs.judged.cells_fault.Goals as goal

pub loop-at-preserved : goal.loop-at-preserved
loop-at-preserved c =
    let columns : List Column = c.args.table.now.columns in
    let row = c.args.row.now in
    let at = c.loop-at.at in
    let column = c.column-item.result in
    let value = c.index-row-at.result in
    let lent = c.as_slice-column-items.ensures in
    let l : at < length columns = omega (arith, c.loop-at-test.true, ap length lent) in
    let m : at < length row = omega (arith, l, c.requires) in
    let is : column ≡ get_or columns at column = c.column-item.is ∙ ap (λ (cs : List Column). get_or cs at column) lent in (
      cells-past c.args.table.now c.args.i at columns row column value l m is c.index-row-at.is (sym c.in_ok-fault.ensures.fault ∙ c.in_default.is) ∙ c.loop-at.invariant.0,
      fits-more columns row at column value l m is c.index-row-at.is (c.in_ok-fault.ensures.fits c.in_default.is) c.loop-at.invariant.1,
    )

pub returns-clause-kinds : goal.returns-clause-kinds
returns-clause-kinds c = λ _.
    let columns : List Column = c.args.table.now.columns in
    let lent = c.as_slice-column-items.ensures in
    kinds-of-fit columns c.args.row.now c.requires (λ k d e l. c.loop-at.invariant.1 k d e (omega (arith, l, c.loop-at-test.false, ap length lent)))
