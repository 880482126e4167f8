use Rattle.std.proofs.Common.{ℕ, length, arith}
use Rattle.im_sqlsound.specs.declared.found.TableFound.{TableFound}
use Rattle.im_sqlsound.proofs.HangLemmas.{sum-step, sum-upto, sum-end}
use Rattle.im_sqlsound.proofs.hanging.left_of.Goals as goal

abbrev indexes_in : TableFound → ℕ
indexes_in f = length f.indexes

abbrev rows_in : TableFound → ℕ
rows_in f = length f.rows

pub loop-found-preserved : goal.loop-found-preserved
loop-found-preserved c =
    let fs = c.args.tables.now in
    let i = c.loop-found.found-index in
    let f = c.found-item.result in
    let a = sum-step indexes_in fs i f c.loop-found-test.true c.found-item.is in
    let b = sum-step rows_in fs i f c.loop-found-test.true c.found-item.is in
    omega (arith, a, b, c.loop-found.invariant, c.if-left-indexes.false, c.if-left-rows.false, c.len-indexes.ensures, c.len-rows.ensures)

-- the tables up to this one have more than the number: those of all have
pub returns-then-left-indexes-clause-none : goal.returns-then-left-indexes-clause-none
returns-then-left-indexes-clause-none c =
    let fs = c.args.tables.now in
    let i = c.loop-found.found-index in
    let f = c.found-item.result in
    let a = sum-upto indexes_in fs i f c.loop-found-test.true c.found-item.is in
    let b = sum-upto rows_in fs i f c.loop-found-test.true c.found-item.is in
    omega (arith, a, b, c.loop-found.invariant, c.if-left-indexes.true, c.len-indexes.ensures)

pub returns-then-left-rows-clause-none : goal.returns-then-left-rows-clause-none
returns-then-left-rows-clause-none c =
    let fs = c.args.tables.now in
    let i = c.loop-found.found-index in
    let f = c.found-item.result in
    let a = sum-upto indexes_in fs i f c.loop-found-test.true c.found-item.is in
    let b = sum-upto rows_in fs i f c.loop-found-test.true c.found-item.is in
    omega (arith, a, b, c.loop-found.invariant, c.if-left-indexes.false, c.if-left-rows.true, c.len-indexes.ensures, c.len-rows.ensures)

pub returns-clause-some : goal.returns-clause-some
returns-clause-some c =
    let fs = c.args.tables.now in
    let a = sum-end indexes_in fs c.loop-found.found-index c.loop-found-test.false in
    let b = sum-end rows_in fs c.loop-found.found-index c.loop-found-test.false in
    omega (arith, a, b, c.loop-found.invariant)
