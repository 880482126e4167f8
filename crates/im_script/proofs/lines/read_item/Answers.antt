use Rattle.std.proofs.Common.{refl}
use Rattle.im_script.proofs.NumberLemmas.{nothing-found, item-of, item-bad-number, item-bad-index, item-bad-under}
use Rattle.im_script.proofs.lines.read_item.Goals as goal

pub returns-in_err-number : goal.returns-in_err-number
returns-in_err-number c =
    nothing-found _ c.from_residual-in_err-number.result c.from_residual-in_err-number.ensures
    (item-bad-number c.args.text.now c.in_ok-first.first.now c.in_ok-first.tail.now c.first_field.result.0.now c.first_field.result.1.now c.in_ok-first.ensures.some c.first_field.ensures c.in_err-number.ensures)

pub returns-in_err-index : goal.returns-in_err-index
returns-in_err-index c =
    nothing-found _ c.from_residual-in_err-index.result c.from_residual-in_err-index.ensures
    (item-bad-index c.args.text.now c.in_ok-first.first.now c.in_ok-first.tail.now c.first_field.result.0.now c.first_field.result.1.now c.in_ok-first.ensures.some c.first_field.ensures c.in_err-index.ensures)

pub returns-in_err-under : goal.returns-in_err-under
returns-in_err-under c =
    nothing-found _ c.from_residual-in_err-under.result c.from_residual-in_err-under.ensures
    (item-bad-under c.args.text.now c.in_ok-first.first.now c.in_ok-first.tail.now c.first_field.result.0.now c.first_field.result.1.now c.in_ok-first.ensures.some c.first_field.ensures c.in_err-under.ensures)

pub returns : goal.returns
returns c = (
  c.in_ok-number.number,
  c.in_ok-index.index,
  c.in_ok-under.under,
  refl,
  item-of c.args.text.now c.in_ok-first.first.now c.in_ok-first.tail.now c.first_field.result.0.now c.first_field.result.1.now c.in_ok-number.number c.in_ok-index.index c.in_ok-under.under c.in_ok-first.ensures.some c.first_field.ensures c.in_ok-number.ensures c.in_ok-index.ensures c.in_ok-under.ensures,
)
