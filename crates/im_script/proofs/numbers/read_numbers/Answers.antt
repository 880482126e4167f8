use Rattle.im_script.proofs.NumberLemmas.{nothing-found, numbers-bad-first, numbers-bad-second}
use Rattle.im_script.proofs.numbers.read_numbers.Goals as goal

pub returns-in_err-first : goal.returns-in_err-first
returns-in_err-first c =
    nothing-found _ c.from_residual-in_err-first.result c.from_residual-in_err-first.ensures
    (numbers-bad-first c.args.text.now c.in_ok-front.front.now c.in_ok-front.back.now c.in_ok-front.ensures.some c.in_err-first.ensures)

pub returns-in_err-second : goal.returns-in_err-second
returns-in_err-second c =
    nothing-found _ c.from_residual-in_err-second.result c.from_residual-in_err-second.ensures
    (numbers-bad-second c.args.text.now c.in_ok-front.front.now c.in_ok-front.back.now c.in_ok-front.ensures.some c.in_err-second.ensures)
