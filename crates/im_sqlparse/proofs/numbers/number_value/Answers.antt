use Rattle.std.proofs.Common.{rules, arith}
use Rattle.std.proofs.lemmas.Grind.{common_steps}
use Rattle.im_sqlparse.proofs.Digits.{stays_large, all_read}
use Rattle.im_sqlparse.proofs.numbers.number_value.Goals as goal

pub returns-in_err-value : goal.returns-in_err-value
returns-in_err-value c =
    let none = stays_large c.loop-digits.digits.now c.loop-digits.value _ c.in-len1-up.len_at_least c.loop-digits.invariant.0 in
    first_of (search rules, grind (arith, common_steps))

pub returns : goal.returns
returns c =
    let same = all_read c.loop-digits.digits.now c.loop-digits.value _ c.in_default.len_below c.loop-digits.invariant.0 in
    first_of (search rules, grind (arith, common_steps))
