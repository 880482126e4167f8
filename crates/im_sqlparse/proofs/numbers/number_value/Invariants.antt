use Rattle.std.proofs.Common.{◌≡◌, ◌<◌, ◌+◌, ◌-◌, ◌*◌, ◌^◌, fold, length}
use Rattle.im_text.specs.Words.{number_value}
use Rattle.im_sqlparse.proofs.numbers.number_value.Given as goal

abbrev pub invariant-loop-digits : goal.invariant-loop-digits
invariant-loop-digits l = (fold (λ m d. m * 10 + (d - 48)) l.value l.digits ≡ number_value l.fn.digits) × (l.value < 2 ^ 64)

abbrev pub decreases-loop-digits : goal.decreases-loop-digits
decreases-loop-digits l = length l.digits
