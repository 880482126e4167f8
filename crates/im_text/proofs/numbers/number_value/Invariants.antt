use Rattle.std.proofs.Common.{◌≡◌, ◌<◌, ◌^◌, take}
use Rattle.im_text.specs.Words.{number_value}
use Rattle.im_text.proofs.numbers.number_value.Given as goal

abbrev pub invariant-loop-digit : goal.invariant-loop-digit
invariant-loop-digit l = record {
  value : l.value ≡ number_value (take l.digit-index l.digits);
  small : l.value < 10 ^ l.digit-index;
}
