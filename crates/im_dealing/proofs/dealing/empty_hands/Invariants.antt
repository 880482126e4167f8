use Rattle.std.proofs.Common.{◌≡◌, [], length}
use Rattle.std.specs.List.{All}
use Rattle.im_dealing.proofs.dealing.empty_hands.Given as goal

abbrev pub invariant-loop : goal.invariant-loop
invariant-loop l = record {
  many : length l.hands.items ≡ l.counter;
  none : All (λ hand. hand.items ≡ []) l.hands.items;
}
