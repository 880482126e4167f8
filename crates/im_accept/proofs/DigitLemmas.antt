-- The digits of a number.
use Rattle.std.proofs.Common.{◌<◌, ◌≤◌, ℕ, length, arith}
use Rattle.std.specs.Fmt.{decimal}
use Rattle.std.proofs.lemmas.Bool.{and_from, le-leb}
use Rattle.std.proofs.lemmas.Fmt.{decimal_nonempty, length-decimal-le}
use Rattle.im_text.specs.Words.{is_word, IsDigits}
pub use Rattle.im_sqlreply.proofs.DigitLemmas.{decimal-digits, decimal-lacks}

-- those of a transaction's number are few
pub decimal-word : (n : ℕ) → n ≤ 1048576 → IsDigits (decimal n)
unfolding is_word
decimal-word n few =
    let some : 0 < length (decimal n) = decimal_nonempty n (omega arith) in
    let most : length (decimal n) ≤ 20 = length-decimal-le 20 n (omega arith) (omega arith) (omega arith) in
    and_from _ _ (and_from _ _ (le-leb 1 (length (decimal n)) some) (le-leb (length (decimal n)) 20 most)) (decimal-digits n)
