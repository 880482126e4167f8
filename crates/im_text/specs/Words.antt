-- Words of a kind of octets, and the numbers that digits stand for.
use Rattle.std.specs.Prelude.{◌≡◌, ◌<◌, ◌+◌, ◌-◌, ◌*◌, ◌^◌, ◌&&◌, nat_le, ℕ, List, length, fold, Bool, true}
use Rattle.std.specs.List.{list_all}
use Rattle.std.specs.Char.{is_ascii_digit}

-- one to `most` octets, each of the kind
unfoldable pub is_word : ℕ → (ℕ → Bool) → List ℕ → Bool
is_word most kind text = nat_le 1 (length text) && nat_le (length text) most && list_all kind text

-- the number that some decimal digits stand for
abbrev pub number_value : List ℕ → ℕ
number_value digits = fold (λ n d. n * 10 + (d - 48)) 0 digits

-- 1 to 20 decimal digits
abbrev pub IsDigits : List ℕ → Type 0
IsDigits text = is_word 20 is_ascii_digit text ≡ true

-- 1 to 20 decimal digits of a number below 2^64
abbrev pub IsNumber : List ℕ → ℕ → Type 0
IsNumber text n = IsDigits text × (number_value text ≡ n) × (n < 2 ^ 64)
