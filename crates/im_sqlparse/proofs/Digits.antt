-- Numbers of digits.
use Rattle.std.proofs.Common.{◌≡◌, ℕ, ◌+◌, ◌-◌, ◌*◌, ◌^◌, ◌<◌, ◌≤◌, List, [], ◌∷◌, fold, length, slice_index, arith}

-- more digits make no smaller number
pub rising : (digits : List ℕ) (n : ℕ) → n ≤ fold (λ m d. m * 10 + (d - 48)) n digits
rising [] n = omega arith
rising (digit ∷ digits) n = omega (arith, rising digits (n * 10 + (digit - 48)))

-- a number that doesn't fit with one more digit doesn't with all of them
pub stays_large : (digits : List ℕ) (n whole : ℕ) → 1 ≤ length digits → fold (λ m d. m * 10 + (d - 48)) n digits ≡ whole
    → (n * 10 + (slice_index digits 0 - 48) < 2 ^ 64 → ⊥) → whole < 2 ^ 64 → ⊥
stays_large [] n whole some e large small = absurd (omega arith)
stays_large (digit ∷ digits) n whole some e large small = large (omega (arith, rising digits (n * 10 + (digit - 48)), e, small))

-- no digit is left
pub all_read : (digits : List ℕ) (n whole : ℕ) → length digits < 1 → fold (λ m d. m * 10 + (d - 48)) n digits ≡ whole → n ≡ whole
all_read [] n whole none e = e
all_read (digit ∷ digits) n whole none e = absurd (omega arith)
