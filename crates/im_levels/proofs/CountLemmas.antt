-- Whole subtrees and ones, counted.
use Rattle.std.proofs.Common.{◌≡◌, ◌<◌, ◌≤◌, ℕ, suc, zero, ◌+◌, ◌-◌, ◌*◌, ◌/◌, ◌%◌, ◌^◌, refl, arith, ap, ◌∙◌, sym, count_ones}
use Rattle.std.proofs.lemmas.Nat.{pow_pos, ones-le, ones_cat}
use Rattle.std.proofs.Math.Nat.{pow-succ', mul_assoc, mul_comm}
use Rattle.im_model.proofs.Lengths.{ones-none, ones-one}
use Rattle.im_levels.specs.Counts.{whole_within, whole}

-- twice a multiple of a power of two is one of the next
pub twice-power : (j k : ℕ) → j * 2 ^ suc k ≡ 2 * (j * 2 ^ k)
twice-power j k =
    ap (λ x. j * x) (pow-succ' 2 k) ∙ sym (mul_assoc j 2 (2 ^ k)) ∙ ap (λ x. x * 2 ^ k) (mul_comm j 2) ∙ mul_assoc 2 j (2 ^ k)

whole-next : (room n : ℕ) → whole_within (suc room) n ≡ n + whole_within room (n / 2)
unfolding whole_within
whole-next room n = refl

whole-end : (n : ℕ) → whole_within zero n ≡ 0
unfolding whole_within
whole-end n = refl

whole-nothing : (room : ℕ) → whole_within room 0 ≡ 0
whole-nothing zero = whole-end 0
whole-nothing (suc room) =
    let step : whole_within (suc room) 0 ≡ 0 + whole_within room 0 = whole-next room 0 in
    let none : whole_within room 0 ≡ 0 = whole-nothing room in
    omega arith

-- more room doesn't change the number of whole subtrees
whole-room : (a b n : ℕ) → n ≤ a → n ≤ b → whole_within a n ≡ whole_within b n
whole-room zero b n p q =
    let none : n ≡ 0 = omega arith in
    whole-end n ∙ sym (ap (λ j. whole_within b j) none ∙ whole-nothing b)
whole-room (suc a) zero n p q =
    let none : n ≡ 0 = omega arith in
    ap (λ j. whole_within (suc a) j) none ∙ whole-nothing (suc a) ∙ sym (whole-end n)
whole-room (suc a) (suc b) n p q =
    whole-next a n ∙ ap (λ x. n + x) (whole-room a b (n / 2) (omega arith) (omega arith)) ∙ sym (whole-next b n)

-- no leaves have no whole subtree
pub whole-none : whole 0 ≡ 0
unfolding whole whole_within
whole-none = refl

-- the leaves, and the whole subtrees of their pairs
pub whole-step : (n : ℕ) → whole n ≡ n + whole (n / 2)
unfolding whole
whole-step zero = let none : whole_within 0 0 ≡ 0 = whole-end 0 in omega arith
whole-step (suc n) =
    whole-next n (suc n) ∙ ap (λ x. suc n + x) (whole-room n (suc n / 2) (suc n / 2) (omega arith) (omega arith))

whole-order : (room m n : ℕ) → m ≤ n → whole_within room m ≤ whole_within room n
whole-order zero m n h =
    let first : whole_within zero m ≡ 0 = whole-end m in omega arith
whole-order (suc room) m n h =
    let first : whole_within (suc room) m ≡ m + whole_within room (m / 2) = whole-next room m in
    let second : whole_within (suc room) n ≡ n + whole_within room (n / 2) = whole-next room n in
    let more : whole_within room (m / 2) ≤ whole_within room (n / 2) = whole-order room (m / 2) (n / 2) (omega arith) in
    omega arith

-- more leaves have no fewer whole subtrees
pub whole-more : (m n : ℕ) → m ≤ n → whole m ≤ whole n
unfolding whole
whole-more m n h =
    let same : whole_within m m ≡ whole_within n m = whole-room m n m (omega arith) h in
    let more : whole_within n m ≤ whole_within n n = whole-order n m n h in
    omega arith

-- there are as many leaves at most
pub whole-most : (n : ℕ) → n ≤ whole n
whole-most n = let step : whole n ≡ n + whole (n / 2) = whole-step n in omega arith

-- a whole subtree has its digest below the number of whole subtrees up to its end
whole-filled : (k j : ℕ) → whole (j * 2 ^ k) + 2 * (2 ^ k - 1) < whole (j * 2 ^ k + 2 ^ k)
whole-filled zero j =
    let a : ℕ = j * 2 ^ 0 in
    let one : 2 ^ 0 ≡ 1 = refl in
    let before : whole a ≡ a + whole (a / 2) = whole-step a in
    let after : whole (a + 2 ^ 0) ≡ (a + 2 ^ 0) + whole ((a + 2 ^ 0) / 2) = whole-step (a + 2 ^ 0) in
    let more : whole (a / 2) ≤ whole ((a + 2 ^ 0) / 2) = whole-more (a / 2) ((a + 2 ^ 0) / 2) (omega arith) in
    omega arith
whole-filled (suc k) j =
    let p : ℕ = j * 2 ^ k in
    let q : ℕ = 2 ^ k in
    let a : ℕ = j * 2 ^ suc k in
    let w : ℕ = 2 ^ suc k in
    let some : 0 < q = pow_pos k in
    let double : w ≡ 2 * q = pow-succ' 2 k in
    let twice : a ≡ 2 * p = twice-power j k in
    let half : a / 2 ≡ p = omega arith in
    let halves : (a + w) / 2 ≡ p + q = omega arith in
    let before : whole a ≡ a + whole p = whole-step a ∙ ap (λ x. a + whole x) half in
    let after : whole (a + w) ≡ (a + w) + whole (p + q) = whole-step (a + w) ∙ ap (λ x. (a + w) + whole x) halves in
    let less : whole p + 2 * (q - 1) < whole (p + q) = whole-filled k j in
    omega arith

-- so it has one among those of any more leaves
pub whole-inside : (k j n : ℕ) → j * 2 ^ k + 2 ^ k ≤ n → whole (j * 2 ^ k) + 2 * (2 ^ k - 1) < whole n
whole-inside k j n h =
    let filled : whole (j * 2 ^ k) + 2 * (2 ^ k - 1) < whole (j * 2 ^ k + 2 ^ k) = whole-filled k j in
    let more : whole (j * 2 ^ k + 2 ^ k) ≤ whole n = whole-more (j * 2 ^ k + 2 ^ k) n h in
    omega arith

-- the subtrees that become whole with a leaf stand behind all before it, the smaller first
pub whole-place : (k j : ℕ) → whole (j * 2 ^ k + 2 ^ k - 1) + k ≡ whole (j * 2 ^ k) + 2 * (2 ^ k - 1)
whole-place zero j =
    let a : ℕ = j * 2 ^ 0 in
    let one : 2 ^ 0 ≡ 1 = refl in
    let same : a + 2 ^ 0 - 1 ≡ a = omega arith in
    let is : whole (a + 2 ^ 0 - 1) ≡ whole a = ap (λ x. whole x) same in
    omega arith
whole-place (suc k) j =
    let p : ℕ = j * 2 ^ k in
    let q : ℕ = 2 ^ k in
    let a : ℕ = j * 2 ^ suc k in
    let w : ℕ = 2 ^ suc k in
    let some : 0 < q = pow_pos k in
    let double : w ≡ 2 * q = pow-succ' 2 k in
    let twice : a ≡ 2 * p = twice-power j k in
    let half : a / 2 ≡ p = omega arith in
    let halves : (a + w - 1) / 2 ≡ p + q - 1 = omega arith in
    let before : whole a ≡ a + whole p = whole-step a ∙ ap (λ x. a + whole x) half in
    let after : whole (a + w - 1) ≡ (a + w - 1) + whole (p + q - 1) = whole-step (a + w - 1) ∙ ap (λ x. (a + w - 1) + whole x) halves in
    let place : whole (p + q - 1) + k ≡ whole p + 2 * (q - 1) = whole-place k j in
    omega arith

-- a leaf behind n others makes as many subtrees whole as n has ones at its end in binary, and one
pub whole-grows : (t c n : ℕ) → c % 2 ≡ 0 → (c + 1) * 2 ^ t ≡ n + 1 → whole (n + 1) ≡ whole n + t + 1
whole-grows zero c n even is =
    let one : (c + 1) * 2 ^ 0 ≡ c + 1 = omega arith in
    let half : (n + 1) / 2 ≡ n / 2 = omega arith in
    let before : whole n ≡ n + whole (n / 2) = whole-step n in
    let after : whole (n + 1) ≡ (n + 1) + whole (n / 2) = whole-step (n + 1) ∙ ap (λ x. (n + 1) + whole x) half in
    omega arith
whole-grows (suc t) c n even is =
    let p : ℕ = (c + 1) * 2 ^ t in
    let twice : (c + 1) * 2 ^ suc t ≡ 2 * p = twice-power (c + 1) t in
    let half : (n + 1) / 2 ≡ n / 2 + 1 = omega arith in
    let whole_half : p ≡ n / 2 + 1 = omega arith in
    let before : whole n ≡ n + whole (n / 2) = whole-step n in
    let after : whole (n + 1) ≡ (n + 1) + whole (n / 2 + 1) = whole-step (n + 1) ∙ ap (λ x. (n + 1) + whole x) half in
    let grows : whole (n / 2 + 1) ≡ whole (n / 2) + t + 1 = whole-grows t c (n / 2) even whole_half in
    omega arith

-- there are at most as many ones as digits
pub ones-most : (b n : ℕ) → n < 2 ^ b → count_ones n ≤ b
ones-most b n h = ones-le b n h

-- a power of two in front of a smaller number is one more
pub ones-front : (e r : ℕ) → r < 2 ^ e → count_ones (2 ^ e + r) ≡ count_ones r + 1
ones-front e r h =
    let same : 2 ^ e + r ≡ 1 * 2 ^ e + r = omega arith in
    let cat : count_ones (1 * 2 ^ e + r) ≡ count_ones 1 + count_ones r = ones_cat e 1 r h in
    let is : count_ones (2 ^ e + r) ≡ count_ones (1 * 2 ^ e + r) = ap (λ x. count_ones x) same in
    omega (arith, ones-one)

-- a power of two has one
pub ones-power : (n e : ℕ) → n ≡ 2 ^ e → count_ones n ≡ 1
ones-power n e is =
    let some : 0 < 2 ^ e = pow_pos e in
    let same : n ≡ 2 ^ e + 0 = omega arith in
    let front : count_ones (2 ^ e + 0) ≡ count_ones 0 + 1 = ones-front e 0 some in
    let none : count_ones 0 ≡ 0 = ones-none in
    ap (λ x. count_ones x) same ∙ omega arith

-- a digit has as many ones as it counts
ones-digit : (d : ℕ) → d < 2 → count_ones d ≡ d
ones-digit zero h = ones-none
ones-digit (suc zero) h = ones-one
ones-digit (suc (suc d)) h = omega (arith, h)

-- the ones of a number are those of its half, and its last digit
ones-half : (n : ℕ) → count_ones n ≡ count_ones (n / 2) + n % 2
ones-half n =
    let same : n ≡ n / 2 * 2 ^ 1 + n % 2 = omega arith in
    let cat : count_ones (n / 2 * 2 ^ 1 + n % 2) ≡ count_ones (n / 2) + count_ones (n % 2) = ones_cat 1 (n / 2) (n % 2) (omega arith) in
    ap (λ x. count_ones x) same ∙ cat ∙ ap (λ x. count_ones (n / 2) + x) (ones-digit (n % 2) (omega arith))

-- the whole subtrees of some leaves and the ones of their number are twice the leaves
whole-ones-within : (room n : ℕ) → n ≤ room → whole n + count_ones n ≡ 2 * n
whole-ones-within zero n h =
    let none : n ≡ 0 = omega arith in
    let no_trees : whole n ≡ 0 = ap (λ x. whole x) none ∙ whole-none in
    let no_ones : count_ones n ≡ 0 = ap (λ x. count_ones x) none ∙ ones-none in
    omega arith
whole-ones-within (suc room) n h =
    let step : whole n ≡ n + whole (n / 2) = whole-step n in
    let half : whole (n / 2) + count_ones (n / 2) ≡ 2 * (n / 2) = whole-ones-within room (n / 2) (omega arith) in
    let digit : count_ones n ≡ count_ones (n / 2) + n % 2 = ones-half n in
    omega arith

pub whole-ones : (n : ℕ) → whole n + count_ones n ≡ 2 * n
whole-ones n = whole-ones-within n n (omega arith)
