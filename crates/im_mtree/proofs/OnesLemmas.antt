-- The height of a stack of whole subtrees: how it changes as a leaf is added.
use Rattle.std.proofs.Common.{◌≡◌, ◌<◌, ◌≤◌, ℕ, suc, zero, ◌+◌, ◌-◌, ◌*◌, ◌/◌, ◌%◌, ◌^◌, refl, arith, ap, inl, inr}
use Rattle.std.proofs.lemmas.Bool.{cases_lt}
use Rattle.std.proofs.Math.Nat.{pow-succ'}
use Rattle.im_mtree.specs.Kept.{ones_within, ones}

-- the ones of a number are its last digit and those of its half
ones-step : (room count : ℕ) → ones_within (suc room) count ≡ count % 2 + ones_within room (count / 2)
unfolding ones_within
ones-step room count = refl

ones-zero : (count : ℕ) → ones_within zero count ≡ 0
unfolding ones_within
ones-zero count = refl

-- there are at most as many ones as digits
ones-most : (room count : ℕ) → ones_within room count ≤ room
ones-most zero count = let none = ones-zero count in omega arith
ones-most (suc room) count =
    let step : ones_within (suc room) count ≡ count % 2 + ones_within room (count / 2) = ones-step room count in
    let most : ones_within room (count / 2) ≤ room = ones-most room (count / 2) in
    omega arith

ones-some_within : (room count : ℕ) → 0 < count → count < 2 ^ room → 0 < ones_within room count
ones-some_within zero count some fits = absurd (omega arith)
ones-some_within (suc room) count some fits =
    let double : 2 ^ suc room ≡ 2 * 2 ^ room = pow-succ' 2 room in
    let step : ones_within (suc room) count ≡ count % 2 + ones_within room (count / 2) = ones-step room count in
    elim (cases_lt 0 (count % 2)) [
      | inl odd ↦ omega arith
      | inr even ↦ (let less : 0 < ones_within room (count / 2) = ones-some_within room (count / 2) (omega arith) (omega arith) in omega arith)
    ]

-- a number that isn't 0 has a one
pub ones-some : (count : ℕ) → 0 < count → count < 2 ^ 64 → 0 < ones count
unfolding ones
ones-some count some fits = ones-some_within 64 count some fits

-- 0 has none
pub ones-none : 0 ≡ ones 0
unfolding ones ones_within
ones-none = refl

-- while a leaf is added: the height of the stack that is left, where `count` subtrees of the size reached
-- stand before the new one, and the height that is wanted
pub record IsHeight (want height count : ℕ) : Type 0 where
  pub room : ℕ
  pub small : room ≤ 64
  pub fits : count + 1 < 2 ^ room
  pub before : height ≡ ones_within room count
  pub after : want ≡ ones_within room (count + 1)

-- a leaf begins to be added
pub height-begins : (height count : ℕ) → count + 1 < 2 ^ 64 → height ≡ ones count → IsHeight (ones (count + 1)) height count
unfolding ones
height-begins height count fits before =
    record { room = 64; small = omega arith; fits = fits; before = before; after = refl }

height-odd : (want height count room : ℕ) → count % 2 ≡ 1 → room ≤ 64 → count + 1 < 2 ^ room → height ≡ ones_within room count → want ≡ ones_within room (count + 1)
    → (0 < height) × IsHeight want (height - 1) (count / 2)
height-odd want height count zero odd small fits before after = absurd (omega arith)
height-odd want height count (suc room) odd small fits before after =
    let double : 2 ^ suc room ≡ 2 * 2 ^ room = pow-succ' 2 room in
    let step : ones_within (suc room) count ≡ count % 2 + ones_within room (count / 2) = ones-step room count in
    let next : ones_within (suc room) (count + 1) ≡ (count + 1) % 2 + ones_within room ((count + 1) / 2) = ones-step room (count + 1) in
    let half : (count + 1) / 2 ≡ count / 2 + 1 = omega arith in
    let same : ones_within room ((count + 1) / 2) ≡ ones_within room (count / 2 + 1) = ap (λ j. ones_within room j) half in (
      omega arith,
      record { room = room; small = omega arith; fits = omega arith; before = omega arith; after = omega arith },
    )

-- an odd count: a subtree is taken
pub height-goes_on : (want height count : ℕ) → count % 2 ≡ 1 → IsHeight want height count → (0 < height) × IsHeight want (height - 1) (count / 2)
height-goes_on want height count odd h = height-odd want height count h.room odd h.small h.fits h.before h.after

height-even : (want height count room : ℕ) → count % 2 ≡ 0 → room ≤ 64 → count + 1 < 2 ^ room → height ≡ ones_within room count → want ≡ ones_within room (count + 1)
    → (height < 64) × (height + 1 ≡ want)
height-even want height count zero even small fits before after = absurd (omega arith)
height-even want height count (suc room) even small fits before after =
    let step : ones_within (suc room) count ≡ count % 2 + ones_within room (count / 2) = ones-step room count in
    let next : ones_within (suc room) (count + 1) ≡ (count + 1) % 2 + ones_within room ((count + 1) / 2) = ones-step room (count + 1) in
    let half : (count + 1) / 2 ≡ count / 2 = omega arith in
    let same : ones_within room ((count + 1) / 2) ≡ ones_within room (count / 2) = ap (λ j. ones_within room j) half in
    let most : ones_within room (count / 2) ≤ room = ones-most room (count / 2) in
    (omega arith, omega arith)

-- an even count: the new subtree is put behind the others, for which there is room
pub height-ends : (want height count : ℕ) → count % 2 ≡ 0 → IsHeight want height count → (height < 64) × (height + 1 ≡ want)
height-ends want height count even h = height-even want height count h.room even h.small h.fits h.before h.after

-- a stack of the height of a size that isn't 0 has a root
pub height-some : (height size told : ℕ) → height ≡ ones size → size ≡ told → 0 < told → size < 2 ^ 64 → 0 < height
height-some height size told is same some fits =
    let more : 0 < ones size = ones-some size (omega arith) fits in
    omega arith
