-- A search that halves what is left.
use Rattle.std.proofs.Common.{◌≡◌, ◌<◌, ◌≤◌, ◌+◌, ◌-◌, ◌*◌, ◌/◌, ℕ, true, false, List, length, get_or, arith, sym, subst}
use Rattle.std.proofs.lemmas.Bool.{both_ways, false_from_ne_true}
use Rattle.std.proofs.lemmas.List.{get_or_read}
use Rattle.std.specs.List.{AllWithin}
use Rattle.std.specs.List.Sorted.{IsSorted}
use Rattle.im_versions.specs.declared.versions.Version.{Version}
use Rattle.im_index.specs.Marks.{is_upto, numbered}
use Rattle.im_index.specs.Runs.{HasDigits}
use Rattle.im_index.proofs.HalvingLemmas.{halved}
use Rattle.im_index.proofs.OrderLemmas.{upto-parted}

-- the place lies from low up to high, and so many steps were taken
pub record IsSearch (run : List Version) (key : List ℕ) (n low high old steps : ℕ) : Type 0 where
  pub order : low ≤ high
  pub inside : high ≤ length run
  pub front : AllWithin (λ (v : Version). is_upto key n v ≡ true) run 0 low
  pub behind : AllWithin (λ (v : Version). is_upto key n v ≡ false) run high (length run)
  pub counted : old ≤ steps
  pub cost : (b : ℕ) → HasDigits b (length run) → (steps ≤ old + b) × HasDigits (old + b - steps) (high - low)

-- what is left is halved, whichever half it is
cost-next : (run : List Version) (key : List ℕ) (n low high lower higher old steps : ℕ) → IsSearch run key n low high old steps → low < high
    → lower ≤ higher → 2 * (higher - lower) ≤ high - low
    → (b : ℕ) → HasDigits b (length run) → (steps + 1 ≤ old + b) × HasDigits (old + b - (steps + 1)) (higher - lower)
cost-next run key n low high lower higher old steps so more order half b fits =
    let now : (steps ≤ old + b) × HasDigits (old + b - steps) (high - low) = so.cost b fits in
    let next : (0 < old + b - steps) × HasDigits (old + b - steps - 1) (higher - lower) =
    halved (old + b - steps) (high - low) (higher - lower) (omega arith) now.1 half in
    let one : 0 < old + b - steps = next.0 in
    let same : old + b - steps - 1 ≡ old + b - (steps + 1) = omega arith in
    (omega arith, subst (λ (d : ℕ). HasDigits d (higher - lower)) same next.1)

-- the version in the middle stands at most there
pub search-up : (run : List Version) (key : List ℕ) (n low high middle old steps : ℕ) (v : Version) → IsSearch run key n low high old steps
    → IsSorted numbered run → low < high → middle ≡ low + (high - low) / 2 → v ≡ get_or run middle v → is_upto key n v ≡ true
    → IsSearch run key n (middle + 1) high old (steps + 1)
search-up run key n low high middle old steps v so sorted more at is up = record {
  order = omega arith;
  inside = so.inside;
  front = λ k d l m. upto-parted key n run sorted k middle d (omega arith) (omega (arith, so.inside))
      (subst (λ (w : Version). is_upto key n w ≡ true) (get_or_read run middle v (omega (arith, so.inside)) is d) up);
  behind = so.behind;
  counted = omega (arith, so.counted);
  cost = cost-next run key n low high (middle + 1) high old steps so more (omega arith) (omega arith);
}

-- it stands behind it
pub search-down : (run : List Version) (key : List ℕ) (n low high middle old steps : ℕ) (v : Version) → IsSearch run key n low high old steps
    → IsSorted numbered run → low < high → middle ≡ low + (high - low) / 2 → v ≡ get_or run middle v → is_upto key n v ≡ false
    → IsSearch run key n low middle old (steps + 1)
search-down run key n low high middle old steps v so sorted more at is behind = record {
  order = omega arith;
  inside = omega (arith, so.inside);
  front = so.front;
  behind = λ k d l m. false_from_ne_true (is_upto key n (get_or run k d)) (λ up.
      both_ways (is_upto key n (get_or run middle d))
      (subst (λ (w : Version). is_upto key n w ≡ false) (get_or_read run middle v (omega (arith, so.inside)) is d) behind)
      (upto-parted key n run sorted middle k d l m up));
  counted = omega (arith, so.counted);
  cost = cost-next run key n low high low middle old steps so more (omega arith) (omega arith);
}

-- nothing was searched yet
pub search-first : (run : List Version) (key : List ℕ) (n high old : ℕ) → high ≡ length run → IsSearch run key n 0 high old old
search-first run key n high old all = record {
  order = omega arith;
  inside = omega arith;
  front = λ k d l m. absurd (omega arith);
  behind = λ k d l m. absurd (omega arith);
  counted = omega arith;
  cost = λ b fits.
      (let same : b ≡ old + b - old = omega arith in
      (omega arith, subst (λ (d : ℕ). HasDigits d (high - 0)) same (omega arith)));
}

-- the same numbers under other names
pub search-same : (run : List Version) (key : List ℕ) (n low high old steps lower higher more : ℕ) → IsSearch run key n low high old steps
    → lower ≡ low → higher ≡ high → more ≡ steps → IsSearch run key n lower higher old more
search-same run key n low high old steps lower higher more so a b c =
    subst (λ (x : ℕ). IsSearch run key n x higher old more) (sym a)
    (subst (λ (x : ℕ). IsSearch run key n low x old more) (sym b)
    (subst (λ (x : ℕ). IsSearch run key n low high old x) (sym c) so))
