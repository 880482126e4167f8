-- The walk from a leaf up, level by level.
use Rattle.std.proofs.Common.{◌≡◌, ◌<◌, ◌≤◌, ℕ, suc, zero, ◌+◌, ◌/◌, ◌%◌, ◌^◌, List, [], ◌∷◌, length, drop, refl, arith, ap, ◌∙◌, sym, nat_eq, Bool, true, false, inl, inr, get_or, drop-cons}
use Rattle.std.proofs.lemmas.Bool.{cases_order}
use Rattle.std.proofs.Math.Nat.{div-div-eq-div-mul, div-one, pow-suc}
use Rattle.im_mtree.specs.Ways.{sides, rise, IsPassedTo}
use Rattle.im_mtree.specs.declared.places.Place.{Place}
use Rattle.im_mtree.proofs.SideLemmas.{sides-up, sides-one}

-- a last node with an even index stands alone on its level
pub pass_level : (r i : ℕ) → 0 < r → i ≡ r → r % 2 ≡ 0 → sides (r + 1) i ≡ sides (r / 2 + 1) (i / 2)
pass_level r i p e h =
    sides-up (r + 1) (r + 1) (r / 2 + 1) i (i / 2) [] (omega arith) (omega arith) (omega arith) (omega arith) (omega arith)
    (inr (inr (grind arith, omega arith, refl)))

-- any other node has one beside it
pub meet_level : (r i : ℕ) → 0 < r → i ≤ r → (i ≡ r → r % 2 ≡ 1) → sides (r + 1) i ≡ nat_eq (i % 2) 1 ∷ sides (r / 2 + 1) (i / 2)
meet_level r i p q h =
    elim (nat_eq (i % 2) 1) as (λ b. (nat_eq (i % 2) 1 ≡ b) → sides (r + 1) i ≡ b ∷ sides (r / 2 + 1) (i / 2)) [
      | true ↦ λ e.
          sides-up (r + 1) (r + 1) (r / 2 + 1) i (i / 2) (true ∷ []) (omega arith) (omega arith) (omega arith) (omega arith) (omega arith)
          (inr (inl (grind arith, refl)))
      | false ↦ λ e.
          let even : i % 2 ≡ 0 = grind arith in
          sides-up (r + 1) (r + 1) (r / 2 + 1) i (i / 2) (false ∷ []) (omega arith) (omega arith) (omega arith) (omega arith) (omega arith)
          (inl (omega arith, grind arith, refl))
    ] refl

-- a step of the walk
pub rise-on : {X : Type 0} → (step : Bool → X → List ℕ → X) (sides : List Bool) (b : Bool) (more : List Bool) (x : X) (z : List ℕ) (path : List (List ℕ))
    → sides ≡ b ∷ more → rise step sides x (z ∷ path) ≡ rise step more (step b x z) path
unfolding rise
rise-on step sides b more x z path e = ap (λ s. rise step s x (z ∷ path)) e

-- a walk with no side ends where it begins
pub rise-end : {X : Type 0} → (step : Bool → X → List ℕ → X) (sides : List Bool) (x : X) (path : List (List ℕ))
    → length sides ≡ 0 → rise step sides x path ≡ x
unfolding rise
rise-end step [] x path e = refl
rise-end step (b ∷ more) x path e = absurd (omega arith)

-- where a side is left, there is a level above
pub not-root : (r i : ℕ) → 0 < length (sides (r + 1) i) → 0 < r
not-root zero i h = absurd (omega (arith, h, ap length (sides-one i)))
not-root (suc r) i h = omega arith

-- the sides, one term on
pub sides-next : (r i r1 i1 r2 i2 : ℕ) (b : Bool) → sides (r1 + 1) i1 ≡ sides (r + 1) i → sides (r1 + 1) i1 ≡ b ∷ sides (r1 / 2 + 1) (i1 / 2)
    → r2 ≡ r1 / 2 → i2 ≡ i1 / 2 → sides (r + 1) i ≡ b ∷ sides (r2 + 1) i2
sides-next r i r1 i1 r2 i2 b same met lasts indices =
    sym same ∙ met ∙ ap (λ x. b ∷ sides (x + 1) (i1 / 2)) (sym lasts) ∙ ap (λ x. b ∷ sides (r2 + 1) x) (sym indices)

-- the walk, one term on
pub walk-next : {X : Type 0} → (step : Bool → X → List ℕ → X) (r i r1 i1 r2 i2 : ℕ) (b : Bool) (x y : X) (path : List (List ℕ)) (t : ℕ) (w : X)
    → sides (r1 + 1) i1 ≡ sides (r + 1) i → sides (r1 + 1) i1 ≡ b ∷ sides (r1 / 2 + 1) (i1 / 2)
    → r2 ≡ r1 / 2 → i2 ≡ i1 / 2 → t < length path → y ≡ step b x (get_or path t [])
    → rise step (sides (r + 1) i) x (drop t path) ≡ w
    → rise step (sides (r2 + 1) i2) y (drop (t + 1) path) ≡ w
walk-next step r i r1 i1 r2 i2 b x y path t w same met lasts indices within made before =
    let next : t + 1 ≡ suc t = omega arith in
    ap (λ v. rise step (sides (r2 + 1) i2) v (drop (t + 1) path)) made
    ∙ ap (λ n. rise step (sides (r2 + 1) i2) (step b x (get_or path t [])) (drop n path)) next
    ∙ sym (rise-on step (sides (r + 1) i) b (sides (r2 + 1) i2) x (get_or path t []) (drop (suc t) path) (sides-next r i r1 i1 r2 i2 b same met lasts indices))
    ∙ ap (λ p. rise step (sides (r + 1) i) x p) (sym (drop-cons path t [] within))
    ∙ before

-- the number of terms, one term on
pub left-next : (r i r1 i1 r2 i2 : ℕ) (b : Bool) (long t : ℕ)
    → sides (r1 + 1) i1 ≡ sides (r + 1) i → sides (r1 + 1) i1 ≡ b ∷ sides (r1 / 2 + 1) (i1 / 2)
    → r2 ≡ r1 / 2 → i2 ≡ i1 / 2 → long ≡ t + length (sides (r + 1) i) → long ≡ t + 1 + length (sides (r2 + 1) i2)
left-next r i r1 i1 r2 i2 b long t same met lasts indices before =
    let e = ap length (sides-next r i r1 i1 r2 i2 b same met lasts indices) in
    omega (arith, before, e)

-- a place is reached from itself
pub passed_none : (place : Place) → IsPassedTo place place
passed_none place = record {
  levels = 0;
  index = sym (div-one place.index);
  last = sym (div-one place.last);
  alone = λ level below. absurd (omega arith);
}

-- half of what is left after some levels is what is left one level further
half-on : (n half whole levels : ℕ) → whole ≡ n / 2 ^ levels → half ≡ whole / 2 → half ≡ n / 2 ^ suc levels
half-on n half whole levels here is =
    is ∙ ap (λ j. j / 2) here ∙ div-div-eq-div-mul n (2 ^ levels) 2 ∙ ap (λ j. n / j) (sym (pow-suc 2 levels))

-- a level on which the last node stands left is passed
pub passed_on : (from to next : Place) → to.index ≡ to.last → to.last % 2 ≡ 0 → next.index ≡ to.index / 2 → next.last ≡ to.last / 2
    → IsPassedTo from to → IsPassedTo from next
passed_on from to next same even index last h = record {
  levels = suc h.levels;
  index = half-on from.index next.index to.index h.levels h.index index;
  last = half-on from.last next.last to.last h.levels h.last last;
  alone = λ level below. elim (cases_order level h.levels) [
    | inl here ↦ (
      (ap (λ j. from.index / 2 ^ j) here ∙ sym h.index ∙ same ∙ h.last ∙ ap (λ j. from.last / 2 ^ j) (sym here)),
      ap (λ j. from.last / 2 ^ j % 2) here ∙ ap (λ j. j % 2) (sym h.last) ∙ even,
    )
    | inr (inl less) ↦ h.alone level less
    | inr (inr more) ↦ absurd (omega arith)
  ];
}
