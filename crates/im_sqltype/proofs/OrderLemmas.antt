-- Of orders, one behind the other.
use Rattle.std.proofs.Common.{◌≡◌, ℕ, ◌+◌, ◌*◌, ◌<◌, ◌≤◌, refl, sym, ap, subst, arith}
use Rattle.std.specs.declared.cmp.Ordering.{Ordering}
use Rattle.std.specs.declared.cmp.Ordering.TheVariants.{Less, Equal, Greater}
use Rattle.std.specs.Ordering.{ordering_then, nat_cmp, MatchOrdering}
use Rattle.std.specs.Cmp.{ranks, nat_cmp_is}
use Rattle.std.proofs.Math.Nat.{mul-le-mul_right}

pub then_assoc : (o p q : Ordering) → ordering_then o (ordering_then p q) ≡ ordering_then (ordering_then o p) q
then_assoc Less p q = refl
then_assoc Equal p q = refl
then_assoc Greater p q = refl

abbrev pub IsEqual : Ordering → Type 0
IsEqual Less = ⊥
IsEqual Equal = Unit {0}
IsEqual Greater = ⊥

pub not_equal : (o : Ordering) → o ≡ Equal → IsEqual o
not_equal o e = subst IsEqual (sym e) tt

-- both are equal where one behind the other gives equal
pub first_equal : (o p : Ordering) → ordering_then o p ≡ Equal → o ≡ Equal
first_equal Less p e = e
first_equal Equal p e = refl
first_equal Greater p e = e

pub second_equal : (o p : Ordering) → ordering_then o p ≡ Equal → p ≡ Equal
second_equal Less p e = absurd (not_equal _ e)
second_equal Equal p e = e
second_equal Greater p e = absurd (not_equal _ e)

-- numbers above the same number are ordered as what is above it
shifted : (a b r s : ℕ) (o : Ordering) → a ≡ b → MatchOrdering o (r < s) (r ≡ s) (s < r) → MatchOrdering o (a + r < b + s) (a + r ≡ b + s) (b + s < a + r)
shifted a b r s Less e h = omega (arith, e, h)
shifted a b r s Equal e h = omega (arith, e, h)
shifted a b r s Greater e h = omega (arith, e, h)

above : (x y r s p : ℕ) → x < y → r < p → x * p + r < y * p + s
above x y r s p lt rp =
    let step : (x + 1) * p ≤ y * p = mul-le-mul_right p (let le : x + 1 ≤ y = omega (arith, lt) in le) in
    omega (arith, step, rp)

places_by : (x y r s p : ℕ) (o : Ordering) → MatchOrdering o (x < y) (x ≡ y) (y < x) → r < p → s < p → nat_cmp (x * p + r) (y * p + s) ≡ ordering_then o (nat_cmp r s)
places_by x y r s p Less h rp sp = sym (nat_cmp_is _ _ Less (above x y r s p h rp))
places_by x y r s p Equal h rp sp =
    sym (nat_cmp_is _ _ (nat_cmp r s) (shifted (x * p) (y * p) r s (nat_cmp r s) (ap (λ n. n * p) h) (ranks r s)))
places_by x y r s p Greater h rp sp = sym (nat_cmp_is _ _ Greater (above y x s r p h sp))

-- of numbers with two places, the upper decides, and then the lower
pub places : (x y r s p : ℕ) → r < p → s < p → nat_cmp (x * p + r) (y * p + s) ≡ ordering_then (nat_cmp x y) (nat_cmp r s)
places x y r s p rp sp = places_by x y r s p (nat_cmp x y) (ranks x y) rp sp
