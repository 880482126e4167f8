-- Big-endian fields are in the order of their numbers, and so are numbers with a sign, raised by 2^63.
use Rattle.std.proofs.Common.{◌≡◌, ℕ, zero, suc, ◌+◌, ◌-◌, ◌*◌, ◌%◌, ◌^◌, ◌<◌, ℤ, pos, negsuc, List, ◌++◌, refl, sym, ap, ◌∙◌, arith, FitsSigned}
use Rattle.std.specs.Prelude.{◌<ℤ◌}
use Rattle.std.specs.Int.{w64, byte_at, bytes_high_first}
use Rattle.std.proofs.lemmas.Int.{ints}
use Rattle.std.specs.declared.cmp.Ordering.{Ordering}
use Rattle.std.specs.declared.cmp.Ordering.TheVariants.{Less, Equal, Greater}
use Rattle.std.specs.Ordering.{ordering_then, nat_cmp, int_cmp, MatchOrdering}
use Rattle.std.specs.Cmp.{ranks, int_cmp_is}
use Rattle.std.proofs.Math.Arith.{mod-mul}
use Rattle.std.proofs.Math.Nat.{mod-one, mod-lt, mod-eq_of_lt, pow-suc}
use Rattle.im_octet.specs.Fields.{field8}
use Rattle.im_sqltype.specs.Orders.{octets_cmp}
use Rattle.im_sqltype.specs.Texts.{raised}
use Rattle.im_sqltype.proofs.OrderLemmas.{then_assoc, places}

power_is_positive : (k : ℕ) → 0 < 256 ^ k
power_is_positive zero = omega arith
power_is_positive (suc k) =
    let below : 0 < 256 ^ k = power_is_positive k in
    rw (pow-suc 256 k) (omega (arith, below))

-- the number in the lowest octets is the uppermost of them, and that in the others
byte-split : (k n : ℕ) → n % 256 ^ suc k ≡ byte_at k n * 256 ^ k + n % 256 ^ k
byte-split zero n = rw (mod-one n) (omega arith)
byte-split (suc k) n =
    ap (λ p. n % p) (let turned : 256 ^ suc (suc k) ≡ 256 * 256 ^ suc k = (let more : 256 ^ suc (suc k) ≡ 256 ^ suc k * 256 = pow-suc 256 (suc k) in omega (arith, more)) in turned)
    ∙ mod-mul n (omega arith) (power_is_positive (suc k))

bytes-order :
    (k m n : ℕ) (a b : List ℕ) →
    octets_cmp (bytes_high_first k m ++ a) (bytes_high_first k n ++ b) ≡ ordering_then (nat_cmp (m % 256 ^ k) (n % 256 ^ k)) (octets_cmp a b)
bytes-order zero m n a b = rw (mod-one m) (rw (mod-one n) refl)
bytes-order (suc k) m n a b =
    let lower = octets_cmp a b in
    ap (ordering_then (nat_cmp (byte_at k m) (byte_at k n))) (bytes-order k m n a b)
    ∙ then_assoc (nat_cmp (byte_at k m) (byte_at k n)) (nat_cmp (m % 256 ^ k) (n % 256 ^ k)) lower
    ∙ ap (λ o. ordering_then o lower)
    (sym (places (byte_at k m) (byte_at k n) (m % 256 ^ k) (n % 256 ^ k) (256 ^ k) (mod-lt m (power_is_positive k)) (mod-lt n (power_is_positive k)))
    ∙ (λ i. nat_cmp (sym (byte-split k m) i) (sym (byte-split k n) i)))

pub field8-order :
    (m n : ℕ) (a b : List ℕ) → m < 2 ^ 64 → n < 2 ^ 64 →
    octets_cmp (field8 m ++ a) (field8 n ++ b) ≡ ordering_then (nat_cmp m n) (octets_cmp a b)
unfolding field8
field8-order m n a b p q =
    bytes-order 8 m n a b ∙ (λ i. ordering_then (nat_cmp (mod-eq_of_lt p i) (mod-eq_of_lt q i)) (octets_cmp a b))

pub raised-below : (z : ℤ) → FitsSigned w64 z → raised z < 2 ^ 64
raised-below (pos n) p = let l : n < 2 ^ 63 = p.sfits in omega (arith, l)
raised-below (negsuc n) p = omega arith

raised-less : (y z : ℤ) → FitsSigned w64 y → FitsSigned w64 z → raised y < raised z → y <ℤ z
raised-less (pos m) (pos n) p q h = let l : m < n = omega (arith, h) in omega (arith, ints, l)
raised-less (pos m) (negsuc n) p q h = absurd (let no : ⊥ = omega (arith, h) in no)
raised-less (negsuc m) (pos n) p q h = omega (arith, ints)
raised-less (negsuc m) (negsuc n) p q h = let l : n < m = omega (arith, h) in omega (arith, ints, l)

pub raised-same : (y z : ℤ) → FitsSigned w64 y → FitsSigned w64 z → raised y ≡ raised z → y ≡ z
raised-same (pos m) (pos n) p q e = ap pos (let l : m ≡ n = omega (arith, e) in l)
raised-same (pos m) (negsuc n) p q e = absurd (let no : ⊥ = omega (arith, e) in no)
raised-same (negsuc m) (pos n) p q e = absurd (let no : ⊥ = omega (arith, e) in no)
raised-same (negsuc m) (negsuc n) p q e =
    let lm : m < 2 ^ 63 = p.sfits in
    let ln : n < 2 ^ 63 = q.sfits in
    ap negsuc (let l : m ≡ n = omega (arith, e, lm, ln) in l)

turned : (y z : ℤ) → FitsSigned w64 y → FitsSigned w64 z → (o : Ordering) → MatchOrdering o (raised y < raised z) (raised y ≡ raised z) (raised z < raised y) → MatchOrdering o (y <ℤ z) (y ≡ z) (z <ℤ y)
turned y z p q Less h = raised-less y z p q h
turned y z p q Equal h = raised-same y z p q h
turned y z p q Greater h = raised-less z y q p h

pub raised-order : (y z : ℤ) → FitsSigned w64 y → FitsSigned w64 z → nat_cmp (raised y) (raised z) ≡ int_cmp y z
raised-order y z p q = int_cmp_is y z (nat_cmp (raised y) (raised z)) (turned y z p q (nat_cmp (raised y) (raised z)) (ranks (raised y) (raised z)))
