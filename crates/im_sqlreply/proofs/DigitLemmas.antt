-- What stands in printed numbers and hex, and which octets don't.
use Rattle.std.proofs.Common.{◌≡◌, ◌⊎◌, inl, inr, ◌<◌, ◌≤◌, refl, ℕ, ℤ, pos, negsuc, zero, suc, ◌+◌, ◌/◌, ◌%◌, ◌^◌, ◌==◌, not, Bool, List, [], ◌∷◌, ◌++◌, length, true, false, arith, if◌then◌else◌, sym, ap, subst, ◌∙◌, pow-suc, get_or}
use Rattle.std.specs.Fmt.{decimal, digits, digits_onto, digit_glyph, signed_decimal}
use Rattle.std.specs.List.{flat_map, list_all}
use Rattle.std.specs.Char.{is_ascii_digit}
use Rattle.std.specs.Str.Parse.{digits_value}
use Rattle.std.proofs.lemmas.Bool.{and_from, and_parts, cases_lt, eqb-true}
use Rattle.std.proofs.lemmas.Bool.Decides.{nat_tests}
use Rattle.std.proofs.lemmas.Fmt.{decimal_is_IsNumeral_wide, length-decimal-le}
use Rattle.hex.specs.Hex.{encode_lower, encode_with, lower_digits}
use Rattle.im_text.specs.Cuts.{Lacks}
use Rattle.im_text.proofs.CutLemmas.{head-is, Lacks-append, Lacks-mark, Lacks-of}

-- ---- numbers

glyph-digit : (d : ℕ) → d < 10 → is_ascii_digit (digit_glyph false d) ≡ true
glyph-digit d h = grind (arith, nat_tests)

last-digit : (n : ℕ) → n % 10 < 10
last-digit n = omega arith

onto-digits : (k n : ℕ) (acc : List ℕ) → list_all is_ascii_digit acc ≡ true → list_all is_ascii_digit (digits_onto k 10 false n acc) ≡ true
onto-digits zero n acc each = each
onto-digits (suc k) n acc each =
    let more : list_all is_ascii_digit (digit_glyph false (n % 10) ∷ acc) ≡ true = and_from _ _ (glyph-digit (n % 10) (last-digit n)) each in
    elim (n / 10 == 0) as (λ b. list_all is_ascii_digit (if b then digit_glyph false (n % 10) ∷ acc else digits_onto k 10 false (n / 10) (digit_glyph false (n % 10) ∷ acc)) ≡ true) [
      | true ↦ more
      | false ↦ onto-digits k (n / 10) (digit_glyph false (n % 10) ∷ acc) more
    ]

-- a number's are decimal digits
pub decimal-digits : (n : ℕ) → list_all is_ascii_digit (decimal n) ≡ true
unfolding digits
decimal-digits n = onto-digits 64 n [] refl

-- so they have no mark
pub decimal-lacks : (mark n : ℕ) → is_ascii_digit mark ≡ false → Lacks mark (decimal n)
decimal-lacks mark n other = Lacks-of is_ascii_digit mark (decimal n) other (decimal-digits n)

power-some : (k : ℕ) → 0 < 10 ^ k
power-some zero = omega arith
power-some (suc k) = let step = pow-suc 10 k in let some = power-some k in omega (arith, step, some)

-- a number with more digits than are written has so many
onto-long : (k n : ℕ) (acc : List ℕ) → 10 ^ k ≤ n → length (digits_onto k 10 false n acc) ≡ k + length acc
onto-long zero n acc le = omega arith
onto-long (suc k) n acc le =
    let power = pow-suc 10 k in
    let up : 10 ^ k ≤ n / 10 = omega (arith, power, le) in
    let some : 0 < 10 ^ k = power-some k in
    go (n / 10 == 0) refl (omega (arith, up, some)) (onto-long k (n / 10) (digit_glyph false (n % 10) ∷ acc) up)
  where
    go : (b : Bool) → (n / 10 == 0) ≡ b → 0 < n / 10 → length (digits_onto k 10 false (n / 10) (digit_glyph false (n % 10) ∷ acc)) ≡ k + suc (length acc)
        → length (if b then digit_glyph false (n % 10) ∷ acc else digits_onto k 10 false (n / 10) (digit_glyph false (n % 10) ∷ acc)) ≡ suc k + length acc
    go true e some rest = absurd (omega (arith, eqb-true (n / 10) 0 e, some))
    go false e some rest = omega (arith, rest)

decimal-long : (n : ℕ) → 10 ^ 64 ≤ n → length (decimal n) ≡ 64
unfolding digits
decimal-long n le = omega (arith, onto-long 64 n [] le)

-- the digits of a number of 64 bits are those of no other number
pub decimal-one : (a b : ℕ) → a < 2 ^ 64 → decimal a ≡ decimal b → a ≡ b
decimal-one a b few e = go (cases_lt b (10 ^ 64))
  where
    go : (b < 10 ^ 64) ⊎ (10 ^ 64 ≤ b) → a ≡ b
    go (inl less) = sym (decimal_is_IsNumeral_wide a (omega (arith, few))).1 ∙ (ap (digits_value 10) e ∙ (decimal_is_IsNumeral_wide b less).1)
    go (inr long) =
        let short : length (decimal a) ≤ 20 = length-decimal-le 20 a (omega arith) (omega (arith, few)) (omega (arith, few)) in
        let same : length (decimal a) ≡ length (decimal b) = ap length e in
        absurd (omega (arith, short, same, decimal-long b long))

-- ---- marks

-- what is behind the last mark
pub last-cut : (mark : ℕ) (xs ys a b : List ℕ) → Lacks mark a → Lacks mark b → xs ++ mark ∷ a ≡ ys ++ mark ∷ b → a ≡ b
last-cut mark [] [] a b la lb e = (head-is mark mark a b e).1
last-cut mark [] (y ∷ ys) a b la lb e = absurd (Lacks-mark mark ys b (subst (Lacks mark) (head-is mark y a (ys ++ mark ∷ b) e).1 la))
last-cut mark (x ∷ xs) [] a b la lb e = absurd (Lacks-mark mark xs a (subst (Lacks mark) (sym (head-is x mark (xs ++ mark ∷ a) b e).1) lb))
last-cut mark (x ∷ xs) (y ∷ ys) a b la lb e = last-cut mark xs ys a b la lb (head-is x y (xs ++ mark ∷ a) (ys ++ mark ∷ b) e).1

-- ---- LF stands in none

pub digits-lack : (n : ℕ) → Lacks 10 (decimal n)
digits-lack n = decimal-lacks 10 n refl

pub signed-lacks : (z : ℤ) → Lacks 10 (signed_decimal z)
signed-lacks (pos n) = digits-lack n
signed-lacks (negsuc n) = digits-lack (suc n)

place-lacks : (xs : List ℕ) (k : ℕ) → Lacks 10 xs → not (get_or xs k 0 == 10) ≡ true
place-lacks [] k lack = refl
place-lacks (x ∷ xs) zero lack = (and_parts _ _ lack).0
place-lacks (x ∷ xs) (suc k) lack = place-lacks xs k (and_parts _ _ lack).1

-- hex digits
pub hex-lacks : (octets : List ℕ) → Lacks 10 (encode_lower octets)
unfolding encode_with
hex-lacks [] = refl
hex-lacks (o ∷ octets) =
    and_from (not (get_or lower_digits (o / 16) 0 == 10)) _ (place-lacks lower_digits (o / 16) refl)
    (and_from (not (get_or lower_digits (o % 16) 0 == 10)) _ (place-lacks lower_digits (o % 16) refl) (hex-lacks octets))

-- an octet that isn't a control
pub above-lacks : (x : ℕ) → 32 ≤ x → not (x == 10) ≡ true
above-lacks x h = grind (arith, nat_tests)

-- texts behind one another
pub each-lacks : {A : Type 0} (f : A → List ℕ) (xs : List A) → ((x : A) → Lacks 10 (f x)) → Lacks 10 (flat_map f xs)
each-lacks f [] h = refl
each-lacks f (x ∷ xs) h = Lacks-append 10 (f x) (flat_map f xs) (h x) (each-lacks f xs h)
