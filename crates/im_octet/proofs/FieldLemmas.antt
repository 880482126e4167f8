-- How long fields are, and that equal ones hold equal numbers.
use Rattle.std.proofs.Common.{◌≡◌, ◌<◌, ◌^◌, ℕ, ℤ, length, refl, ap, ◌∙◌, sym, FitsSigned, w16, w32, w64}
use Rattle.std.proofs.lemmas.Nat.{from_be_bytes-to_be_bytes_2, from_be_bytes-to_be_bytes_4, from_be_bytes-to_be_bytes_8}
use Rattle.std.proofs.lemmas.Int.{to_z-of_z}
use Rattle.std.proofs.Math.Facts.{Fits-of_z}
use Rattle.std.specs.Int.{from_be_bytes, cast_signed, cast_unsigned}
use Rattle.im_octet.specs.Fields.{field2, field4, field8, signed_field8}

-- ---- lengths

pub length-field2 : (n : ℕ) → length (field2 n) ≡ 2
unfolding field2
length-field2 n = refl

pub length-field4 : (n : ℕ) → length (field4 n) ≡ 4
unfolding field4
length-field4 n = refl

pub length-field8 : (n : ℕ) → length (field8 n) ≡ 8
unfolding field8
length-field8 n = refl

pub length-signed : (z : ℤ) → length (signed_field8 z) ≡ 8
unfolding signed_field8
length-signed z = refl

-- ---- numbers

-- equal fields of two octets hold equal numbers
pub same-field2 : (n m : ℕ) → n < 2 ^ 16 → m < 2 ^ 16 → field2 n ≡ field2 m → n ≡ m
unfolding field2
same-field2 n m a b e = sym (from_be_bytes-to_be_bytes_2 n a) ∙ ap (λ s. from_be_bytes w16 s) e ∙ from_be_bytes-to_be_bytes_2 m b

-- so of four octets
pub same-field4 : (n m : ℕ) → n < 2 ^ 32 → m < 2 ^ 32 → field4 n ≡ field4 m → n ≡ m
unfolding field4
same-field4 n m a b e = sym (from_be_bytes-to_be_bytes_4 n a) ∙ ap (λ s. from_be_bytes w32 s) e ∙ from_be_bytes-to_be_bytes_4 m b

-- so of eight octets
pub same-field8 : (n m : ℕ) → n < 2 ^ 64 → m < 2 ^ 64 → field8 n ≡ field8 m → n ≡ m
unfolding field8
same-field8 n m a b e = sym (from_be_bytes-to_be_bytes_8 n a) ∙ ap (λ s. from_be_bytes w64 s) e ∙ from_be_bytes-to_be_bytes_8 m b

-- so of eight octets with a sign
pub same-signed8 : (y z : ℤ) → FitsSigned w64 y → FitsSigned w64 z → signed_field8 y ≡ signed_field8 z → y ≡ z
unfolding signed_field8 field8
same-signed8 y z a b e =
    let bits : cast_unsigned w64 y ≡ cast_unsigned w64 z = same-field8 (cast_unsigned w64 y) (cast_unsigned w64 z) (Fits-of_z a).fits (Fits-of_z b).fits e in
    sym (to_z-of_z w64 y a) ∙ ap (λ n. cast_signed w64 n) bits ∙ to_z-of_z w64 z b
