-- Fields of a batch, read off a log.
use Rattle.std.proofs.Common.{◌≡◌, ◌<◌, ◌^◌, ◌++◌, ◌∷◌, [], ℕ, List, length, take, refl, ◌∙◌, ap, append_assoc}
use Rattle.std.specs.Int.{to_be_bytes, from_be_bytes, w64}
use Rattle.std.proofs.lemmas.List.{drop_at, take_at}
use Rattle.std.proofs.lemmas.Nat.{from_be_bytes-to_be_bytes_8}
use Rattle.im_octet.specs.Fields.{field8}
use Rattle.im_format.specs.Batches.{batch_fields, batch_octets}
use Rattle.im_format.specs.Reading.{number8}

-- the number whose field stands behind so many octets
pub number8-field8 : (front rest : List ℕ) (n at : ℕ) → n < 2 ^ 64 → length front ≡ at → number8 (front ++ (field8 n ++ rest)) at ≡ n
unfolding number8 field8
number8-field8 front rest n at lt is =
    ap (λ (l : List ℕ). from_be_bytes w64 (take 8 l)) (drop_at front (to_be_bytes w64 n ++ rest) at is)
    ∙ ap (from_be_bytes w64) (take_at (to_be_bytes w64 n) rest 8 refl)
    ∙ from_be_bytes-to_be_bytes_8 n lt

-- a log with a batch, cut before each of its fields
pub cut_first : (before rest : List ℕ) (first count end : ℕ)
    → before ++ 1 ∷ (batch_octets first count end ++ rest) ≡ (before ++ 1 ∷ []) ++ (field8 first ++ (field8 count ++ field8 end ++ (0 ∷ []) ++ rest))
unfolding batch_octets batch_fields
cut_first before rest first count end = simp append_assoc

pub cut_count : (before rest : List ℕ) (first count end : ℕ)
    → before ++ 1 ∷ (batch_octets first count end ++ rest) ≡ (before ++ (1 ∷ field8 first)) ++ (field8 count ++ (field8 end ++ (0 ∷ []) ++ rest))
unfolding batch_octets batch_fields
cut_count before rest first count end = simp append_assoc

pub cut_end : (before rest : List ℕ) (first count end : ℕ)
    → before ++ 1 ∷ (batch_octets first count end ++ rest) ≡ (before ++ (1 ∷ (field8 first ++ field8 count))) ++ (field8 end ++ ((0 ∷ []) ++ rest))
unfolding batch_octets batch_fields
cut_end before rest first count end = simp append_assoc
