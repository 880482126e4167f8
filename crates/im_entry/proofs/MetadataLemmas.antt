-- What octets begin metadata with, and where they stop.
use Rattle.std.proofs.Common.{◌≡◌, ◌≤◌, ◌+◌, ℕ, List, ◌++◌, length, take, drop, take-take, arith, sym, ◌∙◌, ap, append_assoc, inl, inr}
use Rattle.std.proofs.lemmas.List.{take-append-drop}
use Rattle.std.proofs.lemmas.Bool.{cases_order}
use Rattle.im_entry.specs.Attrs.{BeginsMetadata, IsFirstBad}

-- where some metadata begins with octets, it begins with fewer of them
pub BeginsMetadata-take : (m n : ℕ) (octets : List ℕ) → m ≤ n → n ≤ length octets
    → BeginsMetadata (take n octets) → BeginsMetadata (take m octets)
BeginsMetadata-take m n octets h k begins =
    let front = take n octets in
    let parts : take m octets ++ drop m front ≡ front = ap (λ (l : List ℕ). l ++ drop m front) (sym (take-take m n octets h)) ∙ take-append-drop m front in (
      begins.0,
      begins.1,
      drop m front ++ begins.2,
      begins.3 ∙ ap (λ (l : List ℕ). l ++ begins.2) (sym parts) ∙ append_assoc (take m octets) (drop m front) begins.2,
    )

-- octets stop being metadata at one octet
pub IsFirstBad-unique : (octets : List ℕ) (i j : ℕ) → IsFirstBad octets i → IsFirstBad octets j → i ≡ j
IsFirstBad-unique octets i j a b = elim (cases_order i j) [
  | inl same ↦ same
  | inr (inl less) ↦ absurd (a.here (BeginsMetadata-take (i + 1) j octets (omega arith) (omega (arith, b.within)) b.before))
  | inr (inr more) ↦ absurd (b.here (BeginsMetadata-take (j + 1) i octets (omega arith) (omega (arith, a.within)) a.before))
]
