-- Strings of three parts.
use Rattle.std.proofs.Common.{◌≡◌, ℕ, List, ◌++◌, ap, sym, ◌∙◌, append_assoc, refl, not, false, Bool}
use Rattle.std.specs.Cmp.Lexicographic.{pointwise}
use Rattle.std.proofs.Math.Dec.{eqb}
use Rattle.std.proofs.lemmas.Bool.{not-false}
use Rattle.std.proofs.lemmas.Bool.Decides.{Decides-eqb}
use Rattle.std.proofs.lemmas.Slice.Eq.{slice_eq-Decides}

-- octets are three parts, where they are cut into these
pub three-parts : (octets whole first rest second third a b c : List ℕ) → whole ≡ octets → whole ≡ first ++ rest → rest ≡ second ++ third
    → first ≡ a → second ≡ b → third ≡ c → octets ≡ (a ++ b) ++ c
three-parts octets whole first rest second third a b c same cut behind p q r =
    sym same
    ∙ cut
    ∙ ap (λ (l : List ℕ). first ++ l) behind
    ∙ sym (append_assoc first second third)
    ∙ ap (λ (l : List ℕ). (l ++ second) ++ third) p
    ∙ ap (λ (l : List ℕ). (a ++ l) ++ third) q
    ∙ ap (λ (l : List ℕ). (a ++ b) ++ l) r

-- what a test finds alike
pub same-parts : (xs ys : List ℕ) (unlike : Bool) → unlike ≡ not (pointwise eqb xs ys) → unlike ≡ false → xs ≡ ys
same-parts xs ys unlike is told =
    (slice_eq-Decides Decides-eqb xs ys (pointwise eqb xs ys) refl).0 (not-false (pointwise eqb xs ys) (sym is ∙ told))
