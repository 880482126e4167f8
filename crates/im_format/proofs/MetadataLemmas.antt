-- The metadata of an entry, and its checks.
use Rattle.std.proofs.Common.{◌≡◌, ◌≤◌, ℕ, List, [], ◌∷◌, length, refl, ap, sym, subst, ◌∙◌, arith, Bool, true, false, inl, inr}
use Rattle.std.specs.Prelude.{nat_eq}
use Rattle.std.proofs.lemmas.Bool.{or_cases, eqb-true, and_parts}
use Rattle.im_model.specs.Entries.{attributes}
use Rattle.im_format.specs.Damages.{md_checks}
use Rattle.im_mtree.proofs.CheckLemmas.{AllHold}
use Rattle.im_format.proofs.LengthLemmas.{length-attributes}

-- the octets are those of some attributes
pub record AreAttributes (md : List ℕ) : Type 0 where
  pub deleted : Bool
  pub non_indexable : Bool
  pub is : md ≡ attributes deleted non_indexable

checked : (at : ℕ) (deleted non_indexable : Bool) → AllHold (md_checks at (attributes deleted non_indexable))
checked at true true = (refl, (refl, tt))
checked at true false = (refl, tt)
checked at false true = (refl, tt)
checked at false false = tt

-- there are two at most
pub attributes-short : (md : List ℕ) (d n : Bool) → md ≡ attributes d n → length md ≤ 2
attributes-short md d n e = subst (λ m. length m ≤ 2) (sym e) (length-attributes d n)

-- and they pass their checks
pub attributes-pass : (at : ℕ) (md : List ℕ) (d n : Bool) → md ≡ attributes d n → AllHold (md_checks at md)
attributes-pass at md d n e = subst (λ m. AllHold (md_checks at m)) (sym e) (checked at d n)

-- two octets at most that pass are attributes
pub pass-attributes : (at : ℕ) (md : List ℕ) → length md ≤ 2 → AllHold (md_checks at md) → AreAttributes md
pass-attributes at [] l h = record { deleted = false; non_indexable = false; is = refl }
pass-attributes at (a ∷ []) l h = elim (or_cases (nat_eq a 0) (nat_eq a 2) h.0) [
  | inl e ↦ record { deleted = true; non_indexable = false; is = ap (λ (n : ℕ). n ∷ []) (eqb-true a 0 e) }
  | inr e ↦ record { deleted = false; non_indexable = true; is = ap (λ (n : ℕ). n ∷ []) (eqb-true a 2 e) }
]
pass-attributes at (a ∷ b ∷ []) l h =
    let both = and_parts (nat_eq a 0) (nat_eq b 2) h.1.0 in
    record {
      deleted = true;
      non_indexable = true;
      is = ap (λ (n : ℕ). n ∷ b ∷ []) (eqb-true a 0 both.0) ∙ ap (λ (n : ℕ). 0 ∷ n ∷ []) (eqb-true b 2 both.1);
    }
pass-attributes at (a ∷ b ∷ c ∷ rest) l h = absurd (omega arith)
