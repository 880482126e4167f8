-- Texts of lines that are read one after the other.
use Rattle.std.proofs.Common.{◌≡◌, ◌∙◌, ◌==◌, ◌++◌, ◌∷◌, List, [], ℕ, length, true, refl, ap, subst, sym, append-nil, append_assoc, arith}
use Rattle.std.proofs.lemmas.Bool.{eqb-true}
use Rattle.im_text.specs.Lines.{AreTexts}

-- one text more stands behind those that were read
pub one-more : (octets : List ℕ) (read now : List (List ℕ)) (text : List ℕ) (tail : List (List ℕ)) → now ≡ read ++ text ∷ [] → AreTexts octets (read ++ text ∷ tail)
    → AreTexts octets (now ++ tail)
one-more octets read now text tail grown all =
    let same : now ++ tail ≡ read ++ text ∷ tail = ap (λ (texts : List (List ℕ)). texts ++ tail) grown ∙ append_assoc read (text ∷ []) tail in
    subst (AreTexts octets) (sym same) all

-- where nothing is left, all were read
pub all-read : (octets rest : List ℕ) (read : List (List ℕ)) → (length rest == 0) ≡ true → ((tail : List (List ℕ)) → AreTexts rest tail → AreTexts octets (read ++ tail))
    → AreTexts octets read
all-read octets [] read none more = subst (AreTexts octets) (append-nil read) (more [] refl)
all-read octets (o ∷ rest) read none more = absurd (let z : length (o ∷ rest) ≡ 0 = eqb-true _ _ none in omega arith)
