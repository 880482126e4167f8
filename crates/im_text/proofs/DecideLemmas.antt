-- Tests and cuts are decided: a test is passed or not, and a text is cut at the first mark or has none.
use Rattle.std.proofs.Common.{◌≡◌, ◌≢◌, ◌⊎◌, ◌==◌, ℕ, List, [], ◌∷◌, Bool, true, false, inl, inr, refl, ap}
use Rattle.std.proofs.lemmas.Bool.{and_from, not_from_false}
use Rattle.std.proofs.lemmas.Bool.Decides.{eqb_tells}
use Rattle.im_text.specs.Cuts.{IsCut, Lacks}

-- a test is passed or not
pub truth : (b : Bool) → (b ≡ true) ⊎ (b ≡ false)
truth true = inl refl
truth false = inr refl

-- a cut, or that the mark is lacking
abbrev pub CutOrNone : ℕ → List ℕ → Type 0
CutOrNone mark text = ((front : List ℕ) × (back : List ℕ) × IsCut mark text front back) ⊎ Lacks mark text

cut-more : (mark o : ℕ) (text : List ℕ) → (((o == mark) ≡ true) × (o ≡ mark)) ⊎ (((o == mark) ≡ false) × (o ≢ mark)) → CutOrNone mark text → CutOrNone mark (o ∷ text)
cut-more mark o text (inl same) rest = inl ([], text, (refl, ap (λ (p : ℕ). p ∷ text) same.1))
cut-more mark o text (inr other) (inl c) =
    inl (o ∷ c.0, c.1, (and_from _ _ (not_from_false _ other.0) c.2.0, ap (λ (t : List ℕ). o ∷ t) c.2.1))
cut-more mark o text (inr other) (inr lacks) = inr (and_from _ _ (not_from_false _ other.0) lacks)

-- a text is cut at the first mark, or has none
pub cut-tells : (mark : ℕ) (text : List ℕ) → CutOrNone mark text
cut-tells mark [] = inr refl
cut-tells mark (o ∷ text) = cut-more mark o text (eqb_tells o mark) (cut-tells mark text)
