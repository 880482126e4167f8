-- Octets are the texts of lines in one way.
use Rattle.std.proofs.Common.{◌≡◌, ℕ, ◌<◌, ◌≤◌, ◌==◌, List, [], ◌∷◌, ◌++◌, length, false, inl, inr, refl, subst, sym, ap, ap₂, ◌∙◌, arith}
use Rattle.std.proofs.lemmas.Bool.{and_from, not_from_false}
use Rattle.std.proofs.lemmas.Bool.Decides.{eqb_tells}
use Rattle.im_text.specs.Cuts.{Lacks}
use Rattle.im_text.specs.Lines.{AreTexts, IsFirstText}
use Rattle.im_text.proofs.CutLemmas.{Lacks-mark, cut-unique}

no-octets : (text rest : List ℕ) → [] ≡ text ++ 10 ∷ rest → ⊥
no-octets [] rest e = cc
no-octets (o ∷ text) rest e = cc

-- no octets have no texts
pub texts-none : (texts : List (List ℕ)) → AreTexts [] texts → texts ≡ []
texts-none [] h = refl
texts-none ([] ∷ texts) (l, inl h) = absurd (omega (arith, h.2))
texts-none ((o ∷ text) ∷ texts) (l, inl h) = absurd cc
texts-none (text ∷ texts) (l, inr h) = absurd (no-octets text h.0 h.1)

-- octets have one list of texts
pub texts-unique : (octets : List ℕ) (a b : List (List ℕ)) → AreTexts octets a → AreTexts octets b → a ≡ b
texts-unique octets [] b x y = sym (texts-none b (subst (λ (o : List ℕ). AreTexts o b) x y))
texts-unique octets (t ∷ ts) [] x y = texts-none (t ∷ ts) (subst (λ (o : List ℕ). AreTexts o (t ∷ ts)) y x)
texts-unique octets (t ∷ ts) (u ∷ us) (l, inl x) (m, inl y) = ap₂ (λ (a : List ℕ) (b : List (List ℕ)). a ∷ b) (sym x.0 ∙ y.0) (x.1 ∙ sym y.1)
texts-unique octets (t ∷ ts) (u ∷ us) (l, inl x) (m, inr y) = absurd (Lacks-mark 10 u y.0 (subst (λ (o : List ℕ). Lacks 10 o) (sym x.0 ∙ y.1) l))
texts-unique octets (t ∷ ts) (u ∷ us) (l, inr x) (m, inl y) = absurd (Lacks-mark 10 t x.0 (subst (λ (o : List ℕ). Lacks 10 o) (sym y.0 ∙ x.1) m))
texts-unique octets (t ∷ ts) (u ∷ us) (l, inr x) (m, inr y) =
    let e = cut-unique 10 t u x.0 y.0 l m (sym x.1 ∙ y.1) in
    ap₂ (λ (a : List ℕ) (b : List (List ℕ)). a ∷ b) e.0 (texts-unique y.0 ts us (subst (λ (o : List ℕ). AreTexts o ts) e.1 x.2) y.2)

-- behind the first text stand the others
pub texts-more : (octets text behind : List ℕ) (texts : List (List ℕ)) → 0 < length octets → IsFirstText octets text behind → AreTexts behind texts → AreTexts octets (text ∷ texts)
texts-more octets text behind texts some (l, inl h) t =
    let long : 1 ≤ length text = subst (λ (o : List ℕ). 1 ≤ length o) h.0 (omega arith) in
    (l, inl (h.0, texts-none texts (subst (λ (o : List ℕ). AreTexts o texts) h.1 t), long))
texts-more octets text behind texts some (l, inr e) t = (l, inr (behind, e, t))

longer : (o : ℕ) (octets : List ℕ) (texts : List (List ℕ)) → (o == 10) ≡ false → AreTexts octets texts → (more : List (List ℕ)) × AreTexts (o ∷ octets) more
longer o octets [] other h = ((o ∷ []) ∷ [], (and_from _ _ (not_from_false _ other) refl, inl (ap (λ (l : List ℕ). o ∷ l) h, refl, omega arith)))
longer o octets (text ∷ texts) other (l, inl h) = ((o ∷ text) ∷ texts, (and_from _ _ (not_from_false _ other) l, inl (ap (λ (l : List ℕ). o ∷ l) h.0, h.1, omega arith)))
longer o octets (text ∷ texts) other (l, inr h) = ((o ∷ text) ∷ texts, (and_from _ _ (not_from_false _ other) l, inr (h.0, ap (λ (l : List ℕ). o ∷ l) h.1, h.2)))

front : (o : ℕ) (octets : List ℕ) (texts : List (List ℕ)) → AreTexts octets texts → (more : List (List ℕ)) × AreTexts (o ∷ octets) more
front o octets texts h =
    elim (eqb_tells o 10) [
      | inl lf ↦ ([] ∷ texts, (refl, inr (octets, rw lf.1 refl, h)))
      | inr other ↦ longer o octets texts other.0 h
    ]

-- all octets have texts
pub texts-exist : (octets : List ℕ) → (texts : List (List ℕ)) × AreTexts octets texts
texts-exist [] = ([], refl)
texts-exist (o ∷ octets) = let t = texts-exist octets in front o octets t.0 t.1
