-- A text is cut at a mark in one way.
use Rattle.std.proofs.Common.{◌≡◌, ℕ, ◌==◌, not, List, [], ◌∷◌, ◌++◌, Bool, true, false, refl, sym, subst, ap, ◌∙◌, arith, length, take, drop, ◌-◌, length-drop}
use Rattle.std.proofs.lemmas.List.{take_all}
use Rattle.std.proofs.lemmas.Bool.{and_parts, and_from, not-true, not_from_false, eqb-false, ne_eqb, both_ways}
use Rattle.std.specs.List.{list_all}
use Rattle.im_text.specs.Cuts.{Lacks}

other-octet : (kind : ℕ → Bool) (mark x : ℕ) → kind mark ≡ false → kind x ≡ true → not (x == mark) ≡ true
other-octet kind mark x other each = not_from_false (x == mark) (ne_eqb x mark (λ e. both_ways (kind mark) other (subst (λ (o : ℕ). kind o ≡ true) e each)))

-- octets of a kind that the mark isn't of lack it
pub Lacks-of : (kind : ℕ → Bool) (mark : ℕ) (xs : List ℕ) → kind mark ≡ false → list_all kind xs ≡ true → Lacks mark xs
Lacks-of kind mark [] other each = refl
Lacks-of kind mark (x ∷ xs) other each =
    let parts = and_parts (kind x) (list_all kind xs) each in
    and_from _ _ (other-octet kind mark x other parts.0) (Lacks-of kind mark xs other parts.1)

marked : (mark : ℕ) (b : List ℕ) → Lacks mark (mark ∷ b) → ⊥
marked mark b l = eqb-false mark mark (not-true (mark == mark) (and_parts _ _ l).0) refl

-- a text with the mark in it doesn't lack it
pub Lacks-mark : (mark : ℕ) (a x : List ℕ) → Lacks mark (a ++ mark ∷ x) → ⊥
Lacks-mark mark [] x l = marked mark x l
Lacks-mark mark (o ∷ a) x l = Lacks-mark mark a x (and_parts _ _ l).1

-- equal lists have equal heads and equal rests
pub head-is : (o p : ℕ) (a b : List ℕ) → o ∷ a ≡ p ∷ b → (o ≡ p) × (a ≡ b)
head-is o p a b e = (cc, cc)

-- lists whose heads differ are not equal
pub heads-differ : (x y : ℕ) (a b : List ℕ) → (x == y) ≡ false → x ∷ a ≡ y ∷ b → ⊥
heads-differ x y a b other e = eqb-false x y other (head-is x y a b e).0

-- a text has one part before the first mark, and one behind it
pub cut-unique : (mark : ℕ) (a b x y : List ℕ) → Lacks mark a → Lacks mark b → a ++ mark ∷ x ≡ b ++ mark ∷ y → (a ≡ b) × (x ≡ y)
cut-unique mark [] [] x y la lb e = (refl, (head-is mark mark x y e).1)
cut-unique mark [] (o ∷ b) x y la lb e = absurd (marked mark b (subst (λ (p : ℕ). Lacks mark (p ∷ b)) (sym (head-is mark o x _ e).0) lb))
cut-unique mark (o ∷ a) [] x y la lb e = absurd (marked mark a (subst (λ (p : ℕ). Lacks mark (p ∷ a)) (head-is o mark _ y e).0 la))
cut-unique mark (o ∷ a) (p ∷ b) x y la lb e =
    let h = head-is o p _ _ e in
    let rest = cut-unique mark a b x y (and_parts _ _ la).1 (and_parts _ _ lb).1 h.1 in
    (rw (h.0, rest.0) refl, rest.1)

-- what follows a prefix is one text
pub append-same : (p a b : List ℕ) → p ++ a ≡ p ++ b → a ≡ b
append-same [] a b e = e
append-same (x ∷ p) a b e = append-same p a b (head-is x x _ _ e).1

-- two texts that lack the mark lack it together
pub Lacks-append : (mark : ℕ) (a b : List ℕ) → Lacks mark a → Lacks mark b → Lacks mark (a ++ b)
Lacks-append mark [] b la lb = lb
Lacks-append mark (x ∷ a) b la lb = and_from _ _ (and_parts _ _ la).0 (Lacks-append mark a b (and_parts _ _ la).1 lb)

-- what follows a prefix, as a slice of the text gives it
pub after-prefix : (text prefix : List ℕ) → text ≡ prefix ++ drop (length prefix) text → text ≡ prefix ++ take (length text - length prefix) (drop (length prefix) text)
after-prefix text prefix e = e ∙ ap (λ (l : List ℕ). prefix ++ l) (sym (take_all (length text - length prefix) (drop (length prefix) text) (omega (arith, length-drop (length prefix) text))))
