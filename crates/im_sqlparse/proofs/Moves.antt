-- A token that isn't the end has an octet at least.
use Rattle.std.proofs.Common.{◌≡◌, ℕ, ◌+◌, ◌≤◌, ◌==◌, ◌%◌, ◌&&◌, ◌||◌, Bool, true, false, cond, [], ◌∷◌, length, drop, slice_index, Some, refl, sym, subst, arith}
use Rattle.std.proofs.lemmas.Grind.{common_steps}
use Rattle.std.proofs.lemmas.List.{length-drop}
use Rattle.std.specs.Char.{is_ascii_digit, is_ascii_alphabetic}
use Rattle.std.specs.List.{prefix_len}
use Rattle.im_sqlparse.specs.declared.lex.Class.TheVariants as class
use Rattle.im_sqlparse.specs.declared.kinds.Kind.{Kind}
use Rattle.im_sqlparse.specs.declared.kinds.Kind.TheVariants as k
use Rattle.im_sqlparse.specs.Lex.{Text, Token, token, skip, word, underscored, minus, quoted, closing, closed, hex, sign, comparison_sign, is_in, same_kind}

pick : (b : Bool) (x y : Token) → (b ≡ true → 1 ≤ x.1) → (b ≡ false → 1 ≤ y.1) → 1 ≤ (cond b x y).1
pick true x y p q = p refl
pick false x y p q = q refl

run_moves : (p : ℕ → Bool) (o : ℕ) (t : Text) → p o ≡ true → 1 ≤ prefix_len p (o ∷ t)
run_moves p o t h = subst (λ (b : Bool). 1 ≤ cond b (1 + prefix_len p t) 0) (sym h) (omega arith)

pub letter : (o : ℕ) → is_ascii_alphabetic o ≡ true → is_in class.Word o ≡ true
letter o h = first_of (grind arith, grind (arith, common_steps))

low_line : (o : ℕ) → (o == 95) ≡ true → is_in class.Word o ≡ true
low_line o h = first_of (grind arith, grind (arith, common_steps))

closing_moves : (second : Bool) (at : ℕ) (t : Text) → 1 ≤ at → 1 ≤ (closed (closing second at t)).1
closing_moves second at [] h = omega arith
closing_moves true at (o ∷ t) h = closing_moves false (at + 1) t (omega arith)
closing_moves false at (o ∷ t) h = elim (o == 39 && cond (slice_index t 0 == 39) false true) as (λ b. 1 ≤ (closed (cond b (Some (at + 1)) (closing (o == 39) (at + 1) t))).1) [
  | true ↦ omega arith
  | false ↦ closing_moves (o == 39) (at + 1) t (omega arith)
]

hex_moves : (t : Text) → 1 ≤ (hex t).1
unfolding hex
hex_moves t = pick (slice_index t (prefix_len (is_in class.Hex) (drop 2 t) + 2) == 39 && prefix_len (is_in class.Hex) (drop 2 t) % 2 == 0) (k.Hex, prefix_len (is_in class.Hex) (drop 2 t) + 3) (k.Bad, 1) (λ _. omega arith) (λ _. omega arith)

word_moves : (o : ℕ) (t : Text) → is_ascii_alphabetic o ≡ true → 1 ≤ (word (o ∷ t)).1
unfolding word
word_moves o t h = run_moves (is_in class.Word) o t (letter o h)

underscored_moves : (o : ℕ) (t : Text) → (o == 95) ≡ true → 1 ≤ (underscored (o ∷ t)).1
unfolding underscored
underscored_moves o t h = run_moves (is_in class.Word) o t (low_line o h)

minus_moves : (t : Text) → 1 ≤ (minus t).1
unfolding minus
minus_moves t = pick (prefix_len (is_in class.Digit) (drop 1 t) == 0) (k.Bad, 1) (k.Number, prefix_len (is_in class.Digit) (drop 1 t) + 1) (λ _. omega arith) (λ _. omega arith)

quoted_moves : (t : Text) → 1 ≤ (quoted t).1
unfolding quoted
quoted_moves t = closing_moves false 1 (drop 1 t) (omega arith)

one : (b : Bool) (x y : Token) → 1 ≤ x.1 → 1 ≤ y.1 → 1 ≤ (cond b x y).1
one true x y p q = p
one false x y p q = q

compared_moves : (o n : ℕ) → 1 ≤ (comparison_sign o n).1
unfolding comparison_sign
compared_moves o n =
    one (o == 33) (cond (n == 61) (k.Unequal, 2) (k.Bad, 1)) _ (one (n == 61) (k.Unequal, 2) (k.Bad, 1) (omega arith) (omega arith))
    (one (o == 60) (cond (n == 61) (k.AtMost, 2) (cond (n == 62) (k.Unequal, 2) (k.Less, 1))) _
    (one (n == 61) (k.AtMost, 2) (cond (n == 62) (k.Unequal, 2) (k.Less, 1)) (omega arith) (one (n == 62) (k.Unequal, 2) (k.Less, 1) (omega arith) (omega arith)))
    (one (n == 61) (k.AtLeast, 2) (k.Greater, 1) (omega arith) (omega arith)))

sign_moves : (o n : ℕ) → 1 ≤ (sign o n).1
unfolding sign
sign_moves o n =
    one (o == 40) (k.Open, 1) _ (omega arith) (one (o == 41) (k.Close, 1) _ (omega arith) (one (o == 91) (k.OpenBracket, 1) _ (omega arith) (one (o == 93) (k.CloseBracket, 1) _ (omega arith)
    (one (o == 44) (k.Comma, 1) _ (omega arith) (one (o == 59) (k.Semicolon, 1) _ (omega arith) (one (o == 42) (k.Star, 1) _ (omega arith) (one (o == 61) (k.Equal, 1) _ (omega arith)
    (one (o == 33 || o == 60 || o == 62) (comparison_sign o n) (k.Bad, 1) (compared_moves o n) (omega arith)))))))))

none_left : (o : ℕ) (t : Text) → (length (o ∷ t) == 0) ≡ true → ⊥
none_left o t h = first_of (grind arith, grind (arith, common_steps), cc)

-- a token has an octet, where there is one
pub moves : (o : ℕ) (t : Text) → 1 ≤ (token (o ∷ t)).1
unfolding token
moves o t =
    let s : Text = o ∷ t in
    pick (length s == 0) (k.End, 0) _ (λ h. absurd (none_left o t h)) (λ _.
    pick (o == 120 && slice_index s 1 == 39) (hex s) _ (λ _. hex_moves s) (λ _.
    pick (is_ascii_alphabetic o) (word s) _ (λ h. word_moves o t h) (λ _.
    pick (o == 95) (underscored s) _ (λ h. underscored_moves o t h) (λ _.
    pick (is_ascii_digit o) (k.Number, prefix_len (is_in class.Digit) s) _ (λ h. run_moves (is_in class.Digit) o t h) (λ _.
    pick (o == 45) (minus s) _ (λ _. minus_moves s) (λ _.
    pick (o == 39) (quoted s) _ (λ _. quoted_moves s) (λ _. sign_moves o (slice_index s 1))))))))

-- a text whose token isn't the end has an octet
pub some_octet : (s : Text) (mark : Kind) → same_kind k.End mark ≡ false → same_kind (token s).0 mark ≡ true → (1 ≤ length s) × (1 ≤ (token s).1)
unfolding token
some_octet [] mark other same = absurd cc
some_octet (o ∷ t) mark other same = (omega arith, moves o t)

pub skip_le : (t : Text) → length (skip t) ≤ length t
unfolding skip
skip_le t = omega (arith, length-drop (prefix_len (is_in class.Blank) t) t)
