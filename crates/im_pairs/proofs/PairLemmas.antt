-- Strings that are equal or not, the parts of equal ones, and strings that are among others.
use Rattle.std.proofs.Common.{◌≡◌, ◌≢◌, ◌⊎◌, ◌<◌, length, ℕ, suc, zero, List, ◌∷◌, ◌++◌, take, drop, refl, arith, ap, subst, ◌∙◌, sym, true, false, Contains, inl, inr, take_at, drop_at, slice_index_or, get_or, reverse, [], ◌-◌, ◌+◌, length-append}
use Rattle.std.proofs.lemmas.Bool.{false≢true}
use Rattle.std.proofs.lemmas.List.{length-reverse, get_or-reverse}
use Rattle.std.proofs.lemmas.List.Elements.{All-from_get_or, Contains-append_left, Contains-append_right, Contains-append_cases}
use Rattle.std.specs.Cmp.Lexicographic.{pointwise, bytes_decides}
use Rattle.std.specs.Prelude.{nat_eq}
use Rattle.im_digest.specs.Digests.{Hash}
use Rattle.im_model.specs.Trees.{node_string}
use Rattle.im_pairs.specs.Pairs.{IsPair, HasPair, AreAmong, AreDigests}

-- strings are equal or not
pub equal_or_not : (x y : List ℕ) → (x ≡ y) ⊎ (x ≢ y)
equal_or_not x y =
    elim (pointwise nat_eq x y) as (λ b. pointwise nat_eq x y ≡ b → (x ≡ y) ⊎ (x ≢ y)) [
      | true ↦ λ e. inl ((bytes_decides x y).0 e)
      | false ↦ λ e. inr (λ same. false≢true (sym e ∙ (bytes_decides x y).1 same))
    ] refl

-- two strings of one digest are equal, or a pair
pub same_or_pair : (hash : Hash) (x y : List ℕ) (strings : List (List ℕ)) → hash x ≡ hash y → Contains strings x → Contains strings y → (x ≡ y) ⊎ HasPair hash strings
same_or_pair hash x y strings e a b = elim (equal_or_not x y) [
  | inl same ↦ inl same
  | inr differ ↦ inr (x, y, record { unequal = differ; same = e; left = a; right = b })
]

-- equal joined strings whose first parts are equally long
pub parts : (l r p q : List ℕ) → length l ≡ length p → l ++ r ≡ p ++ q → (l ≡ p) × (r ≡ q)
parts l r p q n e = (
  sym (take_at l r (length p) n) ∙ ap (λ s. take (length p) s) e ∙ take_at p q (length p) refl,
  sym (drop_at l r (length p) n) ∙ ap (λ s. drop (length p) s) e ∙ drop_at p q (length p) refl,
)

-- the length of three joined strings
pub length-three : (a b c : List ℕ) → length (a ++ b ++ c) ≡ length a + length b + length c
length-three a b c = length-append (a ++ b) c ∙ ap (λ n. n + length c) (length-append a b)

-- equal joined strings of three parts of equal lengths
pub three : (a b c x y z : List ℕ) → length a ≡ length x → length b ≡ length y → a ++ b ++ c ≡ x ++ y ++ z → (a ≡ x) × (b ≡ y) × (c ≡ z)
three a b c x y z p q e =
    let outer = parts (a ++ b) c (x ++ y) z (length-append a b ∙ ap (λ n. n + length b) p ∙ ap (λ n. length x + n) q ∙ sym (length-append x y)) e in
    let inside = parts a b x y p outer.0 in
    (inside.0, inside.1, outer.1)

-- equal node strings have equal children, where the left ones are digests
pub node_parts : (l r p q : List ℕ) → length l ≡ 32 → length p ≡ 32 → node_string l r ≡ node_string p q → (l ≡ p) × (r ≡ q)
node_parts l r p q a b e = parts l r p q (a ∙ sym b) (ap (λ s. drop 1 s) e)

-- two nodes of one digest have equal children, or there is a pair
pub same_node : (hash : Hash) (l r p q : List ℕ) (strings : List (List ℕ)) → length l ≡ 32 → length p ≡ 32 → hash (node_string l r) ≡ hash (node_string p q)
    → Contains strings (node_string l r) → Contains strings (node_string p q) → ((l ≡ p) × (r ≡ q)) ⊎ HasPair hash strings
same_node hash l r p q strings a b e x y = elim (same_or_pair hash (node_string l r) (node_string p q) strings e x y) [
  | inl same ↦ inl (node_parts l r p q a b same)
  | inr pair ↦ inr pair
]

-- the first of some strings is one of them
pub here : (x : List ℕ) (xs : List (List ℕ)) → Contains (x ∷ xs) x
here x xs = (0, omega arith, refl)

-- so is each that is among those behind it
pub there : (x y : List ℕ) (xs : List (List ℕ)) → Contains xs x → Contains (y ∷ xs) x
there x y xs c = (suc c.0, omega arith, c.2)

-- where all are among others, the first is
pub AreAmong-head : (x : List ℕ) (xs ys : List (List ℕ)) → AreAmong (x ∷ xs) ys → Contains ys x
AreAmong-head x xs ys a = a x (here x xs)

-- and those behind it are
pub AreAmong-tail : (x : List ℕ) (xs ys : List (List ℕ)) → AreAmong (x ∷ xs) ys → AreAmong xs ys
AreAmong-tail x xs ys a = λ y c. a y (there y x xs c)

-- where the first is, and those behind it are, all are
pub AreAmong-cons : (x : List ℕ) (xs ys : List (List ℕ)) → Contains ys x → AreAmong xs ys → AreAmong (x ∷ xs) ys
AreAmong-cons x xs ys h t = λ y c. cons_at y c.0 c.1 c.2
  where
    cons_at : (y : List ℕ) (k : ℕ) → k < length (x ∷ xs) → slice_index_or (x ∷ xs) k y ≡ y → Contains ys y
    cons_at y zero b e = subst (λ (s : List ℕ). Contains ys s) e h
    cons_at y (suc k) b e = t y (k, omega arith, e)

-- more strings keep a pair
pub IsPair-more : (hash : Hash) (x y : List ℕ) (ss ts : List (List ℕ)) → AreAmong ss ts → IsPair hash x y ss → IsPair hash x y ts
IsPair-more hash x y ss ts m p = record { unequal = p.unequal; same = p.same; left = m x p.left; right = m y p.right }

-- joined lists are among joined lists
pub AreAmong-both : (xs ys ss ts : List (List ℕ)) → AreAmong xs ss → AreAmong ys ts → AreAmong (xs ++ ys) (ss ++ ts)
AreAmong-both xs ys ss ts p q = λ x c. elim (Contains-append_cases xs ys x c) [
  | inl l ↦ Contains-append_left ss ts x (p x l)
  | inr r ↦ Contains-append_right ss ts x (q x r)
]

-- digests of a list that code lends, in the other order
pub digests-reversed : (xs : List (List ℕ)) → ((i : ℕ) → i < length xs → length (get_or xs i []) ≡ 32) → AreDigests (reverse xs)
digests-reversed xs f =
    let size : length (reverse xs) ≡ length xs = length-reverse xs in
    All-from_get_or (λ d. length d ≡ 32) (reverse xs) [] (λ i h. ap length (get_or-reverse xs i [] (omega arith)) ∙ f (length xs - 1 - i) (omega arith))
