-- What is kept of leaves while one more is added.
use Rattle.std.proofs.Common.{◌≡◌, ◌<◌, ◌≤◌, length, ℕ, suc, zero, ◌+◌, ◌-◌, ◌*◌, ◌/◌, ◌%◌, ◌^◌, List, [], ◌∷◌, ◌++◌, take, drop, reverse, refl, arith, ap, subst, ◌∙◌, sym, length-drop, inl, inr}
use Rattle.std.proofs.lemmas.List.{take-append-le, drop-append-le, length_push, get_or_push}
use Rattle.std.proofs.lemmas.Bool.{cases_lt}
use Rattle.im_digest.specs.Digests.{Hash}
use Rattle.im_model.specs.Trees.{leaf, root}
use Rattle.im_mtree.specs.Subtrees.{subtrees_within, subtrees}
use Rattle.im_mtree.proofs.SubtreeLemmas.{even-place, odd-place, subtrees-odd, subtrees-even, IsCarry, carry-begins, carry-ends}
use Rattle.im_mtree.specs.Kept.{kept, IsFrontier}

-- leaves behind them leave the subtrees of the first ones as they are
subtrees-within-append : (room : ℕ) (hash : Hash) (leaves more : List (List ℕ)) (s count : ℕ) → count * s ≤ length leaves
    → subtrees_within room hash (leaves ++ more) s count ≡ subtrees_within room hash leaves s count
unfolding subtrees_within
subtrees-within-append zero hash leaves more s count inside = refl
subtrees-within-append (suc room) hash leaves more s count inside =
    let at : ℕ = count / 2 * (2 * s) in
    elim (cases_lt 0 (count % 2)) [
      | inl some ↦ (
          let odd : count % 2 ≡ 1 = omega arith in
          let place : count * s ≡ at + s = odd-place count s odd in
          let rest : length (drop at leaves) ≡ length leaves - at = length-drop at leaves in
          subtrees-odd room hash (leaves ++ more) s count odd
          ∙ ap (λ l. root hash (take s l) ∷ subtrees_within room hash (leaves ++ more) (2 * s) (count / 2)) (drop-append-le at leaves more (omega arith))
          ∙ ap (λ l. root hash l ∷ subtrees_within room hash (leaves ++ more) (2 * s) (count / 2)) (take-append-le s (drop at leaves) more (omega arith))
          ∙ ap (λ l. root hash (take s (drop at leaves)) ∷ l) (subtrees-within-append room hash leaves more (2 * s) (count / 2) (omega arith))
          ∙ sym (subtrees-odd room hash leaves s count odd))
      | inr none ↦ (
          let even : count % 2 ≡ 0 = omega arith in
          let place : count * s ≡ at = even-place count s even in
          subtrees-even room hash (leaves ++ more) s count even
          ∙ subtrees-within-append room hash leaves more (2 * s) (count / 2) (omega arith)
          ∙ sym (subtrees-even room hash leaves s count even))
    ]

subtrees-append : (hash : Hash) (leaves more : List (List ℕ)) → subtrees hash (leaves ++ more) (length leaves) ≡ subtrees hash leaves (length leaves)
unfolding subtrees
subtrees-append hash leaves more = subtrees-within-append 64 hash leaves more 1 (length leaves) (omega arith)

-- while a leaf is added behind `size` others: the subtrees on the stack, `count` others of the size
-- reached, and the root over the subtree that ends with the leaf
abbrev pub IsGrowing : Hash → List (List ℕ) → List ℕ → List (List ℕ) → ℕ → List ℕ → Type 0
IsGrowing hash leaves digest stack count right =
    IsCarry hash (leaves ++ digest ∷ []) (subtrees hash (leaves ++ digest ∷ []) (length leaves + 1)) (reverse stack) count right

-- a leaf begins to be added
pub growth-begins : (hash : Hash) (leaves stack : List (List ℕ)) (size : ℕ) (digest right : List ℕ) → size + 1 < 2 ^ 64 → IsFrontier hash leaves (kept stack size)
    → right ≡ leaf hash digest → IsGrowing hash leaves digest stack size right
growth-begins hash leaves stack size digest right fits f made =
    let more : length (leaves ++ digest ∷ []) ≡ length leaves + 1 = length_push leaves digest in
    let same : size ≡ length leaves = f.counted in
    subst (λ j. IsGrowing hash leaves digest stack j right) (sym same)
    (carry-begins hash (leaves ++ digest ∷ []) (reverse stack) (length leaves) right (omega arith) (omega arith)
    (f.whole ∙ sym (subtrees-append hash leaves (digest ∷ [])))
    (made ∙ ap (λ d. leaf hash d) (sym (get_or_push leaves digest [] (length leaves) refl))))

-- an even count: the leaf is added
pub growth-ends : (hash : Hash) (leaves stack new : List (List ℕ)) (size count : ℕ) (digest right : List ℕ) → size ≡ length leaves → count % 2 ≡ 0
    → IsGrowing hash leaves digest stack count right → reverse new ≡ right ∷ reverse stack → IsFrontier hash (leaves ++ digest ∷ []) (kept new (size + 1))
growth-ends hash leaves stack new size count digest right same even g pushed =
    let more : length (leaves ++ digest ∷ []) ≡ length leaves + 1 = length_push leaves digest in
    record {
      counted = omega arith;
      whole = pushed ∙ (carry-ends _ _ _ _ _ _ even g).1 ∙ ap (λ j. subtrees hash (leaves ++ digest ∷ []) j) (sym more);
    }
