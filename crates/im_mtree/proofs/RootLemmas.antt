-- The whole subtrees of all leaves give the root.
use Rattle.std.proofs.Common.{◌≡◌, ◌<◌, length, ℕ, suc, zero, ◌+◌, ◌-◌, ◌*◌, ◌/◌, ◌%◌, ◌^◌, List, [], ◌∷◌, ◌++◌, take, drop, reverse, refl, arith, ap, subst, ◌∙◌, sym, length-drop, get_or, inl, inr}
use Rattle.std.proofs.lemmas.List.{take_all}
use Rattle.std.proofs.lemmas.Bool.{cases_lt}
use Rattle.std.proofs.lemmas.Nat.{pow_pos}
use Rattle.std.proofs.Math.Nat.{pow-succ'}
use Rattle.im_digest.specs.Digests.{Hash}
use Rattle.im_model.specs.Trees.{root}
use Rattle.im_model.proofs.Reversed.{reverse-last}
use Rattle.im_mtree.specs.Subtrees.{subtrees_within, subtrees, folded}
use Rattle.im_mtree.proofs.JoinLemmas.{power-twice}
use Rattle.im_mtree.proofs.SubtreeLemmas.{even-place, odd-place, subtrees-odd, subtrees-even, folded-within}
use Rattle.im_mtree.specs.Kept.{kept, IsFrontier}
use Rattle.im_octet.proofs.Common.{last-term}

-- the root over some subtrees, the last first
joined : Hash → List (List ℕ) → List ℕ
joined hash [] = []
joined hash (last ∷ lefts) = folded hash lefts last

joined-cons : (hash : Hash) (last : List ℕ) (lefts : List (List ℕ)) → joined hash (last ∷ lefts) ≡ folded hash lefts last
unfolding joined
joined-cons hash last lefts = refl

joined-within : (room : ℕ) (hash : Hash) (leaves : List (List ℕ)) (s e count : ℕ) → s ≡ 2 ^ e → 0 < count → count < 2 ^ room → length leaves ≡ count * s
    → joined hash (subtrees_within room hash leaves s count) ≡ root hash leaves
joined-within zero hash leaves s e count power some fits all = absurd (omega arith)
joined-within (suc room) hash leaves s e count power some fits all =
    let double : 2 ^ suc room ≡ 2 * 2 ^ room = pow-succ' 2 room in
    let above : 0 < 2 ^ e = pow_pos e in
    let at : ℕ = count / 2 * (2 * s) in
    elim (cases_lt 0 (count % 2)) [
      | inl one ↦ (
          let odd : count % 2 ≡ 1 = omega arith in
          let place : count * s ≡ at + s = odd-place count s odd in
          let rest : length (drop at leaves) ≡ length leaves - at = length-drop at leaves in
          ap (λ l. joined hash l) (subtrees-odd room hash leaves s count odd)
          ∙ joined-cons hash (root hash (take s (drop at leaves))) (subtrees_within room hash leaves (2 * s) (count / 2))
          ∙ ap (λ l. folded hash (subtrees_within room hash leaves (2 * s) (count / 2)) (root hash l)) (take_all s (drop at leaves) (omega arith))
          ∙ folded-within room hash leaves (2 * s) (suc e) (count / 2) (power-twice s e power) (omega arith) (omega arith) (omega arith))
      | inr none ↦ (
          let even : count % 2 ≡ 0 = omega arith in
          let place : count * s ≡ at = even-place count s even in
          ap (λ l. joined hash l) (subtrees-even room hash leaves s count even)
          ∙ joined-within room hash leaves (2 * s) (suc e) (count / 2) (power-twice s e power) (omega arith) (omega arith) (omega arith))
    ]

joined-root : (hash : Hash) (leaves : List (List ℕ)) → 0 < length leaves → length leaves < 2 ^ 64 → joined hash (subtrees hash leaves (length leaves)) ≡ root hash leaves
unfolding subtrees
joined-root hash leaves some fits = joined-within 64 hash leaves 1 0 (length leaves) refl some fits (omega arith)

-- the last subtree and those before it give the root
frontier-root : (hash : Hash) (leaves stack lefts : List (List ℕ)) (size : ℕ) (last : List ℕ) → 0 < size → size < 2 ^ 64 → IsFrontier hash leaves (kept stack size)
    → stack ≡ lefts ++ last ∷ [] → folded hash (reverse lefts) last ≡ root hash leaves
frontier-root hash leaves stack lefts size last some fits f split =
    let same : size ≡ length leaves = f.counted in
    sym (joined-cons hash last (reverse lefts))
    ∙ ap (λ l. joined hash l) (sym (reverse-last stack lefts last split) ∙ f.whole)
    ∙ joined-root hash leaves (omega arith) (omega arith)

-- the root, as it is folded from a slice of the stack
pub frontier-folded : (hash : Hash) (leaves stack slice : List (List ℕ)) (size : ℕ) → 0 < length stack → 0 < size → size < 2 ^ 64 → IsFrontier hash leaves (kept stack size)
    → slice ≡ stack → folded hash (reverse (take (length slice - 1) slice)) (get_or slice (length slice - 1) []) ≡ root hash leaves
frontier-folded hash leaves stack slice size high some fits f same =
    subst (λ l. folded hash (reverse (take (length l - 1) l)) (get_or l (length l - 1) []) ≡ root hash leaves) (sym same)
    (frontier-root hash leaves stack (take (length stack - 1) stack) size (get_or stack (length stack - 1) []) some fits f (last-term stack (length stack - 1) [] (omega arith)))
