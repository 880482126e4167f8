-- Splits at powers of two, and the roots over the parts of a list that lie beside each other.
use Rattle.std.proofs.Common.{◌≡◌, ◌<◌, ◌≤◌, length, ℕ, suc, ◌+◌, ◌-◌, ◌*◌, ◌^◌, List, [], take, drop, arith, ap, ◌∙◌, sym, length-drop, get_or, inl, inr, drop-drop}
use Rattle.std.proofs.lemmas.List.{length-take-le, take-take, drop-take, get_or-take, get_or-drop}
use Rattle.std.proofs.lemmas.Bool.{cases_order}
use Rattle.std.proofs.lemmas.Nat.{pow_pos}
use Rattle.std.proofs.Math.Nat.{pow-succ', pow-le-pow_right}
use Rattle.im_digest.specs.Digests.{Hash}
use Rattle.im_model.specs.Trees.{leaf, node, split_of, root}
use Rattle.im_model.proofs.TreeLemmas.{split-power, split-within, split-reaches, root-one, root-split}

-- twice a power of two is the next
pub power-twice : (s e : ℕ) → s ≡ 2 ^ e → 2 * s ≡ 2 ^ suc e
power-twice s e h = ap (λ j. 2 * j) h ∙ sym (pow-succ' 2 e)

-- a power of two below n that reaches n doubled is the split of n
pub split-is : (n s e : ℕ) → s ≡ 2 ^ e → s < n → n ≤ 2 * s → split_of n ≡ s
split-is n s e h p q =
    let above : 0 < 2 ^ e = pow_pos e in
    let power : (f : ℕ) × (split_of n ≡ 2 ^ f) = split-power n in
    let is : split_of n ≡ 2 ^ power.0 = power.1 in
    let inside : (0 < split_of n) × (split_of n < n) = split-within n (omega arith) in
    let reaches : n ≤ 2 * split_of n = split-reaches n in
    elim (cases_order power.0 e) [
      | inl same ↦ is ∙ ap (λ j. 2 ^ j) same ∙ sym h
      | inr (inl less) ↦ absurd (
          let twice : 2 * split_of n ≡ 2 ^ suc power.0 = power-twice (split_of n) power.0 is in
          let most : 2 ^ suc power.0 ≤ 2 ^ e = pow-le-pow_right {n = 2} (omega arith) {i = suc power.0} {j = e} (omega arith) in
          omega arith)
      | inr (inr more) ↦ absurd (
          let twice : 2 * s ≡ 2 ^ suc e = power-twice s e h in
          let most : 2 ^ suc e ≤ 2 ^ power.0 = pow-le-pow_right {n = 2} (omega arith) {i = suc e} {j = power.0} (omega arith) in
          omega arith)
    ]

-- the root over one digest behind others is its leaf
pub root-leaf : (hash : Hash) (digests : List (List ℕ)) (i : ℕ) → i < length digests → root hash (take 1 (drop i digests)) ≡ leaf hash (get_or digests i [])
root-leaf hash digests i h =
    let rest : length (drop i digests) ≡ length digests - i = length-drop i digests in
    let one : length (take 1 (drop i digests)) ≡ 1 = length-take-le 1 (drop i digests) (omega arith) in
    let here : i + 0 ≡ i = omega arith in
    root-one hash (take 1 (drop i digests)) (omega arith) (omega arith)
    ∙ ap (λ d. leaf hash d) (get_or-take 1 (drop i digests) 0 [] (omega arith) ∙ get_or-drop i digests 0 [] ∙ ap (λ j. get_or digests j []) here)

-- two subtrees of one size beside each other are the parts of one
pub root-join : (hash : Hash) (digests : List (List ℕ)) (s e at : ℕ) → s ≡ 2 ^ e → at + 2 * s ≤ length digests
    → node hash (root hash (take s (drop at digests))) (root hash (take s (drop (at + s) digests))) ≡ root hash (take (2 * s) (drop at digests))
root-join hash digests s e at h fits =
    let above : 0 < 2 ^ e = pow_pos e in
    let rest : length (drop at digests) ≡ length digests - at = length-drop at digests in
    let all : length (take (2 * s) (drop at digests)) ≡ 2 * s = length-take-le (2 * s) (drop at digests) (omega arith) in
    let is : split_of (length (take (2 * s) (drop at digests))) ≡ s = split-is (length (take (2 * s) (drop at digests))) s e h (omega arith) (omega arith) in
    let twice : 2 * s ≡ s + s = omega arith in
    let left : take s (take (2 * s) (drop at digests)) ≡ take s (drop at digests) = take-take s (2 * s) (drop at digests) (omega arith) in
    let right : drop s (take (2 * s) (drop at digests)) ≡ take s (drop (at + s) digests) =
    ap (λ j. drop s (take j (drop at digests))) twice ∙ drop-take s s (drop at digests) ∙ ap (λ l. take s l) (drop-drop s at digests) in
    ap (λ l. node hash (root hash l) (root hash (take s (drop (at + s) digests)))) (sym left)
    ∙ ap (λ l. node hash (root hash (take s (take (2 * s) (drop at digests)))) (root hash l)) (sym right)
    ∙ sym (root-split hash (take (2 * s) (drop at digests)) s (omega arith) (sym is))

-- a subtree and what is behind it, up to its size, are the parts of one
pub root-rest : (hash : Hash) (digests : List (List ℕ)) (s e at : ℕ) → s ≡ 2 ^ e → at + s < length digests → length digests ≤ at + 2 * s
    → node hash (root hash (take s (drop at digests))) (root hash (drop (at + s) digests)) ≡ root hash (drop at digests)
root-rest hash digests s e at h more fits =
    let above : 0 < 2 ^ e = pow_pos e in
    let rest : length (drop at digests) ≡ length digests - at = length-drop at digests in
    let is : split_of (length (drop at digests)) ≡ s = split-is (length (drop at digests)) s e h (omega arith) (omega arith) in
    ap (λ l. node hash (root hash (take s (drop at digests))) (root hash l)) (sym (drop-drop s at digests))
    ∙ sym (root-split hash (drop at digests) s (omega arith) (sym is))
