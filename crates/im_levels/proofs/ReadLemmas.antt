-- Stored digests: where they stand, and the roots that they are.
use Rattle.std.proofs.Common.{◌≡◌, ◌<◌, ◌≤◌, length, ℕ, ◌+◌, ◌-◌, ◌*◌, ◌^◌, List, [], arith, ap, subst, ◌∙◌, sym, get_or}
use Rattle.std.proofs.lemmas.Nat.{pow_pos}
use Rattle.im_digest.specs.Digests.{Hash}
use Rattle.im_model.specs.Trees.{node, root}
use Rattle.im_levels.specs.Counts.{whole}
use Rattle.im_levels.specs.Leveled.{leaves_of, place, AreStored, Stored, stored, IsLeveled, IsSubtree}
use Rattle.im_levels.proofs.CountLemmas.{whole-inside, whole-more}

-- a whole subtree has a leaf
pub tree-some : (at width : ℕ) → IsSubtree at width → 0 < width
tree-some at width tree =
    let is : width ≡ 2 ^ tree.exponent = tree.fills in
    let some : 0 < 2 ^ tree.exponent = pow_pos tree.exponent in
    omega arith

-- its digest stands among those up to its end
pub tree-place : (at width : ℕ) → IsSubtree at width → whole at + 2 * (width - 1) < whole (at + width)
tree-place at width tree =
    let k : ℕ = tree.exponent in
    let P : ℕ → Type 0 = λ a. whole a + 2 * (2 ^ k - 1) < whole (a + 2 ^ k) in
    let Q : ℕ → Type 0 = λ w. whole at + 2 * (w - 1) < whole (at + w) in
    subst Q (sym tree.fills) (subst P (sym tree.begins) (whole-inside k tree.index (tree.index * 2 ^ k + 2 ^ k) (omega arith)))

-- the digest at its place is the root over its leaves
pub tree-root : (hash : Hash) (leaves digests : List (List ℕ)) (at width : ℕ) → IsSubtree at width → at + width ≤ length leaves → AreStored hash leaves digests
    → get_or digests (place at width) [] ≡ root hash (leaves_of leaves at width)
tree-root hash leaves digests at width tree inside all =
    let k : ℕ = tree.exponent in
    let P : ℕ → Type 0 = λ a. a + 2 ^ k ≤ length leaves → get_or digests (place a (2 ^ k)) [] ≡ root hash (leaves_of leaves a (2 ^ k)) in
    let Q : ℕ → Type 0 = λ w. at + w ≤ length leaves → get_or digests (place at w) [] ≡ root hash (leaves_of leaves at w) in
    subst Q (sym tree.fills) (subst P (sym tree.begins) (all k tree.index)) inside

-- as the code finds the place
pub tree-read : (hash : Hash) (leaves digests : List (List ℕ)) (at width before : ℕ) → before ≡ whole at → IsSubtree at width → at + width ≤ length leaves → AreStored hash leaves digests
    → get_or digests (before + 2 * (width - 1)) [] ≡ root hash (leaves_of leaves at width)
tree-read hash leaves digests at width before is tree inside all =
    ap (λ p. get_or digests (p + 2 * (width - 1)) []) is ∙ tree-root hash leaves digests at width tree inside all

-- the node of the roots over two parts, as the code makes it
pub node-made : (hash : Hash) (whole_root left_root right_root left right made : List ℕ) → whole_root ≡ node hash left_root right_root
    → left ≡ left_root → right ≡ right_root → made ≡ node hash left right → made ≡ whole_root
node-made hash whole_root left_root right_root left right made split l r is =
    is ∙ ap (λ x. node hash x right) l ∙ ap (λ x. node hash left_root x) r ∙ sym split

-- what the levels hold, as their calls see it
pub leveled-parts : (hash : Hash) (leaves digests slice : List (List ℕ)) (size : ℕ) (view : Stored) → stored digests size ≡ view → slice ≡ digests → IsLeveled hash leaves view
    → (size ≡ length leaves) × AreStored hash leaves slice
leveled-parts hash leaves digests slice size view is same f =
    let g : IsLeveled hash leaves (stored digests size) = subst (λ v. IsLeveled hash leaves v) (sym is) f in
    (g.counted, subst (λ d. AreStored hash leaves d) (sym same) g.rooted)

-- fewer leaves have no more whole subtrees than there are digests
pub whole-fits : (m n len : ℕ) → m ≤ n → whole n ≤ len → whole m ≤ len
whole-fits m n len less fits =
    let more : whole m ≤ whole n = whole-more m n less in
    omega arith
