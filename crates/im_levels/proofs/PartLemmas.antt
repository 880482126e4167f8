-- Parts of a tree: where they begin and how far they reach, which leaves they have, and the roots over them.
use Rattle.std.proofs.Common.{◌≡◌, ◌<◌, ◌≤◌, length, ℕ, suc, zero, ◌+◌, ◌-◌, ◌*◌, ◌^◌, List, ◌++◌, take, drop, refl, arith, ap, ◌∙◌, sym, length-drop, inl, inr, drop-drop, count_ones}
use Rattle.std.proofs.lemmas.List.{length-take-le, take-take, drop-take, take-append-le, drop-append-le}
use Rattle.std.proofs.lemmas.Bool.{cases_lt}
use Rattle.std.proofs.lemmas.Nat.{pow-add}
use Rattle.std.proofs.Math.Nat.{pow-succ', pow-le-pow_right, mul_assoc, suc-mul}
use Rattle.std.proofs.Math.Pow.{pow-lt}
use Rattle.im_digest.specs.Digests.{Hash}
use Rattle.im_model.specs.Trees.{node, split_of, root}
use Rattle.im_model.proofs.TreeLemmas.{split-within, split-power, split-reaches, split-same, root-split}
use Rattle.im_levels.specs.Counts.{whole}
use Rattle.im_levels.specs.Leveled.{leaves_of, IsPart, IsSubtree}
use Rattle.im_levels.proofs.CountLemmas.{ones-front, ones-power}

-- a smaller power of two has a smaller exponent
pub exponent-less : (e f : ℕ) → 2 ^ f < 2 ^ e → f < e
exponent-less e f h = elim (cases_lt f e) [
  | inl less ↦ less
  | inr more ↦ absurd (let most : 2 ^ e ≤ 2 ^ f = pow-le-pow_right {n = 2} (omega arith) {i = e} {j = f} more in omega arith)
]

-- one that isn't larger has one that isn't larger
exponent-most : (e f : ℕ) → 2 ^ f ≤ 2 ^ e → f ≤ e
exponent-most e f h = elim (cases_lt e f) [
  | inl more ↦ absurd (let less : 2 ^ e < 2 ^ f = pow-lt more in omega arith)
  | inr most ↦ most
]

-- a number is below two to its power
below-power : (n : ℕ) → n < 2 ^ n
below-power zero = let one : 2 ^ 0 ≡ 1 = refl in omega arith
below-power (suc n) =
    let less : n < 2 ^ n = below-power n in
    let double : 2 ^ suc n ≡ 2 * 2 ^ n = pow-succ' 2 n in
    omega arith

-- all leaves from the first on are a part
pub all-part : (n : ℕ) → IsPart 0 n
all-part n =
    let less : n < 2 ^ n = below-power n in
    record { exponent = n; index = 0; begins = omega arith; fits = omega arith }

-- a multiple of a power of two is one of each smaller power
multiple-less : (j e f at : ℕ) → at ≡ j * 2 ^ e → f ≤ e → at ≡ (j * 2 ^ (e - f)) * 2 ^ f
multiple-less j e f at begins less =
    let sum : e ≡ (e - f) + f = omega arith in
    begins ∙ ap (λ x. j * 2 ^ x) sum ∙ ap (λ x. j * x) (pow-add 2 (e - f) f) ∙ sym (mul_assoc j (2 ^ (e - f)) (2 ^ f))

-- a power of two that is at most as wide as a part begins where the part does
tree-front : (at width k f : ℕ) → k ≡ 2 ^ f → k ≤ width → IsPart at width → IsSubtree at k
tree-front at width k f power within part =
    let fits : width ≤ 2 ^ part.exponent = part.fits in
    let most : f ≤ part.exponent = exponent-most part.exponent f (omega arith) in
    record {
      exponent = f;
      index = part.index * 2 ^ (part.exponent - f);
      begins = multiple-less part.index part.exponent f at part.begins most;
      fills = power;
    }

-- what is behind it, where it is at most as wide, is a part
tree-rest : (at width k : ℕ) → IsSubtree at k → width ≤ 2 * k → IsPart (at + k) (width - k)
tree-rest at width k tree reaches =
    let fills : k ≡ 2 ^ tree.exponent = tree.fills in
    let begin : at ≡ tree.index * 2 ^ tree.exponent = tree.begins in
    let next : suc tree.index * 2 ^ tree.exponent ≡ tree.index * 2 ^ tree.exponent + 2 ^ tree.exponent = suc-mul tree.index (2 ^ tree.exponent) in
    record { exponent = tree.exponent; index = suc tree.index; begins = omega arith; fits = omega arith }

-- a whole subtree is a part
whole-part : (at k : ℕ) → IsSubtree at k → IsPart at k
whole-part at k tree =
    let fills : k ≡ 2 ^ tree.exponent = tree.fills in
    record { exponent = tree.exponent; index = tree.index; begins = tree.begins; fits = omega arith }

-- k is the largest power of two in a width
pub record IsFront (width k : ℕ) : Type 0 where
  pub exponent : ℕ
  pub power : k ≡ 2 ^ exponent
  pub some : 0 < k
  pub within : k ≤ width
  pub over : width < 2 * k

-- a power of two below n, twice of which reaches n, is the split of n
pub split-unique : (n k e : ℕ) → 1 < n → k ≡ 2 ^ e → k < n → n ≤ 2 * k → k ≡ split_of n
split-unique n k e more power below reach =
    let f : (f : ℕ) × (split_of n ≡ 2 ^ f) = split-power n in
    let split : split_of n ≡ 2 ^ f.0 = f.1 in
    let inside : (0 < split_of n) × (split_of n < n) = split-within n more in
    let reaches : n ≤ 2 * split_of n = split-reaches n in
    let next_f : 2 ^ suc f.0 ≡ 2 * 2 ^ f.0 = pow-succ' 2 f.0 in
    let next_e : 2 ^ suc e ≡ 2 * 2 ^ e = pow-succ' 2 e in
    let low : e < suc f.0 = exponent-less (suc f.0) e (omega arith) in
    let high : f.0 < suc e = exponent-less (suc e) f.0 (omega (arith, inside.1)) in
    let same : e ≡ f.0 = omega arith in
    power ∙ ap (λ x. 2 ^ x) same ∙ sym split

-- it is the split of the next width
pub front-is : (width k : ℕ) → 0 < width → k ≡ split_of (width + 1) → IsFront width k
front-is width k some is =
    let power : (e : ℕ) × (split_of (width + 1) ≡ 2 ^ e) = split-power (width + 1) in
    let inside : (0 < split_of (width + 1)) × (split_of (width + 1) < width + 1) = split-within (width + 1) (omega arith) in
    let reaches : width + 1 ≤ 2 * split_of (width + 1) = split-reaches (width + 1) in
    record { exponent = power.0; power = is ∙ power.1; some = omega (arith, inside.0); within = omega (arith, inside.1); over = omega arith }

pub front-tree : (at width k : ℕ) → IsPart at width → IsFront width k → IsSubtree at k
front-tree at width k part front = tree-front at width k front.exponent front.power front.within part

pub front-rest : (at width k : ℕ) → IsPart at width → IsFront width k → IsPart (at + k) (width - k)
front-rest at width k part front =
    let over : width < 2 * k = front.over in
    tree-rest at width k (front-tree at width k part front) (omega arith)

-- a width has one more one than what is behind its largest power of two
pub front-ones : (width k : ℕ) → IsFront width k → count_ones width ≡ count_ones (width - k) + 1
front-ones width k front =
    let power : k ≡ 2 ^ front.exponent = front.power in
    let within : k ≤ width = front.within in
    let over : width < 2 * k = front.over in
    let same : width ≡ 2 ^ front.exponent + (width - k) = omega arith in
    ap (λ x. count_ones x) same ∙ ones-front front.exponent (width - k) (omega arith)

-- the parts end where the whole does
pub front-end : (at width k : ℕ) → k ≤ width → whole (at + k + (width - k)) ≡ whole (at + width)
front-end at width k within = let same : at + k + (width - k) ≡ at + width = omega arith in ap (λ x. whole x) same

-- k is the split of a width
pub record IsSplit (width k : ℕ) : Type 0 where
  pub more : 1 < width
  pub is : k ≡ split_of width

split-facts : (width k : ℕ) → IsSplit width k → (0 < k) × (k < width) × (width ≤ 2 * k)
split-facts width k s =
    let is : k ≡ split_of width = s.is in
    let inside : (0 < split_of width) × (split_of width < width) = split-within width s.more in
    let reaches : width ≤ 2 * split_of width = split-reaches width in
    (omega (arith, inside.0), omega (arith, inside.1), omega arith)

-- the left half of a part is a whole subtree
left-whole : (at width k : ℕ) → IsSplit width k → IsPart at width → IsSubtree at k
left-whole at width k s part =
    let facts : (0 < k) × (k < width) × (width ≤ 2 * k) = split-facts width k s in
    let power : (f : ℕ) × (split_of width ≡ 2 ^ f) = split-power width in
    let less : k < width = facts.1 in
    tree-front at width k power.0 (s.is ∙ power.1) (omega arith) part

-- so it is a part
pub left-part : (at width k : ℕ) → IsSplit width k → IsPart at width → IsPart at k
left-part at width k s part = whole-part at k (left-whole at width k s part)

-- and so is the right half
pub right-part : (at width k : ℕ) → IsSplit width k → IsPart at width → IsPart (at + k) (width - k)
right-part at width k s part =
    let facts : (0 < k) × (k < width) × (width ≤ 2 * k) = split-facts width k s in
    tree-rest at width k (left-whole at width k s part) facts.2

-- the halves of a part reach at most half as far
pub left-reach : (width k e : ℕ) → IsSplit width k → width ≤ 2 ^ e → (0 < e) × (k ≤ 2 ^ (e - 1))
left-reach width k e s fits =
    let facts : (0 < k) × (k < width) × (width ≤ 2 * k) = split-facts width k s in
    let power : (f : ℕ) × (split_of width ≡ 2 ^ f) = split-power width in
    let is : k ≡ 2 ^ power.0 = s.is ∙ power.1 in
    let below : k < width = facts.1 in
    let less : power.0 < e = exponent-less e power.0 (omega arith) in
    let most : 2 ^ power.0 ≤ 2 ^ (e - 1) = pow-le-pow_right {n = 2} (omega arith) {i = power.0} {j = e - 1} (omega arith) in
    (omega arith, omega arith)

pub right-reach : (width k e : ℕ) → IsSplit width k → width ≤ 2 ^ e → (0 < e) × (width - k ≤ 2 ^ (e - 1))
right-reach width k e s fits =
    let facts : (0 < k) × (k < width) × (width ≤ 2 * k) = split-facts width k s in
    let left : (0 < e) × (k ≤ 2 ^ (e - 1)) = left-reach width k e s fits in
    let most : k ≤ 2 ^ (e - 1) = left.1 in
    let reaches : width ≤ 2 * k = facts.2 in
    (left.0, omega arith)

-- the halves of a width have at most one more one than it has
pub halves-ones : (width k : ℕ) → IsSplit width k → count_ones k + count_ones (width - k) ≤ count_ones width + 1
halves-ones width k s =
    let facts : (0 < k) × (k < width) × (width ≤ 2 * k) = split-facts width k s in
    let power : (f : ℕ) × (split_of width ≡ 2 ^ f) = split-power width in
    let is : k ≡ 2 ^ power.0 = s.is ∙ power.1 in
    let one : count_ones k ≡ 1 = ones-power k power.0 is in
    let below : k < width = facts.1 in
    let reaches : width ≤ 2 * k = facts.2 in
    elim (cases_lt (width - k) k) [
      | inl less ↦ (
          let all : count_ones width ≡ count_ones (width - k) + 1 =
          front-ones width k (record { exponent = power.0; power = is; some = facts.0; within = omega arith; over = omega arith }) in
          omega arith)
      | inr more ↦ (
          let equal : width - k ≡ k = omega arith in
          let double : 2 ^ suc power.0 ≡ 2 * 2 ^ power.0 = pow-succ' 2 power.0 in
          let all : count_ones width ≡ 1 = ones-power width (suc power.0) (omega arith) in
          let right : count_ones (width - k) ≡ 1 = ap (λ x. count_ones x) equal ∙ one in
          omega arith)
    ]

-- a part has as many leaves as it is wide
pub part-length : (leaves : List (List ℕ)) (at width : ℕ) → at + width ≤ length leaves → length (leaves_of leaves at width) ≡ width
part-length leaves at width inside =
    let rest : length (drop at leaves) ≡ length leaves - at = length-drop at leaves in
    length-take-le width (drop at leaves) (omega arith)

-- the front of a part
pub part-front : (leaves : List (List ℕ)) (at width k : ℕ) → k ≤ width → take k (leaves_of leaves at width) ≡ leaves_of leaves at k
part-front leaves at width k h = take-take k width (drop at leaves) h

-- what is behind it
pub part-back : (leaves : List (List ℕ)) (at width k : ℕ) → k ≤ width → drop k (leaves_of leaves at width) ≡ leaves_of leaves (at + k) (width - k)
part-back leaves at width k h =
    let sum : width ≡ k + (width - k) = omega arith in
    ap (λ j. drop k (take j (drop at leaves))) sum
    ∙ drop-take k (width - k) (drop at leaves)
    ∙ ap (λ l. take (width - k) l) (drop-drop k at leaves)

-- leaves behind a part leave it as it is
pub part-append : (leaves more : List (List ℕ)) (at width : ℕ) → at + width ≤ length leaves → leaves_of (leaves ++ more) at width ≡ leaves_of leaves at width
part-append leaves more at width inside =
    let rest : length (drop at leaves) ≡ length leaves - at = length-drop at leaves in
    ap (λ l. take width l) (drop-append-le at leaves more (omega arith)) ∙ take-append-le width (drop at leaves) more (omega arith)

-- the root over a part is the node of the roots over its halves
part-root : (hash : Hash) (leaves : List (List ℕ)) (at width k : ℕ) → 1 < width → k ≡ split_of width → k < width → at + width ≤ length leaves
    → root hash (leaves_of leaves at width) ≡ node hash (root hash (leaves_of leaves at k)) (root hash (leaves_of leaves (at + k) (width - k)))
part-root hash leaves at width k more is less inside =
    let all : length (leaves_of leaves at width) ≡ width = part-length leaves at width inside in
    root-split hash (leaves_of leaves at width) k (omega arith) (is ∙ ap (λ n. split_of n) (sym all))
    ∙ ap (λ l. node hash (root hash l) (root hash (drop k (leaves_of leaves at width)))) (part-front leaves at width k (omega arith))
    ∙ ap (λ l. node hash (root hash (leaves_of leaves at k)) (root hash l)) (part-back leaves at width k (omega arith))

-- so is it of its largest whole subtree and what is behind that
pub front-node : (hash : Hash) (leaves : List (List ℕ)) (at width k : ℕ) → 0 < width → k ≡ split_of (width + 1) → k < width → at + width ≤ length leaves
    → root hash (leaves_of leaves at width) ≡ node hash (root hash (leaves_of leaves at k)) (root hash (leaves_of leaves (at + k) (width - k)))
front-node hash leaves at width k some is less inside =
    let front : IsFront width k = front-is width k some is in
    let first : 0 < k = front.some in
    let same : split_of width ≡ split_of (width + 1) = split-same width (width + 1) (omega arith) (omega arith) (omega arith) in
    part-root hash leaves at width k (omega arith) (is ∙ sym same) less inside
