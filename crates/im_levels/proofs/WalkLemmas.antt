-- Walks from the root down: their steps, and the terms that they gather.
use Rattle.std.proofs.Common.{◌≡◌, ◌<◌, ◌≤◌, length, ℕ, ◌+◌, ◌-◌, ◌*◌, ◌^◌, List, [], ◌∷◌, ◌++◌, arith, ap, ◌∙◌, sym, count_ones}
use Rattle.std.proofs.lemmas.List.{append_assoc, append-nil}
use Rattle.im_digest.specs.Digests.{Hash}
use Rattle.im_model.specs.Trees.{split_of, root}
use Rattle.im_mtree.specs.Inclusion.{inclusion}
use Rattle.im_mtree.proofs.InclusionLemmas.{parts-left, parts-right, inclusion-few}
use Rattle.im_proof.specs.Built.{growth_first, growth_rest}
use Rattle.im_levels.specs.Leveled.{leaves_of}
use Rattle.im_levels.proofs.CountLemmas.{ones-most}
use Rattle.im_levels.proofs.PartLemmas.{IsSplit, part-length, part-front, part-back}
use Rattle.im_levels.proofs.GrowthLemmas.{Steps, parts-low, parts-high, down-ends}

-- of a walk through a tree with at most b binary digits in its size: what its steps may still cost in a part
-- of this width
pub record IsPaid (before now b width : ℕ) : Type 0 where
  pub exponent : ℕ
  pub reach : width ≤ 2 ^ exponent
  pub paid : now + 2 * count_ones width + exponent ≤ before + 3 * b

-- a walk begins
pub paid-begins : (before b n : ℕ) → n < 2 ^ b → IsPaid before before b n
paid-begins before b n h =
    let most : count_ones n ≤ b = ones-most b n h in
    record { exponent = b; reach = omega arith; paid = omega arith }

-- the root of the part beside is made
pub paid-step : (before now next b width inside beside : ℕ) → IsPaid before now b width → ((e : ℕ) → width ≤ 2 ^ e → (0 < e) × (inside ≤ 2 ^ (e - 1)))
    → count_ones inside + count_ones beside ≤ count_ones width + 1 → next + 1 ≤ now + 2 * count_ones beside → IsPaid before next b inside
paid-step before now next b width inside beside p reach halves made =
    let below : (0 < p.exponent) × (inside ≤ 2 ^ (p.exponent - 1)) = reach p.exponent p.reach in
    let some : 0 < p.exponent = below.0 in
    let paid : now + 2 * count_ones width + p.exponent ≤ before + 3 * b = p.paid in
    record { exponent = p.exponent - 1; reach = below.1; paid = omega arith }

-- so the walk stays within its bound
pub paid-now : (before now b width : ℕ) → IsPaid before now b width → now ≤ before + 4 * b
paid-now before now b width p =
    let paid : now + 2 * count_ones width + p.exponent ≤ before + 3 * b = p.paid in
    omega arith

-- also where the root of the part itself is made
pub paid-last : (before now next b width : ℕ) → IsPaid before now b width → next + 1 ≤ now + 2 * count_ones width → next ≤ before + 4 * b
paid-last before now next b width p made =
    let paid : now + 2 * count_ones width + p.exponent ≤ before + 3 * b = p.paid in
    omega arith

-- the path of a leaf in the left half
pub path-left : (at width k i : ℕ) → IsSplit width k → k < width → i < k → (hash : Hash) (leaves : List (List ℕ)) → at + width ≤ length leaves
    → inclusion hash (leaves_of leaves at width) i ≡ root hash (leaves_of leaves (at + k) (width - k)) ∷ inclusion hash (leaves_of leaves at k) i
path-left at width k i s less side hash leaves inside =
    let all : length (leaves_of leaves at width) ≡ width = part-length leaves at width inside in
    let more : 1 < width = s.more in
    parts-left (leaves_of leaves at width) (leaves_of leaves at k) (leaves_of leaves (at + k) (width - k)) i k (omega arith) (s.is ∙ ap (λ n. split_of n) (sym all)) side
    (sym (part-front leaves at width k (omega arith))) (sym (part-back leaves at width k (omega arith))) hash

-- and in the right half
pub path-right : (at width k i : ℕ) → IsSplit width k → k < width → k ≤ i → (hash : Hash) (leaves : List (List ℕ)) → at + width ≤ length leaves
    → inclusion hash (leaves_of leaves at width) i ≡ root hash (leaves_of leaves at k) ∷ inclusion hash (leaves_of leaves (at + k) (width - k)) (i - k)
path-right at width k i s less side hash leaves inside =
    let all : length (leaves_of leaves at width) ≡ width = part-length leaves at width inside in
    let more : 1 < width = s.more in
    parts-right (leaves_of leaves at width) (leaves_of leaves at k) (leaves_of leaves (at + k) (width - k)) i k (omega arith) (s.is ∙ ap (λ n. split_of n) (sym all)) side
    (sym (part-front leaves at width k (omega arith))) (sym (part-back leaves at width k (omega arith))) hash

-- the list from an older tree that ends in the left half
pub list-left : (at width k i : ℕ) → IsSplit width k → k < width → i < k → (hash : Hash) (leaves : List (List ℕ)) → at + width ≤ length leaves → i + 1 < width
    → Steps hash (leaves_of leaves at width) (i + 1) (leaves_of leaves at k) (leaves_of leaves (at + k) (width - k)) (i + 1)
list-left at width k i s less side hash leaves inside grows =
    let all : length (leaves_of leaves at width) ≡ width = part-length leaves at width inside in
    parts-low (leaves_of leaves at width) (leaves_of leaves at k) (leaves_of leaves (at + k) (width - k)) (i + 1) k (omega arith) (omega arith) (s.is ∙ ap (λ n. split_of n) (sym all)) (omega arith)
    (sym (part-front leaves at width k (omega arith))) (sym (part-back leaves at width k (omega arith))) hash

-- and in the right half
pub list-right : (at width k i : ℕ) → IsSplit width k → k < width → k ≤ i → (hash : Hash) (leaves : List (List ℕ)) → at + width ≤ length leaves → i + 1 < width
    → Steps hash (leaves_of leaves at width) (i + 1) (leaves_of leaves (at + k) (width - k)) (leaves_of leaves at k) (i - k + 1)
list-right at width k i s less side hash leaves inside grows =
    let all : length (leaves_of leaves at width) ≡ width = part-length leaves at width inside in
    let older : i + 1 - k ≡ i - k + 1 = omega arith in
    let high : Steps hash (leaves_of leaves at width) (i + 1) (leaves_of leaves (at + k) (width - k)) (leaves_of leaves at k) (i + 1 - k) =
    parts-high (leaves_of leaves at width) (leaves_of leaves at k) (leaves_of leaves (at + k) (width - k)) (i + 1) k (omega arith) (omega arith) (s.is ∙ ap (λ n. split_of n) (sym all)) (omega arith)
    (sym (part-front leaves at width k (omega arith))) (sym (part-back leaves at width k (omega arith))) hash in (
      high.0 ∙ ap (λ m. growth_first hash (leaves_of leaves (at + k) (width - k)) m) older,
      high.1 ∙ ap (λ m. root hash (leaves_of leaves at k) ∷ growth_rest hash (leaves_of leaves (at + k) (width - k)) m) older,
    )

-- a term is gathered
pub gathers : (terms items all below want : List (List ℕ)) (term first : List ℕ) → items ≡ terms ++ term ∷ [] → term ≡ first → all ≡ first ∷ below → terms ++ all ≡ want
    → items ++ below ≡ want
gathers terms items all below want term first pushed is step before =
    ap (λ l. l ++ below) pushed ∙ append_assoc terms (term ∷ []) below ∙ ap (λ x. terms ++ x ∷ below) is ∙ ap (λ l. terms ++ l) (sym step) ∙ before

-- a walk begins with no term
pub gathered-none : (terms below : List (List ℕ)) → terms ≡ [] → terms ++ below ≡ below
gathered-none terms below none = ap (λ l. l ++ below) none

-- a path ends at one leaf
pub path-ends : (hash : Hash) (leaves terms want : List (List ℕ)) (at width i : ℕ) → width ≤ 1 → at + width ≤ length leaves
    → terms ++ inclusion hash (leaves_of leaves at width) i ≡ want → terms ≡ want
path-ends hash leaves terms want at width i one inside before =
    let all : length (leaves_of leaves at width) ≡ width = part-length leaves at width inside in
    sym (append-nil terms) ∙ ap (λ l. terms ++ l) (sym (inclusion-few hash (leaves_of leaves at width) i (omega arith))) ∙ before

-- a list ends at the part that the older tree has whole
pub list-ends : (hash : Hash) (leaves all terms items : List (List ℕ)) (term : List ℕ) (m at width index : ℕ) → index + 1 ≡ width → at + width ≤ length leaves
    → growth_first hash (leaves_of leaves at width) (index + 1) ≡ growth_first hash all m
    → terms ++ growth_rest hash (leaves_of leaves at width) (index + 1) ≡ growth_rest hash all m
    → items ≡ terms ++ term ∷ [] → term ≡ root hash (leaves_of leaves at width)
    → items ≡ growth_rest hash all m ++ growth_first hash all m ∷ []
list-ends hash leaves all terms items term m at width index ends inside first rest pushed is =
    let long : length (leaves_of leaves at width) ≡ width = part-length leaves at width inside in
    down-ends hash all (leaves_of leaves at width) terms items m (index + 1) (omega arith) (omega arith) first rest (pushed ∙ ap (λ x. terms ++ x ∷ []) is)
