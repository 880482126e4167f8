-- A leaf is added: which subtrees become whole with it, and where their digests stand.
use Rattle.std.proofs.Common.{◌≡◌, ◌<◌, ◌≤◌, length, ℕ, suc, ◌+◌, ◌-◌, ◌*◌, ◌/◌, ◌%◌, ◌^◌, List, [], ◌∷◌, ◌++◌, refl, arith, ap, subst, ◌∙◌, sym, length-append, get_or, inl, inr}
use Rattle.std.proofs.lemmas.List.{length_push, get_or_push, get_or_append_left, get_or-append-add}
use Rattle.std.proofs.lemmas.Bool.{cases_lt}
use Rattle.std.proofs.lemmas.Nat.{pow_pos}
use Rattle.std.proofs.Math.Nat.{pow-succ', suc-mul}
use Rattle.im_digest.specs.Digests.{Hash}
use Rattle.im_model.specs.Trees.{leaf, node, root}
use Rattle.im_mtree.proofs.JoinLemmas.{power-twice, root-leaf, root-join}
use Rattle.im_mtree.proofs.SubtreeLemmas.{odd-place}
use Rattle.im_levels.specs.Counts.{whole}
use Rattle.im_levels.specs.Leveled.{leaves_of, place, AreStored, stored, IsLeveled, IsSubtree}
use Rattle.im_levels.proofs.CountLemmas.{whole-step, whole-most, whole-inside, whole-place, whole-grows}
use Rattle.im_levels.proofs.PartLemmas.{exponent-less, part-append}

-- while a leaf is added behind `size` others: `count` subtrees of `width` leaves stand before the one that
-- ends with it, which begins at leaf `at` and is the t-th that becomes whole, counted from 0
pub record IsGrowing (size count at width t : ℕ) : Type 0 where
  pub power : width ≡ 2 ^ t
  pub begins : at ≡ count * width
  pub ends : at + width ≡ size + 1

-- the leaf itself
pub growing-begins : (size t : ℕ) → t ≡ 0 → IsGrowing size size size 1 t
growing-begins size t none = record { power = ap (λ j. 2 ^ j) (sym none); begins = omega arith; ends = refl }

-- an odd count: a subtree of the same width stands before it
pub growing-odd : (size count at width t : ℕ) → count % 2 ≡ 1 → IsGrowing size count at width t → (width ≤ at) × (0 < width) × (at ≤ size)
growing-odd size count at width t odd g =
    let begin : at ≡ count / 2 * (2 * width) + width = g.begins ∙ odd-place count width odd in
    let end : at + width ≡ size + 1 = g.ends in
    let power : width ≡ 2 ^ t = g.power in
    let some : 0 < 2 ^ t = pow_pos t in
    (omega arith, omega arith, omega arith)

-- a whole one
pub growing-tree : (size count at width t : ℕ) → count % 2 ≡ 1 → IsGrowing size count at width t → IsSubtree (at - width) width
growing-tree size count at width t odd g =
    let twice : count ≡ suc (count / 2 * 2) = omega arith in
    let begin : at ≡ (count / 2 * 2) * width + width = g.begins ∙ ap (λ j. j * width) twice ∙ suc-mul (count / 2 * 2) width in
    let power : (count / 2 * 2) * width ≡ (count / 2 * 2) * 2 ^ t = ap (λ w. (count / 2 * 2) * w) g.power in
    record { exponent = t; index = count / 2 * 2; begins = omega arith; fills = g.power }

-- both become one
pub growing-step : (size count at width t : ℕ) → count % 2 ≡ 1 → IsGrowing size count at width t → IsGrowing size (count / 2) (at - width) (2 * width) (t + 1)
growing-step size count at width t odd g =
    let begin : at ≡ count / 2 * (2 * width) + width = g.begins ∙ odd-place count width odd in
    let end : at + width ≡ size + 1 = g.ends in
    let next : suc t ≡ t + 1 = omega arith in
    record { power = power-twice width t g.power ∙ ap (λ j. 2 ^ j) next; begins = omega arith; ends = omega arith }

-- fewer than 64 become so before it, for a size of 64 bits
pub growing-few : (size count at width t : ℕ) → size + 1 < 2 ^ 64 → IsGrowing size count at width t → t < 64
growing-few size count at width t fits g =
    let end : at + width ≡ size + 1 = g.ends in
    let power : width ≡ 2 ^ t = g.power in
    exponent-less 64 t (omega arith)

-- an even count: it is the last
pub growing-count : (size count at width t : ℕ) → count % 2 ≡ 0 → IsGrowing size count at width t → whole (size + 1) ≡ whole size + t + 1
growing-count size count at width t even g =
    let next : count + 1 ≡ suc count = omega arith in
    let sum : (count + 1) * 2 ^ t ≡ count * 2 ^ t + 2 ^ t = ap (λ j. j * 2 ^ t) next ∙ suc-mul count (2 ^ t) in
    let begin : at ≡ count * 2 ^ t = g.begins ∙ ap (λ w. count * w) g.power in
    let end : at + width ≡ size + 1 = g.ends in
    let power : width ≡ 2 ^ t = g.power in
    whole-grows t count size even (omega arith)

pub growing-most : (size count at width t n : ℕ) → n ≡ t + 1 → IsGrowing size count at width t → 2 ^ n ≤ 2 * (size + 1)
growing-most size count at width t n is g =
    let next : n ≡ suc t = omega arith in
    let double : 2 ^ n ≡ 2 * 2 ^ t = ap (λ j. 2 ^ j) next ∙ pow-succ' 2 t in
    let end : at + width ≡ size + 1 = g.ends in
    let power : width ≡ 2 ^ t = g.power in
    omega arith

-- so there are at most as many as binary digits in the new size
pub fresh-bound : (n size b : ℕ) → 2 ^ n ≤ 2 * (size + 1) → size + 1 < 2 ^ b → n ≤ b
fresh-bound n size b most fits =
    let double : 2 ^ suc b ≡ 2 * 2 ^ b = pow-succ' 2 b in
    let less : n < suc b = exponent-less (suc b) n (omega arith) in
    omega arith

-- these are the digests of subtrees that become whole with the last leaf, the smallest first
abbrev pub IsFresh : Hash → List (List ℕ) → ℕ → List (List ℕ) → Type 0
IsFresh hash leaves size fresh = (k : ℕ) → k < length fresh → get_or fresh k [] ≡ root hash (leaves_of leaves (size + 1 - 2 ^ k) (2 ^ k))

-- one more
pub fresh-more : (hash : Hash) (leaves fresh next : List (List ℕ)) (digest : List ℕ) (size count at width : ℕ) → IsGrowing size count at width (length fresh)
    → IsFresh hash leaves size fresh → digest ≡ root hash (leaves_of leaves at width) → next ≡ fresh ++ digest ∷ [] → IsFresh hash leaves size next
fresh-more hash leaves fresh next digest size count at width g f is pushed = λ k h.
    let long : length next ≡ length fresh + 1 = ap (λ l. length l) pushed ∙ length_push fresh digest in
    elim (cases_lt k (length fresh)) [
      | inl less ↦ ap (λ l. get_or l k []) pushed ∙ get_or_append_left fresh (digest ∷ []) [] k less ∙ f k less
      | inr last ↦ (
          let same : length fresh ≡ k = omega arith in
          let power : width ≡ 2 ^ k = g.power ∙ ap (λ j. 2 ^ j) same in
          let end : at + width ≡ size + 1 = g.ends in
          let begin : at ≡ size + 1 - 2 ^ k = omega arith in
          ap (λ l. get_or l k []) pushed ∙ get_or_push fresh digest [] k same ∙ is
          ∙ ap (λ w. root hash (leaves_of leaves at w)) power ∙ ap (λ a. root hash (leaves_of leaves a (2 ^ k))) begin)
    ]

-- while a leaf is added: the digest of the subtree that ends with it, and those before
pub record IsMade (hash : Hash) (leaves : List (List ℕ)) (size : ℕ) (fresh : List (List ℕ)) (digest : List ℕ) (at width : ℕ) : Type 0 where
  pub here : digest ≡ root hash (leaves_of leaves at width)
  pub before : IsFresh hash leaves size fresh

pub made-begins : (hash : Hash) (leaves : List (List ℕ)) (alh : List ℕ) (size : ℕ) (fresh : List (List ℕ)) (digest : List ℕ) → size ≡ length leaves → fresh ≡ []
    → digest ≡ leaf hash alh → IsMade hash (leaves ++ alh ∷ []) size fresh digest size 1
made-begins hash leaves alh size fresh digest same none is =
    let long : length (leaves ++ alh ∷ []) ≡ length leaves + 1 = length_push leaves alh in
    let empty : length fresh ≡ 0 = ap (λ l. length l) none in
    record {
      here = is ∙ ap (λ d. leaf hash d) (sym (get_or_push leaves alh [] size (sym same))) ∙ sym (root-leaf hash (leaves ++ alh ∷ []) size (omega arith));
      before = λ k h. absurd (omega arith);
    }

pub made-step : (hash : Hash) (leaves : List (List ℕ)) (alh : List ℕ) (size count at width : ℕ) (fresh next : List (List ℕ)) (digest left made : List ℕ) → size ≡ length leaves
    → count % 2 ≡ 1 → IsGrowing size count at width (length fresh) → IsMade hash (leaves ++ alh ∷ []) size fresh digest at width → next ≡ fresh ++ digest ∷ []
    → left ≡ root hash (leaves_of leaves (at - width) width) → made ≡ node hash left digest → IsMade hash (leaves ++ alh ∷ []) size next made (at - width) (2 * width)
made-step hash leaves alh size count at width fresh next digest left made same odd g m pushed beside is =
    let all : List (List ℕ) = leaves ++ alh ∷ [] in
    let long : length all ≡ length leaves + 1 = length_push leaves alh in
    let bounds : (width ≤ at) × (0 < width) × (at ≤ size) = growing-odd size count at width (length fresh) odd g in
    let low : width ≤ at = bounds.0 in
    let high : at ≤ size = bounds.2 in
    let end : at + width ≡ size + 1 = g.ends in
    let begin : at ≡ at - width + width = omega arith in
    record {
      here = is
          ∙ ap (λ x. node hash x digest) (beside ∙ ap (λ l. root hash l) (sym (part-append leaves (alh ∷ []) (at - width) width (omega arith))))
          ∙ ap (λ x. node hash (root hash (leaves_of all (at - width) width)) x) (m.here ∙ ap (λ a. root hash (leaves_of all a width)) begin)
          ∙ root-join hash all width (length fresh) (at - width) g.power (omega arith);
      before = fresh-more hash all fresh next digest size count at width g m.before m.here pushed;
    }

-- the digests that are added fill the places up to the new size
pub filled-more : (old new fresh more : List (List ℕ)) (size : ℕ) → new ≡ old ++ more → more ≡ fresh → length old ≡ whole size → whole (size + 1) ≡ whole size + length fresh
    → length new ≡ whole (size + 1)
filled-more old new fresh more size added same filled grown =
    let long : length new ≡ length old + length more = ap (λ l. length l) added ∙ length-append old more in
    let equal : length more ≡ length fresh = ap (λ l. length l) same in
    omega arith

-- each whole subtree of the new leaves has its digest at its place
leveled-at : (hash : Hash) (leaves old fresh : List (List ℕ)) (alh : List ℕ) (size : ℕ) → length old ≡ whole size → whole (size + 1) ≡ whole size + length fresh
    → IsLeveled hash leaves (stored old size) → IsFresh hash (leaves ++ alh ∷ []) size fresh → AreStored hash (leaves ++ alh ∷ []) (old ++ fresh)
leveled-at hash leaves old fresh alh size filled grown f new = λ k j inside.
    let all : List (List ℕ) = leaves ++ alh ∷ [] in
    let at : ℕ = j * 2 ^ k in
    let width : ℕ = 2 ^ k in
    let long : length all ≡ length leaves + 1 = length_push leaves alh in
    let same : size ≡ length leaves = f.counted in
    elim (cases_lt size (at + width)) [
      | inl more ↦ (
          let end : at + width ≡ size + 1 = omega arith in
          let place_is : whole (at + width - 1) + k ≡ whole at + 2 * (width - 1) = whole-place k j in
          let last : at + width - 1 ≡ size = omega arith in
          let before : whole (at + width - 1) ≡ whole size = ap (λ x. whole x) last in
          let less : whole at + 2 * (width - 1) < whole (size + 1) = whole-inside k j (size + 1) (omega arith) in
          let is : whole at + 2 * (width - 1) ≡ length old + k = omega arith in
          let begin : size + 1 - width ≡ at = omega arith in
          ap (λ p. get_or (old ++ fresh) p []) is ∙ get_or-append-add old fresh k [] ∙ new k (omega arith)
          ∙ ap (λ a. root hash (leaves_of all a width)) begin)
      | inr most ↦ (
          let less : whole at + 2 * (width - 1) < whole size = whole-inside k j size most in
          get_or_append_left old fresh [] (place at width) (omega arith) ∙ f.rooted k j (omega arith)
          ∙ ap (λ l. root hash l) (sym (part-append leaves (alh ∷ []) at width (omega arith))))
    ]

-- as the code adds them
pub leveled-more : (hash : Hash) (leaves old new fresh more : List (List ℕ)) (alh : List ℕ) (size : ℕ) → new ≡ old ++ more → more ≡ fresh → length old ≡ whole size
    → whole (size + 1) ≡ whole size + length fresh → IsLeveled hash leaves (stored old size) → IsFresh hash (leaves ++ alh ∷ []) size fresh
    → IsLeveled hash (leaves ++ alh ∷ []) (stored new (size + 1))
leveled-more hash leaves old new fresh more alh size added same filled grown f made =
    let long : length (leaves ++ alh ∷ []) ≡ length leaves + 1 = length_push leaves alh in
    let counted : size ≡ length leaves = f.counted in
    let all : new ≡ old ++ fresh = added ∙ ap (λ l. old ++ l) same in
    record {
      counted = omega arith;
      rooted = subst (λ d. AreStored hash (leaves ++ alh ∷ []) d) (sym all) (leveled-at hash leaves old fresh alh size filled grown f made);
    }

-- no leaves have no digests
pub leveled-none : (hash : Hash) (digests : List (List ℕ)) → IsLeveled hash [] (stored digests 0)
leveled-none hash digests =
    record {
      counted = refl;
      rooted = λ k j inside. absurd (let some : 0 < 2 ^ k = pow_pos k in omega arith);
    }

-- a size whose digests are counted in 64 bits has a next one
pub size-fits : (size len : ℕ) → len ≡ whole size → len < 2 ^ 64 → size + 1 < 2 ^ 64
size-fits size len filled fits =
    let step : whole size ≡ size + whole (size / 2) = whole-step size in
    let most : size / 2 ≤ whole (size / 2) = whole-most (size / 2) in
    omega arith
