-- Whole subtrees: how a leaf is added to them, and how they give the root.
use Rattle.std.proofs.Common.{◌≡◌, ◌<◌, ◌≤◌, length, ℕ, suc, zero, ◌+◌, ◌*◌, ◌/◌, ◌%◌, ◌^◌, ◌==◌, List, [], ◌∷◌, take, drop, reverse, ◌++◌, refl, arith, ap, subst, ◌∙◌, sym, true, false, if◌then◌else◌, get_or, inl, inr}
use Rattle.std.proofs.lemmas.Bool.{eq-eqb, ne_eqb, cases_lt}
use Rattle.std.proofs.Math.Nat.{pow-succ', mul_assoc, suc-mul, zero-mul}
use Rattle.im_digest.specs.Digests.{Hash}
use Rattle.im_model.specs.Trees.{leaf, node, root}
use Rattle.im_model.proofs.Reversed.{reverse-last, reverse-nothing}
use Rattle.im_mtree.specs.Subtrees.{subtrees_within, subtrees, folded}
use Rattle.im_mtree.proofs.JoinLemmas.{power-twice, root-leaf, root-join, root-rest}

-- an odd count has a subtree of this size
pub subtrees-odd : (room : ℕ) (hash : Hash) (digests : List (List ℕ)) (s count : ℕ) → count % 2 ≡ 1
    → subtrees_within (suc room) hash digests s count ≡ root hash (take s (drop (count / 2 * (2 * s)) digests)) ∷ subtrees_within room hash digests (2 * s) (count / 2)
unfolding subtrees_within
subtrees-odd room hash digests s count h =
    ap (λ b. if b then root hash (take s (drop (count / 2 * (2 * s)) digests)) ∷ subtrees_within room hash digests (2 * s) (count / 2)
    else subtrees_within room hash digests (2 * s) (count / 2)) (eq-eqb (count % 2) 1 h)

-- an even count has none
pub subtrees-even : (room : ℕ) (hash : Hash) (digests : List (List ℕ)) (s count : ℕ) → count % 2 ≡ 0
    → subtrees_within (suc room) hash digests s count ≡ subtrees_within room hash digests (2 * s) (count / 2)
unfolding subtrees_within
subtrees-even room hash digests s count h =
    ap (λ b. if b then root hash (take s (drop (count / 2 * (2 * s)) digests)) ∷ subtrees_within room hash digests (2 * s) (count / 2)
    else subtrees_within room hash digests (2 * s) (count / 2)) (ne_eqb (count % 2) 1 (λ e. omega arith))

-- there are at most as many subtrees as binary digits
pub length-subtrees : (room : ℕ) (hash : Hash) (digests : List (List ℕ)) (s count : ℕ) → length (subtrees_within room hash digests s count) ≤ room
unfolding subtrees_within
length-subtrees zero hash digests s count = omega arith
length-subtrees (suc room) hash digests s count =
    let most : length (subtrees_within room hash digests (2 * s) (count / 2)) ≤ room = length-subtrees room hash digests (2 * s) (count / 2) in
    elim (count % 2 == 1) as (λ b. length (if b then root hash (take s (drop (count / 2 * (2 * s)) digests)) ∷ subtrees_within room hash digests (2 * s) (count / 2)
    else subtrees_within room hash digests (2 * s) (count / 2)) ≤ suc room) [ true ↦ omega arith | false ↦ omega arith ]

-- where an even count of runs ends
pub even-place : (count s : ℕ) → count % 2 ≡ 0 → count * s ≡ count / 2 * (2 * s)
even-place count s h =
    let twice : count ≡ count / 2 * 2 = omega arith in
    ap (λ j. j * s) twice ∙ mul_assoc (count / 2) 2 s

-- where an odd count of runs ends
pub odd-place : (count s : ℕ) → count % 2 ≡ 1 → count * s ≡ count / 2 * (2 * s) + s
odd-place count s h =
    let twice : count ≡ suc (count / 2 * 2) = omega arith in
    let place : (count / 2 * 2) * s ≡ count / 2 * (2 * s) = mul_assoc (count / 2) 2 s in
    ap (λ j. j * s) twice ∙ suc-mul (count / 2 * 2) s ∙ ap (λ j. j + s) place

-- while a leaf is added: the subtrees before it that are left, the last first, and the root of the
-- subtree that ends with the leaf, which has `count` others of its size before it
pub record IsCarry (hash : Hash) (digests : List (List ℕ)) (want : List (List ℕ)) (stack : List (List ℕ)) (count : ℕ) (right : List ℕ) : Type 0 where
  pub room : ℕ
  pub size : ℕ
  pub exponent : ℕ
  pub power : size ≡ 2 ^ exponent
  pub small : room ≤ 64
  pub fits : count + 1 < 2 ^ room
  pub inside : count * size + size ≤ length digests
  pub before : stack ≡ subtrees_within room hash digests size count
  pub here : right ≡ root hash (take size (drop (count * size) digests))
  pub after : want ≡ subtrees_within room hash digests size (count + 1)

-- a leaf begins to be added as a subtree of its own
pub carry-begins : (hash : Hash) (digests stack : List (List ℕ)) (i : ℕ) (right : List ℕ) → i < length digests → i + 1 < 2 ^ 64
    → stack ≡ subtrees hash digests i → right ≡ leaf hash (get_or digests i []) → IsCarry hash digests (subtrees hash digests (i + 1)) stack i right
unfolding subtrees
carry-begins hash digests stack i right h most before made =
    let one : i * 1 ≡ i = omega arith in
    record {
      room = 64;
      size = 1;
      exponent = 0;
      power = refl;
      small = omega arith;
      fits = omega arith;
      inside = omega arith;
      before = before;
      here = made ∙ sym (root-leaf hash digests i h) ∙ ap (λ j. root hash (take 1 (drop j digests))) (sym one);
      after = refl;
    }

carry-odd : (hash : Hash) (digests want stack : List (List ℕ)) (count : ℕ) (right : List ℕ) → count % 2 ≡ 1
    → (room s e : ℕ) → s ≡ 2 ^ e → room ≤ 64 → count + 1 < 2 ^ room → count * s + s ≤ length digests
    → stack ≡ subtrees_within room hash digests s count → right ≡ root hash (take s (drop (count * s) digests)) → want ≡ subtrees_within room hash digests s (count + 1)
    → (0 < length stack) × IsCarry hash digests want (drop 1 stack) (count / 2) (node hash (get_or stack 0 []) right)
carry-odd hash digests want stack count right odd zero s e power small fits inside before here after = absurd (omega arith)
carry-odd hash digests want stack count right odd (suc room) s e power small fits inside before here after =
    let at : ℕ = count / 2 * (2 * s) in
    let place : count * s ≡ at + s = odd-place count s odd in
    let top : stack ≡ root hash (take s (drop at digests)) ∷ subtrees_within room hash digests (2 * s) (count / 2) = before ∙ subtrees-odd room hash digests s count odd in
    let double : 2 ^ suc room ≡ 2 * 2 ^ room = pow-succ' 2 room in
    let half : (count + 1) / 2 ≡ count / 2 + 1 = omega arith in
    let even : (count + 1) % 2 ≡ 0 = omega arith in (
      subst (λ l. 0 < length l) (sym top) (omega arith),
      record {
        room = room;
        size = 2 * s;
        exponent = suc e;
        power = power-twice s e power;
        small = omega arith;
        fits = omega arith;
        inside = omega arith;
        before = ap (λ l. drop 1 l) top;
        here = ap (λ l. node hash (get_or l 0 []) right) top
            ∙ ap (λ r. node hash (root hash (take s (drop at digests))) r) (here ∙ ap (λ j. root hash (take s (drop j digests))) place)
            ∙ root-join hash digests s e at power (omega arith);
        after = after ∙ subtrees-even room hash digests s (count + 1) even ∙ ap (λ j. subtrees_within room hash digests (2 * s) j) half;
      },
    )

-- an odd count: the last subtree and the new one become one
pub carry-goes_on : (hash : Hash) (digests want stack : List (List ℕ)) (count : ℕ) (right : List ℕ) → count % 2 ≡ 1 → IsCarry hash digests want stack count right
    → (0 < length stack) × IsCarry hash digests want (drop 1 stack) (count / 2) (node hash (get_or stack 0 []) right)
carry-goes_on hash digests want stack count right odd c =
    carry-odd hash digests want stack count right odd c.room c.size c.exponent c.power c.small c.fits c.inside c.before c.here c.after

-- an odd count, as the code merges
pub carry-merged : (hash : Hash) (digests want stack less : List (List ℕ)) (count : ℕ) (right made : List ℕ) → count % 2 ≡ 1 → IsCarry hash digests want stack count right
    → made ≡ node hash (get_or stack 0 []) right → less ≡ drop 1 stack → IsCarry hash digests want less (count / 2) made
carry-merged hash digests want stack less count right made odd c is popped =
    subst (λ r. IsCarry hash digests want less (count / 2) r) (sym is)
    (subst (λ l. IsCarry hash digests want l (count / 2) (node hash (get_or stack 0 []) right)) (sym popped)
    (carry-goes_on hash digests want stack count right odd c).1)

carry-even : (hash : Hash) (digests want stack : List (List ℕ)) (count : ℕ) (right : List ℕ) → count % 2 ≡ 0
    → (room s : ℕ) → room ≤ 64 → count + 1 < 2 ^ room
    → stack ≡ subtrees_within room hash digests s count → right ≡ root hash (take s (drop (count * s) digests)) → want ≡ subtrees_within room hash digests s (count + 1)
    → (length stack < 64) × (right ∷ stack ≡ want)
carry-even hash digests want stack count right even zero s small fits before here after = absurd (omega arith)
carry-even hash digests want stack count right even (suc room) s small fits before here after =
    let odd : (count + 1) % 2 ≡ 1 = omega arith in
    let half : (count + 1) / 2 ≡ count / 2 = omega arith in
    let same : stack ≡ subtrees_within room hash digests (2 * s) (count / 2) = before ∙ subtrees-even room hash digests s count even in
    let most : length (subtrees_within room hash digests (2 * s) (count / 2)) ≤ room = length-subtrees room hash digests (2 * s) (count / 2) in
    let long : length stack ≡ length (subtrees_within room hash digests (2 * s) (count / 2)) = ap (λ l. length l) same in (
      omega arith,
      ap (λ r. r ∷ stack) (here ∙ ap (λ j. root hash (take s (drop j digests))) (even-place count s even))
          ∙ ap (λ l. root hash (take s (drop (count / 2 * (2 * s)) digests)) ∷ l) same
          ∙ ap (λ j. root hash (take s (drop (j * (2 * s)) digests)) ∷ subtrees_within room hash digests (2 * s) j) (sym half)
          ∙ sym (after ∙ subtrees-odd room hash digests s (count + 1) odd),
    )

-- an even count: the new subtree comes behind the others
pub carry-ends : (hash : Hash) (digests want stack : List (List ℕ)) (count : ℕ) (right : List ℕ) → count % 2 ≡ 0 → IsCarry hash digests want stack count right
    → (length stack < 64) × (right ∷ stack ≡ want)
carry-ends hash digests want stack count right even c =
    carry-even hash digests want stack count right even c.room c.size c.small c.fits c.before c.here c.after

-- one more subtree in front of the right part
pub folded-cons : (hash : Hash) (left : List ℕ) (lefts : List (List ℕ)) (right : List ℕ) → folded hash (left ∷ lefts) right ≡ folded hash lefts (node hash left right)
unfolding folded
folded-cons hash left lefts right = refl

-- no subtree leaves the right part
pub folded-nil : (hash : Hash) (right : List ℕ) → folded hash [] right ≡ right
unfolding folded
folded-nil hash right = refl

-- a subtree that is popped goes into the right part
pub folded-pop : (hash : Hash) (list front : List (List ℕ)) (left right made want : List ℕ) → list ≡ front ++ left ∷ [] → made ≡ node hash left right
    → folded hash (reverse list) right ≡ want → folded hash (reverse front) made ≡ want
folded-pop hash list front left right made want popped is before =
    ap (λ r. folded hash (reverse front) r) is
    ∙ sym (folded-cons hash left (reverse front) right)
    ∙ ap (λ l. folded hash l right) (sym (reverse-last list front left popped))
    ∙ before

-- where no subtree is left, the right part is all
pub folded-all : (hash : Hash) (list : List (List ℕ)) (right want : List ℕ) → length list ≡ 0 → folded hash (reverse list) right ≡ want → right ≡ want
folded-all hash list right want none before =
    sym (ap (λ l. folded hash l right) (reverse-nothing list none) ∙ folded-nil hash right) ∙ before

subtrees-zero : (hash : Hash) (digests : List (List ℕ)) (s count : ℕ) → subtrees_within 0 hash digests s count ≡ []
unfolding subtrees_within
subtrees-zero hash digests s count = refl

-- subtrees and the part behind them, which is at most one more of their size
pub folded-within : (room : ℕ) (hash : Hash) (digests : List (List ℕ)) (s e count : ℕ) → s ≡ 2 ^ e → count < 2 ^ room
    → count * s < length digests → length digests ≤ count * s + s
    → folded hash (subtrees_within room hash digests s count) (root hash (drop (count * s) digests)) ≡ root hash digests
folded-within zero hash digests s e count power fits more most =
    let none : count ≡ 0 = omega arith in
    let start : count * s ≡ 0 = ap (λ j. j * s) none ∙ zero-mul s in
    ap (λ l. folded hash l (root hash (drop (count * s) digests))) (subtrees-zero hash digests s count)
    ∙ folded-nil hash (root hash (drop (count * s) digests)) ∙ ap (λ j. root hash (drop j digests)) start
folded-within (suc room) hash digests s e count power fits more most =
    let double : 2 ^ suc room ≡ 2 * 2 ^ room = pow-succ' 2 room in
    let at : ℕ = count / 2 * (2 * s) in
    elim (cases_lt 0 (count % 2)) [
      | inl some ↦ (
          let odd : count % 2 ≡ 1 = omega arith in
          let place : count * s ≡ at + s = odd-place count s odd in
          ap (λ l. folded hash l (root hash (drop (count * s) digests))) (subtrees-odd room hash digests s count odd)
          ∙ folded-cons hash (root hash (take s (drop at digests))) (subtrees_within room hash digests (2 * s) (count / 2)) (root hash (drop (count * s) digests))
          ∙ ap (λ r. folded hash (subtrees_within room hash digests (2 * s) (count / 2)) r)
          (ap (λ j. node hash (root hash (take s (drop at digests))) (root hash (drop j digests))) place ∙ root-rest hash digests s e at power (omega arith) (omega arith))
          ∙ folded-within room hash digests (2 * s) (suc e) (count / 2) (power-twice s e power) (omega arith) (omega arith) (omega arith))
      | inr none ↦ (
          let even : count % 2 ≡ 0 = omega arith in
          let place : count * s ≡ at = even-place count s even in
          ap (λ l. folded hash l (root hash (drop (count * s) digests))) (subtrees-even room hash digests s count even)
          ∙ ap (λ j. folded hash (subtrees_within room hash digests (2 * s) (count / 2)) (root hash (drop j digests))) place
          ∙ folded-within room hash digests (2 * s) (suc e) (count / 2) (power-twice s e power) (omega arith) (omega arith) (omega arith))
    ]

-- no digest has no whole subtree
pub subtrees-none : (hash : Hash) (digests : List (List ℕ)) → [] ≡ subtrees hash digests 0
unfolding subtrees subtrees_within
subtrees-none hash digests = refl
