-- Numbers of items, and the longer of two front parts.
use Rattle.std.proofs.Common.{◌≡◌, ℕ, suc, ◌+◌, ◌<◌, ◌≤◌, ◌==◌, ◌&&◌, ◌||◌, not, List, [], ◌∷◌, ◌++◌, length, Bool, true, false, true≢false, cond, max, min, refl, sym, ap, ◌∙◌, subst, arith, ltb}
use Rattle.std.proofs.lemmas.Bool.Decides.{nat_tests}
use Rattle.std.specs.List.{All}
use mathlib.Core.List.{IsPrefix}
use Rattle.im_table.specs.declared.items.LogItem.{LogItem}
use Rattle.im_table.specs.Views.{numbers, longer, shorter, chosen, other_of, pick, rest_of}
use Rattle.im_model.specs.Counts.{times}
use Rattle.im_table.proofs.FrontLemmas.{prefix_length}

abbrev pub hit : ℕ → ℕ → ℕ
hit k n = cond (k == n) 1 0

times_cond : (n k : ℕ) (b : Bool) (xs : List ℕ) → times n (cond b xs (k ∷ xs)) ≡ cond b 0 (hit k n) + times n xs
times_cond n k true xs = omega arith
times_cond n k false xs = refl

-- a new entry adds its number
pub times_new : (n k : ℕ) (log : List LogItem) (x : LogItem) → x.found ≡ false → times n (numbers k (log ++ x ∷ [])) ≡ times n (numbers k log) + hit (k + length log) n
times_new n k [] x new =
    let e : times n (numbers k (x ∷ [])) ≡ cond x.found 0 (hit k n) + 0 = times_cond n k x.found [] in
    let e' : times n (numbers k (x ∷ [])) ≡ hit k n + 0 = subst (λ (b : Bool). times n (numbers k (x ∷ [])) ≡ cond b 0 (hit k n) + 0) new e in
    let same : hit (k + 0) n ≡ hit k n = ap (λ (m : ℕ). hit m n) (omega arith) in
    e' ∙ (omega (arith, same))
times_new n k (y ∷ log) x new =
    let before = times_cond n k y.found (numbers (suc k) log) in
    let after = times_cond n k y.found (numbers (suc k) (log ++ x ∷ [])) in
    let more = times_new n (suc k) log x new in
    let same : hit (suc k + length log) n ≡ hit (k + suc (length log)) n = ap (λ (m : ℕ). hit m n) (omega arith) in
    omega (arith, before, after, more, same)

-- what was found has no new number
pub numbers_found : (k : ℕ) (xs : List LogItem) → All (λ x. x.found ≡ true) xs → numbers k xs ≡ []
numbers_found k [] h = refl
numbers_found k (x ∷ xs) h =
    subst (λ (b : Bool). cond b (numbers (suc k) xs) (k ∷ numbers (suc k) xs) ≡ []) (sym (h 0 x (omega arith))) (numbers_found (suc k) xs (λ j d lt. h (suc j) d (omega arith)))

-- the longer of two
pub longer_one : (P : List LogItem → Type 0) (xs ys : List LogItem) → P xs → P ys → P (longer xs ys)
longer_one P xs ys p q = elim (ltb (length xs) (length ys)) as (λ b. P (cond b ys xs)) [ true ↦ q | false ↦ p ]

pub shorter_one : (P : List LogItem → Type 0) (xs ys : List LogItem) → P xs → P ys → P (shorter xs ys)
shorter_one P xs ys p q = elim (ltb (length xs) (length ys)) as (λ b. P (cond b xs ys)) [ true ↦ p | false ↦ q ]

longest : (xs ys : List LogItem) (b : Bool) → ltb (length xs) (length ys) ≡ b → (length xs ≤ length (cond b ys xs)) × (length ys ≤ length (cond b ys xs))
longest xs ys true e = let lt : length xs < length ys = grind (arith, nat_tests) in (omega arith, omega arith)
longest xs ys false e = let le : length ys ≤ length xs = grind (arith, nat_tests) in (omega arith, omega arith)

pub longer_length : (xs ys : List LogItem) → (length xs ≤ length (longer xs ys)) × (length ys ≤ length (longer xs ys))
longer_length xs ys = longest xs ys (ltb (length xs) (length ys)) refl

pub chosen_one : (P : List LogItem → Type 0) (b c : Bool) (xs ys : List LogItem) → P xs → P ys → P (chosen b c xs ys)
chosen_one P true c xs ys p q = p
chosen_one P false true xs ys p q = q
chosen_one P false false xs ys p q = longer_one P xs ys p q

pub other_one : (P : List LogItem → Type 0) (b c : Bool) (xs ys : List LogItem) → P xs → P ys → P (other_of b c xs ys)
other_one P true c xs ys p q = q
other_one P false true xs ys p q = p
other_one P false false xs ys p q = shorter_one P xs ys p q

-- it is the whole where one of the two passes has the role
pub chosen_whole : (log : List LogItem) (b c : Bool) (xs ys : List LogItem) → (b ≡ true → xs ≡ log) → (c ≡ true → ys ≡ log) → (b || c) ≡ true → chosen b c xs ys ≡ log
chosen_whole log true c xs ys p q e = p refl
chosen_whole log false true xs ys p q e = q refl
chosen_whole log false false xs ys p q e = absurd (true≢false (sym e))

pub chosen_length : (log : List LogItem) (b c : Bool) (xs ys : List LogItem) → IsPrefix xs log → IsPrefix ys log → (b ≡ true → xs ≡ log) → (c ≡ true → ys ≡ log)
    → (length xs ≤ length (chosen b c xs ys)) × (length ys ≤ length (chosen b c xs ys))
chosen_length log true c xs ys l m p q = let e : length xs ≡ length log = ap length (p refl) in let n = prefix_length ys log m in (omega arith, omega arith)
chosen_length log false true xs ys l m p q = let e : length ys ≡ length log = ap length (q refl) in let n = prefix_length xs log l in (omega arith, omega arith)
chosen_length log false false xs ys l m p q = longer_length xs ys

-- a role and what is left of it
pub role_cut : (b c : Bool) → (b ≡ true → c ≡ true) → cond (c && not b) 1 0 + cond b 1 0 ≡ cond c 1 0
role_cut true true may = refl
role_cut true false may = absurd (true≢false (sym (may refl)))
role_cut false true may = refl
role_cut false false may = refl

pub role_left : (b c : Bool) → (c && not b) ≡ true → c ≡ true
role_left b true e = refl
role_left b false e = absurd (true≢false (sym e))

pub role_both : (b c : Bool) → cond b 1 0 + cond c 1 0 ≤ 1 → cond (b || c) 1 0 ≡ cond b 1 0 + cond c 1 0
role_both true true h = absurd (omega arith)
role_both true false h = refl
role_both false true h = refl
role_both false false h = refl

pub append_nil_left : (xs ys : List ℕ) → xs ≡ [] → ys ≡ [] → xs ++ ys ≡ []
append_nil_left xs ys p q = ap (λ (zs : List ℕ). zs ++ ys) p ∙ q

-- the number that was taken, and the other one
pub pick_one : (P : ℕ → Type 0) (b c : Bool) (x y : ℕ) → P x → P y → P (max x y) → P (pick b c x y)
pick_one P true c x y p q r = p
pick_one P false true x y p q r = q
pick_one P false false x y p q r = r

pub rest_one : (P : ℕ → Type 0) (b c : Bool) (x y : ℕ) → P x → P y → P (min x y) → P (rest_of b c x y)
rest_one P true c x y p q r = q
rest_one P false true x y p q r = p
rest_one P false false x y p q r = r

pub pick_whole : (n : ℕ) (b c : Bool) (x y : ℕ) → (b ≡ true → x ≡ n) → (c ≡ true → y ≡ n) → (b || c) ≡ true → pick b c x y ≡ n
pick_whole n true c x y p q e = p refl
pick_whole n false true x y p q e = q refl
pick_whole n false false x y p q e = absurd (true≢false (sym e))
