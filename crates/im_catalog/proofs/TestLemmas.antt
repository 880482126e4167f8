-- That no two of a list are the same, as a loop finds it.
use Rattle.std.proofs.Common.{◌≡◌, ◌≢◌, ◌<◌, ◌≤◌, ◌+◌, ℕ, Bool, true, false, true≢false, List, length, get_or, take, sym, ◌∙◌, subst, nat_eq, bytes_eq, arith}
use Rattle.std.specs.List.{AllPairs, list_any}
use Rattle.std.proofs.lemmas.List.{take_more, get_or_default, get_or-take, length-take-le}
use Rattle.std.proofs.lemmas.List.Folds.{Any-from_list_any, list_any_at}
use Rattle.std.proofs.lemmas.List.Quantifiers.{all_pairs_push}
use Rattle.std.proofs.lemmas.Bool.{eqb-true, eq-eqb}
use Rattle.std.proofs.lemmas.Slice.Eq.{bytes_eq-Decides}
use Rattle.im_sqlmodel.specs.declared.tables.Column.{Column}

-- ---- by any test that tells what is the same

-- one more that is none of those before it
more-apart : {X : Type 0} (R : X → X → Type 0) (same : X → X → Bool) → ((x y : X) → R x y → same x y ≡ true) → (xs : List X) (i : ℕ) (d : X) → i < length xs
    → list_any (λ x. same x (get_or xs i d)) (take i xs) ≡ false → AllPairs (λ x y. R x y → ⊥) (take i xs) → AllPairs (λ x y. R x y → ⊥) (take (i + 1) xs)
more-apart {X} R same tells xs i d within none apart =
    subst (AllPairs (λ (x y : X). R x y → ⊥)) (sym (take_more xs i d within))
    (all_pairs_push (λ (x y : X). R x y → ⊥) (take i xs) (get_or xs i d) apart (λ k e before related.
    true≢false (sym (list_any_at (λ x. same x (get_or xs i d)) (take i xs) k e before (tells (get_or (take i xs) k e) (get_or xs i d) related)) ∙ none)))

-- one that stood before
not-apart : {X : Type 0} (R : X → X → Type 0) (same : X → X → Bool) → ((x y : X) → same x y ≡ true → R x y) → (xs : List X) (i : ℕ) (d : X) → i < length xs
    → list_any (λ x. same x (get_or xs i d)) (take i xs) ≡ true → AllPairs (λ x y. R x y → ⊥) xs → ⊥
not-apart {X} R same tells xs i d within some apart =
    let found = Any-from_list_any (λ x. same x (get_or xs i d)) (take i xs) some in
    let k = found.0 in
    let x = found.1 in
    let before : k < i = (let inside : k < length (take i xs) = found.2 in omega (arith, inside, length-take-le {A = X} i xs (let l : i ≤ length xs = omega (arith, within) in l))) in
    let here : get_or xs k x ≡ x = sym (get_or-take i xs k x before) ∙ found.3 in
    let there : get_or xs i x ≡ get_or xs i d = get_or_default xs i x d within in
    apart k i x before within (subst (λ z. R z (get_or xs i x)) (sym here) (subst (λ z. R x z) (sym there) (tells x (get_or xs i d) found.4)))

-- ---- numbers

same-number : (m n : ℕ) → m ≡ n → nat_eq m n ≡ true
same-number m n e = eq-eqb m n e

pub numbers-more : (xs : List ℕ) (i d : ℕ) → i < length xs → list_any (λ n. nat_eq n (get_or xs i d)) (take i xs) ≡ false
    → AllPairs (λ a b. a ≢ b) (take i xs) → AllPairs (λ a b. a ≢ b) (take (i + 1) xs)
numbers-more xs i d within none apart = more-apart (λ (m n : ℕ). m ≡ n) (λ m n. nat_eq m n) same-number xs i d within none apart

pub numbers-not : (xs : List ℕ) (i d : ℕ) → i < length xs → list_any (λ n. nat_eq n (get_or xs i d)) (take i xs) ≡ true → AllPairs (λ a b. a ≢ b) xs → ⊥
numbers-not xs i d within some apart = not-apart (λ (m n : ℕ). m ≡ n) (λ m n. nat_eq m n) (λ m n e. eqb-true m n e) xs i d within some apart

-- ---- names

pub names-more : (xs : List Column) (i : ℕ) (d : Column) → i < length xs → list_any (λ c. bytes_eq c.name (get_or xs i d).name) (take i xs) ≡ false
    → AllPairs (λ a b. a.name ≢ b.name) (take i xs) → AllPairs (λ a b. a.name ≢ b.name) (take (i + 1) xs)
names-more xs i d within none apart =
    more-apart (λ (a b : Column). a.name ≡ b.name) (λ a b. bytes_eq a.name b.name) (λ a b e. (bytes_eq-Decides a.name b.name).1 e) xs i d within none apart

pub names-not : (xs : List Column) (i : ℕ) (d : Column) → i < length xs → list_any (λ c. bytes_eq c.name (get_or xs i d).name) (take i xs) ≡ true
    → AllPairs (λ a b. a.name ≢ b.name) xs → ⊥
names-not xs i d within some apart =
    not-apart (λ (a b : Column). a.name ≡ b.name) (λ a b. bytes_eq a.name b.name) (λ a b e. (bytes_eq-Decides a.name b.name).0 e) xs i d within some apart

pub ruleset numbers_apart = (numbers-more, numbers-not)

pub ruleset names_apart = (names-more, names-not)
