-- Tests of each element of a list.
use Rattle.std.proofs.Common.{◌≡◌, ◌≤◌, ◌<◌, ◌+◌, ◌↔◌, ℕ, Bool, true, false, List, length, take, get_or, All, IfSome, MatchOption, Option, Some, None, refl, sym, subst, ◌∙◌}
use Rattle.std.proofs.lemmas.Bool.{true≢false}
use Rattle.std.proofs.lemmas.List.{take_all}
use Rattle.std.proofs.lemmas.List.Elements.{All-more}

-- ---- what a test that was made says

pub test-fails : {A : Type 0} → (A → ⊥) → (false ≡ true) ↔ A
test-fails none = (λ e. absurd (true≢false (sym e)), λ a. absurd (none a))

pub test-holds : {A : Type 0} → A → (true ≡ true) ↔ A
test-holds a = (λ _. a, λ _. refl)

pub test-not : {A : Type 0} (r : Bool) → (r ≡ true) ↔ A → r ≡ false → A → ⊥
test-not r is fails a = true≢false (sym (is.1 a) ∙ fails)

-- a test that was made and failed says nothing
pub test-none : {A : Type 0} → false ≡ true → A
test-none e = absurd (true≢false (sym e))

-- ---- one element after the other

pub all-step : {A : Type 0} (P : A → Type 0) (xs : List A) (i : ℕ) (x : A) → i < length xs → x ≡ get_or xs i x → P x → All P (take i xs) → All P (take (i + 1) xs)
all-step P xs i x l is p all = All-more P xs i x l all (subst P is p)

pub all-fails : {A : Type 0} (P : A → Type 0) (xs : List A) (i : ℕ) (x : A) → i < length xs → x ≡ get_or xs i x → (P x → ⊥) → All P xs → ⊥
all-fails P xs i x l is none all = none (subst P (sym is) (all i x l))

pub all-end : {A : Type 0} (P : A → Type 0) (xs : List A) (i : ℕ) → length xs ≤ i → All P (take i xs) → All P xs
all-end P xs i past all = subst (All P) (take_all i xs past) all

-- ---- options

pub match-weaker : {A : Type 0} (P R : Type 0) (Q S : A → Type 0) (o : Option A) → (P → R) → ((x : A) → Q x → S x) → MatchOption o P Q → MatchOption o R S
match-weaker P R Q S None f g is = f is
match-weaker P R Q S (Some x) f g is = g x is

pub some-weaker : {A : Type 0} (P Q : A → Type 0) (o : Option A) → ((x : A) → P x → Q x) → IfSome o P → IfSome o Q
some-weaker P Q None f is = tt
some-weaker P Q (Some x) f is = f x is

pub match-some : {A : Type 0} (P : Type 0) (Q : A → Type 0) (o : Option A) → MatchOption o P Q → IfSome o Q
match-some P Q None is = tt
match-some P Q (Some x) is = is
