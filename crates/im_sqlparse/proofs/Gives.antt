-- A rule gives only what a predicate holds of.
use Rattle.std.proofs.Common.{◌≤◌, ℕ, zero, suc, Bool, true, false, cond, List, [], ◌∷◌, ◌++◌, length, All, Ok, Err, length-append, arith}
use Rattle.std.proofs.lemmas.List.Elements.{All-nil, All-push}
use Rattle.im_sqlparse.specs.declared.errors.SyntaxKind.{SyntaxKind}
use Rattle.im_sqlparse.specs.declared.kinds.Kind.{Kind}
use Rattle.im_sqlparse.specs.Input.{Input, Reader, Parsed, and_then, ◌>>=◌, ◌<$>◌, pure, refuse, fails, left, eat, separated, separated_from}

abbrev pub Given : {A : Type 0} → (A → Type 0) → Parsed A → Type 0
Given P (Ok p) = P p.0
Given P (Err e) = Unit {0}

abbrev pub Gives : {A : Type 0} → (A → Type 0) → Reader A → Type 0
Gives P p = (i : Input) → Given P (p i)

-- any value
abbrev pub Anything : {A : Type 0} → A → Type 0
Anything a = Unit {0}

-- a list of one or more
abbrev pub SomeOf : {A : Type 0} → (A → Type 0) → List A → Type 0
SomeOf P xs = (1 ≤ length xs) × All P xs

pub given_weaker : {A : Type 0} (P Q : A → Type 0) (o : Parsed A) → ((a : A) → P a → Q a) → Given P o → Given Q o
given_weaker P Q (Ok p) f h = f p.0 h
given_weaker P Q (Err e) f h = tt

pub weaker : {A : Type 0} (P Q : A → Type 0) (p : Reader A) → ((a : A) → P a → Q a) → Gives P p → Gives Q p
weaker P Q p f h i = given_weaker P Q (p i) f (h i)

then_given : {A B : Type 0} (P : A → Type 0) (Q : B → Type 0) (o : Parsed A) (f : A → Reader B) → Given P o → ((a : A) → P a → Gives Q (f a)) → Given Q (and_then o f)
then_given P Q (Ok p) f h g = g p.0 h p.1
then_given P Q (Err e) f h g = tt

pub both : {A B : Type 0} (P : A → Type 0) (Q : B → Type 0) (p : Reader A) (f : A → Reader B) → Gives P p → ((a : A) → P a → Gives Q (f a)) → Gives Q (p >>= f)
both P Q p f h g i = then_given P Q (p i) f (h i) g

any_given : {A : Type 0} (o : Parsed A) → Given Anything o
any_given (Ok p) = tt
any_given (Err e) = tt

-- a rule whose value doesn't matter
pub after : {A B : Type 0} (Q : B → Type 0) (p : Reader A) (f : A → Reader B) → ((a : A) → Gives Q (f a)) → Gives Q (p >>= f)
after Q p f g = both Anything Q p f (λ i. any_given (p i)) (λ a _. g a)

pub of_pure : {A : Type 0} (P : A → Type 0) (a : A) → P a → Gives P (pure a)
of_pure P a h i = h

pub of_refuse : {A : Type 0} (P : A → Type 0) → Gives P (refuse {A = A})
of_refuse P i = tt

pub of_fails : {A : Type 0} (P : A → Type 0) (what : SyntaxKind) → Gives P (fails {A = A} what)
of_fails P what i = tt

pub of_cond : {A : Type 0} (P : A → Type 0) (b : Bool) (p q : Reader A) → Gives P p → Gives P q → Gives P (cond b p q)
of_cond P true p q s t = s
of_cond P false p q s t = t

pub of_choice : {A : Type 0} (P : A → Type 0) (b : Bool) (o q : Parsed A) → Given P o → Given P q → Given P (cond b o q)
of_choice P true o q s t = s
of_choice P false o q s t = t

pub of_map : {A B : Type 0} (P : A → Type 0) (Q : B → Type 0) (f : A → B) (p : Reader A) → Gives P p → ((a : A) → P a → Q (f a)) → Gives Q (f <$> p)
of_map P Q f p h g = both P Q p (λ x. pure (f x)) h (λ a pa. of_pure Q (f a) (g a pa))

pub one_more : {A : Type 0} (P : A → Type 0) (found : List A) (x : A) → All P found → P x → SomeOf P (found ++ x ∷ [])
one_more P found x all px = (omega (arith, length-append found (x ∷ [])), All-push P found x all px)

of_separated_from : {A : Type 0} (P : A → Type 0) (mark : Kind) (item : Reader A) (n : ℕ) (found : List A) → Gives P item → All P found → Gives (SomeOf P) (separated_from mark item n found)
unfolding separated_from
of_separated_from P mark item zero found h all = λ i. tt
of_separated_from P mark item (suc n) found h all =
    both P (SomeOf P) item (λ x. eat mark >>= (λ more. cond more (separated_from mark item n (found ++ x ∷ [])) (pure (found ++ x ∷ [])))) h (λ x px.
    after (SomeOf P) (eat mark) (λ more. cond more (separated_from mark item n (found ++ x ∷ [])) (pure (found ++ x ∷ []))) (λ more.
    of_cond (SomeOf P) more (separated_from mark item n (found ++ x ∷ [])) (pure (found ++ x ∷ []))
    (of_separated_from P mark item n (found ++ x ∷ []) h (All-push P found x all px))
    (of_pure (SomeOf P) (found ++ x ∷ []) (one_more P found x all px))))

pub of_separated : {A : Type 0} (P : A → Type 0) (mark : Kind) (item : Reader A) → Gives P item → Gives (SomeOf P) (separated mark item)
of_separated P mark item h i = of_separated_from P mark item (left i) [] h (All-nil P) i
