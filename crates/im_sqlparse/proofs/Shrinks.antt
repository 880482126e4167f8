-- A rule leaves no more than it was given.
use Rattle.std.proofs.Common.{◌≡◌, ℕ, zero, suc, ◌<◌, ◌≤◌, Bool, true, false, cond, List, [], ◌∷◌, ◌++◌, drop, Ok, Err, arith}
use Rattle.std.proofs.lemmas.List.{length-drop}
use Rattle.im_sqlparse.specs.declared.errors.SyntaxKind.{SyntaxKind}
use Rattle.im_sqlparse.specs.declared.kinds.Kind.{Kind}
use Rattle.im_sqlparse.specs.declared.kinds.Kind.TheVariants as k
use Rattle.im_sqlparse.specs.Lex.{token, skip, same_kind}
use Rattle.im_sqlparse.specs.Input.{Input, Reader, Parsed, and_then, ◌>>=◌, ◌<$>◌, pure, refuse, fails, kind, next, left, peek, here, take_token, sees, past_kind, eat, expect, separated, separated_from}
use Rattle.im_sqlparse.proofs.Moves.{some_octet, skip_le}

abbrev pub Shrunk : {A : Type 0} → Parsed A → Input → Type 0
Shrunk (Ok p) i = left p.1 ≤ left i
Shrunk (Err e) i = Unit {0}

abbrev pub Shrinks : {A : Type 0} → Reader A → Type 0
Shrinks p = (i : Input) → Shrunk (p i) i

pub next_le : (i : Input) → left (next i) ≤ left i
unfolding left next
next_le i = omega (arith, skip_le (drop (token (skip i.text)).1 (skip i.text)), length-drop (token (skip i.text)).1 (skip i.text))

-- a mark that isn't the end takes an octet
pub next_lt : (mark : Kind) (i : Input) → same_kind k.End mark ≡ false → sees mark i ≡ true → left (next i) < left i
unfolding left next sees kind
next_lt mark i other seen =
    let some = some_octet (skip i.text) mark other seen in
    omega (arith, some.0, some.1, skip_le (drop (token (skip i.text)).1 (skip i.text)), length-drop (token (skip i.text)).1 (skip i.text))

pub shrunk_more : {A : Type 0} (o : Parsed A) (i j : Input) → left j ≤ left i → Shrunk o j → Shrunk o i
shrunk_more (Ok p) i j h s = omega (arith, h, s)
shrunk_more (Err e) i j h s = tt

pub then_shrunk : {A B : Type 0} (o : Parsed A) (f : A → Reader B) (i : Input) → Shrunk o i → ((a : A) → Shrinks (f a)) → Shrunk (and_then o f) i
then_shrunk (Ok p) f i s g = shrunk_more (f p.0 p.1) i p.1 s (g p.0 p.1)
then_shrunk (Err e) f i s g = tt

pub both : {A B : Type 0} (p : Reader A) (f : A → Reader B) → Shrinks p → ((a : A) → Shrinks (f a)) → Shrinks (p >>= f)
both p f s g i = then_shrunk (p i) f i (s i) g

pub of_cond : {A : Type 0} (b : Bool) (p q : Reader A) → Shrinks p → Shrinks q → Shrinks (cond b p q)
of_cond true p q s t = s
of_cond false p q s t = t

pub of_choice : {A : Type 0} (b : Bool) (o q : Parsed A) (i : Input) → Shrunk o i → Shrunk q i → Shrunk (cond b o q) i
of_choice true o q i s t = s
of_choice false o q i s t = t

pub of_pure : {A : Type 0} (a : A) → Shrinks (pure a)
of_pure a i = omega arith

pub of_refuse : (A : Type 0) → Shrinks (refuse {A = A})
of_refuse A i = tt

pub of_fails : (A : Type 0) (what : SyntaxKind) → Shrinks (fails {A = A} what)
of_fails A what i = tt

pub of_map : {A B : Type 0} (f : A → B) (p : Reader A) → Shrinks p → Shrinks (f <$> p)
of_map f p s = both p (λ x. pure (f x)) s (λ x. of_pure (f x))

pub of_peek : Shrinks peek
of_peek i = omega arith

pub of_here : Shrinks here
of_here i = omega arith

pub of_take : Shrinks take_token
of_take i = next_le i

pub of_eat : (what : Kind) → Shrinks (eat what)
unfolding past_kind
of_eat what i = elim (sees what i) as (λ b. left (cond b (next i) i) ≤ left i) [ true ↦ next_le i | false ↦ omega arith ]

pub of_expect : (what : Kind) → Shrinks (expect what)
unfolding expect
of_expect what i = of_choice (sees what i) (Ok (tt, next i)) (refuse i) i (next_le i) tt

pub of_separated_from : {A : Type 0} (mark : Kind) (item : Reader A) (n : ℕ) (found : List A) → Shrinks item → Shrinks (separated_from mark item n found)
unfolding separated_from
of_separated_from mark item zero found s = λ i. tt
of_separated_from mark item (suc n) found s =
    both item (λ x. eat mark >>= (λ more. cond more (separated_from mark item n (found ++ x ∷ [])) (pure (found ++ x ∷ [])))) s (λ x.
    both (eat mark) (λ more. cond more (separated_from mark item n (found ++ x ∷ [])) (pure (found ++ x ∷ []))) (of_eat mark) (λ more.
    of_cond more (separated_from mark item n (found ++ x ∷ [])) (pure (found ++ x ∷ [])) (of_separated_from mark item n (found ++ x ∷ []) s) (of_pure (found ++ x ∷ []))))

pub of_separated : {A : Type 0} (mark : Kind) (item : Reader A) → Shrinks item → Shrinks (separated mark item)
of_separated mark item s i = of_separated_from mark item (left i) [] s i
