-- Small facts of lists, options and results that many proofs share.
use Rattle.std.proofs.Common.{◌≡◌, ◌≤◌, ◌+◌, ◌-◌, ℕ, suc, Bool, true, false, List, [], ◌∷◌, ◌++◌, zero, cond, filter, length, take, drop, get_or, refl, ap, subst, sym, ◌∙◌, arith, All, OnOk, Option, Some, Result, Ok, Err, not, ◌&&◌, ◌≢◌}
use Rattle.std.specs.List.{last_or}
use Rattle.std.specs.Ordering.{is_lt, is_eq, ordering_reverse}
use Rattle.std.specs.declared.cmp.Ordering.{Ordering}
use Rattle.std.specs.declared.cmp.Ordering.TheVariants.{Less, Equal, Greater}
use Rattle.std.proofs.lemmas.Bool.{false_from_ne_true}
use Rattle.std.specs.Prelude.{bytes_eq, IfErr, IsErrAnd, IsErrOf}
use Rattle.std.proofs.Math.Seq.{take-add}
use Rattle.std.proofs.lemmas.List.{take_more, take_all}
use Rattle.std.proofs.lemmas.Slice.Eq.{bytes_eq-Decides}

-- equal octets are found equal
pub bytes-same : (a b : List ℕ) → a ≡ b → bytes_eq a b ≡ true
bytes-same a b e = grind (arith, bytes_eq-Decides a b, e)

-- what is there is one thing
pub some-is : {A : Type 0} (x y : A) → Some x ≡ Some y → x ≡ y
some-is x y e = cc

-- an error that is passed on
pub if-err : {T E : Type 0} (P : E → Type 0) (r : Result T E) (x : E) → IsErrAnd r (λ e. e ≡ x) → P x → IfErr r P
if-err P (Ok y) x h p = absurd h
if-err P (Err e) x h p = subst P (sym h) p

-- an answer is no error
pub ok-isnt : {T E : Type 0} (x : T) (why : E) → IsErrOf {T = T} {E = E} (Ok x) why → ⊥
ok-isnt x why is = cc

-- the last of a list that ends with an element
pub last-push : {X : Type 0} (o : Option X) (xs : List X) (x : X) → last_or o (xs ++ x ∷ []) ≡ Some x
last-push o [] x = refl
last-push o (y ∷ ys) x = last-push (Some y) ys x

-- a list is all its terms but the last, and the last
pub last-term : {X : Type 0} (xs : List X) (n : ℕ) (d : X) → length xs ≡ suc n → xs ≡ take n xs ++ get_or xs n d ∷ []
last-term xs n d e =
    let next : n + 1 ≡ suc n = omega arith in
    sym (take_all (n + 1) xs (omega arith)) ∙ take_more xs n d (omega arith)

-- the first of a list, and behind them those up to a higher number
pub take-up : {X : Type 0} (xs : List X) (start end : ℕ) → start ≤ end → take start xs ++ take (end - start) (drop start xs) ≡ take end xs
take-up xs start end up =
    let same : start + (end - start) ≡ end = omega arith in
    sym (take-add start (end - start) xs) ∙ ap (λ n. take n xs) same

-- equal lists have equal heads and equal rests
pub heads-are : {A : Type 0} (x y : A) (xs ys : List A) → x ∷ xs ≡ y ∷ ys → x ≡ y
heads-are {A} x y xs ys e = ap (λ (zs : List A). get_or zs 0 x) e

pub tails-are : {A : Type 0} (x y : A) (xs ys : List A) → x ∷ xs ≡ y ∷ ys → xs ≡ ys
tails-are {A} x y xs ys e = ap (λ (zs : List A). drop 1 zs) e

-- a text without an octet is the empty one
pub no-octets : (text : List ℕ) → length text ≡ 0 → text ≡ []
no-octets [] h = refl
no-octets (x ∷ text) h = absurd (let no : ⊥ = omega (arith, h) in no)

-- unequal octets are found unequal
pub bytes-other : (a b : List ℕ) → a ≢ b → bytes_eq a b ≡ false
bytes-other a b apart = false_from_ne_true (bytes_eq a b) (λ e. apart ((bytes_eq-Decides a b).0 e))

-- what holds of each element of two lists, one behind the other, holds of each of either
pub all-left : {X : Type 0} (P : X → Type 0) (xs ys : List X) → All P (xs ++ ys) → All P xs
all-left P [] ys h i d l = absurd (omega arith)
all-left P (x ∷ xs) ys h zero d l = h 0 d (omega arith)
all-left P (x ∷ xs) ys h (suc i) d l = all-left P xs ys (λ j e m. h (suc j) e (omega arith)) i d (omega arith)

pub all-right : {X : Type 0} (P : X → Type 0) (xs ys : List X) → All P (xs ++ ys) → All P ys
all-right P [] ys h = h
all-right P (x ∷ xs) ys h = all-right P xs ys (λ j e m. h (suc j) e (omega arith))

-- two filters in either order
pub filter-swap : {A : Type 0} (p q : A → Bool) (xs : List A) → filter p (filter q xs) ≡ filter q (filter p xs)
filter-swap p q [] = refl
filter-swap {A} p q (x ∷ xs) = elim (q x) as (λ (b : Bool). q x ≡ b → filter p (cond b (x ∷ filter q xs) (filter q xs)) ≡ filter q (cond (p x) (x ∷ filter p xs) (filter p xs))) [
  | true ↦ λ e. elim (p x) as (λ (c : Bool). cond c (x ∷ filter p (filter q xs)) (filter p (filter q xs)) ≡ filter q (cond c (x ∷ filter p xs) (filter p xs))) [
    | true ↦ ap (λ (ys : List A). x ∷ ys) (filter-swap p q xs) ∙ ap (λ (d : Bool). cond d (x ∷ filter q (filter p xs)) (filter q (filter p xs))) (sym e)
    | false ↦ filter-swap p q xs
  ]
  | false ↦ λ e. elim (p x) as (λ (c : Bool). filter p (filter q xs) ≡ filter q (cond c (x ∷ filter p xs) (filter p xs))) [
    | true ↦ filter-swap p q xs ∙ ap (λ (d : Bool). cond d (x ∷ filter q (filter p xs)) (filter q (filter p xs))) (sym e)
    | false ↦ filter-swap p q xs
  ]
] refl

-- both of a test and of what holds is the test
pub and-true : (b : Bool) → (b && true) ≡ b
and-true true = refl
and-true false = refl

-- what is neither less nor greater is equal
pub tied-by : (o : Ordering) → (not (is_lt (ordering_reverse o)) && not (is_lt o)) ≡ is_eq o
tied-by Less = refl
tied-by Equal = refl
tied-by Greater = refl

-- what follows from a value, where there is one
pub on-ok : {A E : Type 0} (P Q : Type 0) (r : Result A E) → (P → Q) → OnOk r P → OnOk r Q
on-ok P Q (Ok x) f p = f p
on-ok P Q (Err e) f p = tt
