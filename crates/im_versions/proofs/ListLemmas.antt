-- Lists that a test keeps whole or empties, members of lists, and lists in strictly rising order.
use Rattle.std.proofs.Common.{◌≡◌, ◌<◌, ◌≤◌, ℕ, suc, zero, Bool, true, false, cond, List, [], ◌∷◌, ◌++◌, length, get_or, take, drop, refl, arith, ap, subst, ◌∙◌, sym, inl, inr, ◌⊎◌, Some, None, Option}
use Rattle.std.specs.List.{All, AllPairs, IsAmong, filter, insert, last_or}
use Rattle.std.proofs.lemmas.List.{get_or_default}
use Rattle.std.proofs.lemmas.List.Elements.{All-append, All-cons, All-drop, All-filter, All-take, filter_passes}
use Rattle.std.proofs.lemmas.List.Kept.{AllPairs-cons}

-- a filter keeps a list of which each element passes
pub filter-all : {X : Type 0} (p : X → Bool) (xs : List X) → All (λ x. p x ≡ true) xs → filter p xs ≡ xs
filter-all p [] h = refl
filter-all p (x ∷ xs) h =
    ap (λ b. cond b (x ∷ filter p xs) (filter p xs)) (h 0 x (omega arith))
    ∙ ap (λ ys. x ∷ ys) (filter-all p xs (λ i d l. h (suc i) d (omega arith)))

-- a filter empties a list of which no element passes
pub filter-none : {X : Type 0} (p : X → Bool) (xs : List X) → All (λ x. p x ≡ false) xs → filter p xs ≡ []
filter-none p [] h = refl
filter-none p (x ∷ xs) h =
    ap (λ b. cond b (x ∷ filter p xs) (filter p xs)) (h 0 x (omega arith))
    ∙ filter-none p xs (λ i d l. h (suc i) d (omega arith))

-- a member of a list with a first element is that element, or stands behind it
pub among-cons : {X : Type 0} (x : X) (xs : List X) (v : X) → IsAmong (x ∷ xs) v → (v ≡ x) ⊎ IsAmong xs v
among-cons x xs v (zero, rest) = inl rest.1
among-cons x xs v (suc i, rest) = inr (i, (let within : suc i < suc (length xs) = rest.0 in omega arith, rest.1))

-- the first element is a member
pub among-first : {X : Type 0} (x : X) (xs : List X) → IsAmong (x ∷ xs) x
among-first x xs = (0, (omega arith, refl))

-- what stands behind the first element is a member
pub among-rest : {X : Type 0} (x : X) (xs : List X) (v : X) → IsAmong xs v → IsAmong (x ∷ xs) v
among-rest x xs v (i, rest) = (suc i, (let within : i < length xs = rest.0 in omega arith, rest.1))

-- the empty list has none
pub among-nil : {X : Type 0} (v : X) → IsAmong [] v → ⊥
among-nil v m = (let few : m.0 < 0 = m.1.0 in omega (arith, few))

-- members of a list are members of it with another behind it
pub among-left : {X : Type 0} (xs ys : List X) (v : X) → IsAmong xs v → IsAmong (xs ++ ys) v
among-left [] ys v m = absurd (among-nil v m)
among-left {X} (x ∷ xs) ys v m = elim (among-cons x xs v m) [
  | inl same ↦ subst (IsAmong (x ∷ (xs ++ ys))) (sym same) (among-first x (xs ++ ys))
  | inr rest ↦ among-rest x (xs ++ ys) v (among-left xs ys v rest)
]

-- and of it behind another
pub among-right : {X : Type 0} (xs ys : List X) (v : X) → IsAmong ys v → IsAmong (xs ++ ys) v
among-right [] ys v m = m
among-right (x ∷ xs) ys v m = among-rest x (xs ++ ys) v (among-right xs ys v m)

-- what holds of each element holds of a member
pub All-among : {X : Type 0} (P : X → Type 0) (xs : List X) (v : X) → All P xs → IsAmong xs v → P v
All-among P xs v all (i, rest) = subst P (sym rest.1) (all i v rest.0)

-- each element is a member
pub among-itself : {X : Type 0} (xs : List X) → All (IsAmong xs) xs
among-itself xs = λ i d l. (i, (l, get_or_default xs i d (get_or xs i d) l))

-- a member of what a filter keeps passes, and is a member of the list
pub among-filter : {X : Type 0} (p : X → Bool) (xs : List X) (v : X) → IsAmong (filter p xs) v → (p v ≡ true) × IsAmong xs v
among-filter {X} p xs v is = (
  All-among (λ (x : X). p x ≡ true) (filter p xs) v (filter_passes p xs) is,
  All-among (IsAmong xs) (filter p xs) v (All-filter p (IsAmong xs) xs (among-itself xs)) is,
)

-- the last of a list is one of it, or what stands where it has none
pub last-among-or : {X : Type 0} (o : Option X) (xs : List X) (v : X) → last_or o xs ≡ Some v → (o ≡ Some v) ⊎ IsAmong xs v
last-among-or o [] v e = inl e
last-among-or {X} o (x ∷ xs) v e = elim (last-among-or (Some x) xs v e) [
  | inl same ↦ (
      let first : x ≡ v = cc in
      inr (subst (λ (z : X). IsAmong (x ∷ xs) z) first (among-first x xs)))
  | inr rest ↦ inr (among-rest x xs v rest)
]

-- the last of a list is one of it
pub last-among : {X : Type 0} (xs : List X) (v : X) → last_or None xs ≡ Some v → IsAmong xs v
last-among xs v e = elim (last-among-or None xs v e) [
  | inl none ↦ (cc)
  | inr is ↦ is
]

-- members stay members as another is inserted
pub among-insert : {X : Type 0} (xs : List X) (i : ℕ) (x v : X) → IsAmong xs v → IsAmong (insert xs i x) v
among-insert xs zero x v is = among-rest x xs v is
among-insert [] (suc i) x v is = absurd (let within : is.0 < 0 = is.1.0 in omega arith)
among-insert {X} (y ∷ ys) (suc i) x v is = elim (among-cons y ys v is) [
  | inl e ↦ subst (λ (z : X). IsAmong (y ∷ insert ys i x) z) (sym e) (among-first y (insert ys i x))
  | inr rest ↦ among-rest y (insert ys i x) v (among-insert ys i x v rest)
]

-- what holds of each element, and of one that is inserted, holds of each then
pub All-insert : {X : Type 0} (P : X → Type 0) (xs : List X) (i : ℕ) (x : X) → All P xs → P x → All P (insert xs i x)
All-insert P xs i x all here =
    All-append P (take i xs) (x ∷ drop i xs) (All-take P i xs all) (All-cons P x (drop i xs) here (All-drop P i xs all))

-- pairs stay in order as one is inserted that stands in order behind those before and in front of those after
pub AllPairs-insert : {X : Type 0} (R : X → X → Type 0) (xs : List X) (i : ℕ) (x : X) → i ≤ length xs → AllPairs R xs → ((k : ℕ) (d : X) → k < i → R (get_or xs k d) x) → ((k : ℕ) (d : X) → i ≤ k → k < length xs → R x (get_or xs k d)) → AllPairs R (insert xs i x)
AllPairs-insert R xs zero x within rising before after = AllPairs-cons R x xs (λ k d l. after k d (omega arith) l) rising
AllPairs-insert R [] (suc i) x within rising before after = absurd (omega arith)
AllPairs-insert R (y ∷ ys) (suc i) x within rising before after =
    AllPairs-cons R y (insert ys i x)
    (All-insert (R y) ys i x (λ k d l. rising 0 (suc k) d (omega arith) (omega arith)) (before 0 y (omega arith)))
    (AllPairs-insert R ys i x (omega arith)
    (λ j k d l m. rising (suc j) (suc k) d (omega arith) (omega arith))
    (λ k d l. before (suc k) d (omega arith))
    (λ k d l m. after (suc k) d (omega arith) (omega arith)))

-- of two lists in strictly rising order, with the same members, the members behind the first are the same
among-behind : {X : Type 0} (R : X → X → Type 0) → ((x y : X) → R x y → R y x → ⊥) → (x : X) (xs ys : List X) → AllPairs R (x ∷ xs) → ((v : X) → IsAmong (x ∷ xs) v → IsAmong (x ∷ ys) v) → (v : X) → IsAmong xs v → IsAmong ys v
among-behind R strict x xs ys rising same v is = elim (among-cons x ys v (same v (among-rest x xs v is))) [
  | inl e ↦ (
      let above : R x v = All-among (R x) xs v (λ i d l. rising 0 (suc i) d (omega arith) (omega arith)) is in
      absurd (strict v v (subst (λ z. R z v) (sym e) above) (subst (λ z. R z v) (sym e) above)))
  | inr rest ↦ rest
]

-- two lists in strictly rising order with the same members are equal
pub rising-unique : {X : Type 0} (R : X → X → Type 0) → ((x y : X) → R x y → R y x → ⊥) → (xs ys : List X) → AllPairs R xs → AllPairs R ys → ((v : X) → IsAmong xs v → IsAmong ys v) → ((v : X) → IsAmong ys v → IsAmong xs v) → xs ≡ ys
rising-unique R strict [] [] up vp to fro = refl
rising-unique R strict [] (y ∷ ys) up vp to fro =
    let none : IsAmong [] y = fro y (among-first y ys) in
    absurd (let within : none.0 < 0 = none.1.0 in omega arith)
rising-unique R strict (x ∷ xs) [] up vp to fro =
    let none : IsAmong [] x = to x (among-first x xs) in
    absurd (let within : none.0 < 0 = none.1.0 in omega arith)
rising-unique {X} R strict (x ∷ xs) (y ∷ ys) up vp to fro =
    let first : x ≡ y = elim (among-cons y ys x (to x (among-first x xs))) [
      | inl e ↦ e
      | inr behind ↦ elim (among-cons x xs y (fro y (among-first y ys))) [
        | inl e ↦ sym e
        | inr after ↦ (
            let below : R x y = All-among (R x) xs y (λ i d l. up 0 (suc i) d (omega arith) (omega arith)) after in
            let above : R y x = All-among (R y) ys x (λ i d l. vp 0 (suc i) d (omega arith) (omega arith)) behind in
            absurd (strict x y below above))
      ]
    ] in
    let Q : X → Type 0 = λ z. AllPairs R (z ∷ ys) in
    let to' : (v : X) → IsAmong (x ∷ xs) v → IsAmong (x ∷ ys) v = λ v m. subst (λ (z : X). IsAmong (z ∷ ys) v) (sym first) (to v m) in
    let fro' : (v : X) → IsAmong (x ∷ ys) v → IsAmong (x ∷ xs) v = λ v m. fro v (subst (λ (z : X). IsAmong (z ∷ ys) v) first m) in
    let rest : xs ≡ ys = rising-unique R strict xs ys
    (λ i j d l m. up (suc i) (suc j) d (omega arith) (omega arith))
    (λ i j d l m. vp (suc i) (suc j) d (omega arith) (omega arith))
    (among-behind R strict x xs ys up to')
    (among-behind R strict x ys xs (subst Q (sym first) vp) fro') in
    ap (λ z. z ∷ xs) first ∙ ap (λ zs. y ∷ zs) rest
