-- A list that rises by an order of places, with facts more: it rises still, what was found in it is still found, and a new
-- fact is found where none was.
use Rattle.std.proofs.Common.{◌≡◌, Bool, true, false, cond, if◌then◌else◌, List, [], ◌∷◌, ◌++◌, refl, ap, subst, sym, ◌∙◌, Option, Some, None}
use Rattle.std.specs.List.{find, AllByRecursion}
use Rattle.std.specs.Prelude.{IfSome}
use Rattle.im_facts.specs.Facts.{with_fact, with_facts}

-- an order of facts by their places, and which facts have one place
pub record IsOrder (X : Type 0) (before beside : X → X → Bool) : Type 0 where
  pub on : (a b c : X) → before a b ≡ true → before b c ≡ true → before a c ≡ true
  pub apart : (a b : X) → before a b ≡ true → beside a b ≡ true → ⊥
  pub after : (a b : X) → before a b ≡ false → beside a b ≡ false → before b a ≡ true
  pub back : (a b : X) → beside a b ≡ true → beside b a ≡ true
  pub along : (a b c : X) → beside a b ≡ true → beside b c ≡ true → beside a c ≡ true
  pub itself : (a : X) → beside a a ≡ true

-- each fact is before all that stand behind it
abbrev pub Rises : (X : Type 0) → (X → X → Bool) → List X → Type 0
Rises X before [] = Unit {0}
Rises X before (x ∷ xs) = AllByRecursion (λ y. before x y ≡ true) xs × Rises X before xs

-- what holds of each is what follows of each
pub each-weaker : {X : Type 0} (P Q : X → Type 0) → ((x : X) → P x → Q x) → (xs : List X) → AllByRecursion P xs → AllByRecursion Q xs
each-weaker P Q f [] all = tt
each-weaker P Q f (x ∷ xs) all = (f x all.0, each-weaker P Q f xs all.1)

-- and of one more at the end
pub each-more : {X : Type 0} (P : X → Type 0) (xs : List X) (last : X) → AllByRecursion P xs → P last → AllByRecursion P (xs ++ last ∷ [])
each-more P [] last all p = (p, tt)
each-more P (x ∷ xs) last all p = (all.0, each-more P xs last all.1 p)

put-all-step : {X : Type 0} (P : X → Type 0) (b c : Bool) (k h : X) (ks more : List X) → AllByRecursion P (k ∷ ks) → AllByRecursion P more → P h
    → AllByRecursion P (if b then k ∷ more else (if c then k ∷ ks else h ∷ k ∷ ks))
put-all-step P true c k h ks more old new p = (old.0, new)
put-all-step P false true k h ks more old new p = old
put-all-step P false false k h ks more old new p = (p, old)

-- what holds of each and of one more
pub put-all : {X : Type 0} (before beside : X → X → Bool) (P : X → Type 0) (xs : List X) (h : X) → AllByRecursion P xs → P h → AllByRecursion P (with_fact before beside xs h)
put-all before beside P [] h old p = (p, tt)
put-all before beside P (k ∷ ks) h old p =
    put-all-step P (before k h) (beside k h) k h ks (with_fact before beside ks h) old (put-all before beside P ks h old.1 p) p

-- and of several more
pub puts-all : {X : Type 0} (before beside : X → X → Bool) (P : X → Type 0) (xs hs : List X) → AllByRecursion P xs → AllByRecursion P hs → AllByRecursion P (with_facts before beside xs hs)
puts-all before beside P xs [] old new = old
puts-all before beside P xs (h ∷ hs) old new = puts-all before beside P (with_fact before beside xs h) hs (put-all before beside P xs h old new.0) new.1

module _ (X : Type 0) (before beside : X → X → Bool) (order : IsOrder X before beside) where
  rise-step : (b c : Bool) (k h : X) (ks more : List X) → before k h ≡ b → beside k h ≡ c → Rises X before (k ∷ ks) → (before k h ≡ true → AllByRecursion (λ y. before k y ≡ true) more) → Rises X before more
      → Rises X before (if b then k ∷ more else (if c then k ∷ ks else h ∷ k ∷ ks))
  rise-step true c k h ks more p q old above new = (above p, new)
  rise-step false true k h ks more p q old above new = old
  rise-step false false k h ks more p q old above new =
      let first : before h k ≡ true = order.after k h p q in
      ((first, each-weaker (λ y. before k y ≡ true) (λ y. before h y ≡ true) (λ y e. order.on h k y first e) ks old.0), old)

  -- a list that rises does so with one more
  pub put-rises : (xs : List X) (h : X) → Rises X before xs → Rises X before (with_fact before beside xs h)
  put-rises [] h old = (tt, tt)
  put-rises (k ∷ ks) h old =
      rise-step (before k h) (beside k h) k h ks (with_fact before beside ks h) refl refl old
      (λ e. put-all before beside (λ y. before k y ≡ true) ks h old.0 e) (put-rises ks h old.1)

  -- the fact of this one's place
  pub at : X → List X → Option X
  at h xs = find (λ k. beside k h) xs

  none-step : (c : Bool) (y h : X) (r : Option X) → beside y h ≡ c → before h y ≡ true → r ≡ None → cond c (Some y) r ≡ None
  none-step true y h r e p q = absurd (order.apart h y p (order.back y h e))
  none-step false y h r e p q = q

  -- none is found behind a place
  none-behind : (h : X) (ys : List X) → AllByRecursion (λ y. before h y ≡ true) ys → find (λ k. beside k h) ys ≡ None
  none-behind h [] all = refl
  none-behind h (y ∷ ys) all = none-step (beside y h) y h (find (λ k. beside k h) ys) refl all.0 (none-behind h ys all.1)

  known-step : (b c : Bool) (k h x : X) (ks more : List X) → before k h ≡ b → beside k h ≡ c → Rises X before (k ∷ ks) → cond c (Some k) (find (λ k. beside k h) ks) ≡ Some x
      → (find (λ k. beside k h) ks ≡ Some x → more ≡ ks) → (if b then k ∷ more else (if c then k ∷ ks else h ∷ k ∷ ks)) ≡ k ∷ ks
  known-step true true k h x ks more p q old is next = absurd (order.apart k h p q)
  known-step true false k h x ks more p q old is next = ap (λ (l : List X). k ∷ l) (next is)
  known-step false true k h x ks more p q old is next = refl
  known-step false false k h x ks more p q old is next =
      let first : before h k ≡ true = order.after k h p q in
      let none : find (λ k. beside k h) ks ≡ None =
      none-behind h ks (each-weaker (λ y. before k y ≡ true) (λ y. before h y ≡ true) (λ y e. order.on h k y first e) ks old.0) in
      absurd cc

  -- a list that has a fact of this place stays
  pub put-known : (xs : List X) (h x : X) → Rises X before xs → find (λ k. beside k h) xs ≡ Some x → with_fact before beside xs h ≡ xs
  put-known [] h x old is = absurd cc
  put-known (k ∷ ks) h x old is =
      known-step (before k h) (beside k h) k h x ks (with_fact before beside ks h) refl refl old is (λ e. put-known ks h x old.1 e)

  new-step : (b c : Bool) (k h : X) (ks more : List X) → before k h ≡ b → beside k h ≡ c → cond c (Some k) (find (λ k. beside k h) ks) ≡ None
      → (find (λ k. beside k h) ks ≡ None → find (λ k. beside k h) more ≡ Some h)
      → find (λ k. beside k h) (if b then k ∷ more else (if c then k ∷ ks else h ∷ k ∷ ks)) ≡ Some h
  new-step b true k h ks more p q is next = absurd cc
  new-step true false k h ks more p q is next =
      ap (λ (t : Bool). cond t (Some k) (find (λ k. beside k h) more)) q ∙ next is
  new-step false false k h ks more p q is next =
      ap (λ (t : Bool). cond t (Some h) (find (λ k. beside k h) (k ∷ ks))) (order.itself h)

  -- a fact of a new place is found there
  pub put-new : (xs : List X) (h : X) → find (λ k. beside k h) xs ≡ None → find (λ k. beside k h) (with_fact before beside xs h) ≡ Some h
  put-new [] h is = ap (λ (t : Bool). cond t (Some h) None) (order.itself h)
  put-new (k ∷ ks) h is =
      new-step (before k h) (beside k h) k h ks (with_fact before beside ks h) refl refl is (put-new ks h)

  other-step : (b c : Bool) (k h g : X) (ks more : List X) → beside h g ≡ false → find (λ k. beside k g) more ≡ find (λ k. beside k g) ks
      → find (λ k. beside k g) (if b then k ∷ more else (if c then k ∷ ks else h ∷ k ∷ ks)) ≡ find (λ k. beside k g) (k ∷ ks)
  other-step true c k h g ks more e next = ap (λ (r : Option X). cond (beside k g) (Some k) r) next
  other-step false true k h g ks more e next = refl
  other-step false false k h g ks more e next = ap (λ (t : Bool). cond t (Some h) (find (λ k. beside k g) (k ∷ ks))) e

  -- what is found of other places stays
  pub put-other : (xs : List X) (h g : X) → beside h g ≡ false → find (λ k. beside k g) (with_fact before beside xs h) ≡ find (λ k. beside k g) xs
  put-other [] h g e = ap (λ (t : Bool). cond t (Some h) None) e
  put-other (k ∷ ks) h g e = other-step (before k h) (beside k h) k h g ks (with_fact before beside ks h) e (put-other ks h g e)

  level-step : (b c : Bool) (k : X) (r s : Option X) → b ≡ c → r ≡ s → cond b (Some k) r ≡ cond c (Some k) s
  level-step b c k r s e f = ap (λ (t : Bool). cond t (Some k) r) e ∙ ap (λ (t : Option X). cond c (Some k) t) f

  same-test : (b c : Bool) → (b ≡ true → c ≡ true) → (c ≡ true → b ≡ true) → b ≡ c
  same-test true true f g = refl
  same-test true false f g = sym (f refl)
  same-test false true f g = g refl
  same-test false false f g = refl

  -- of one place one fact is found
  pub find-level : (xs : List X) (h g : X) → beside h g ≡ true → find (λ k. beside k h) xs ≡ find (λ k. beside k g) xs
  find-level [] h g e = refl
  find-level (k ∷ ks) h g e =
      level-step (beside k h) (beside k g) k (find (λ k. beside k h) ks) (find (λ k. beside k g) ks)
      (same-test (beside k h) (beside k g) (λ p. order.along k h g p e) (λ p. order.along k g h p (order.back h g e))) (find-level ks h g e)

  -- what was found is still found
  pub put-found : (xs : List X) (h g x : X) → Rises X before xs → find (λ k. beside k g) xs ≡ Some x → find (λ k. beside k g) (with_fact before beside xs h) ≡ Some x
  put-found xs h g x old is = go (beside h g) refl
    where
      go : (b : Bool) → beside h g ≡ b → find (λ k. beside k g) (with_fact before beside xs h) ≡ Some x
      go true e = ap (λ (l : List X). find (λ k. beside k g) l) (put-known xs h x old (find-level xs h g e ∙ is)) ∙ is
      go false e = put-other xs h g e ∙ is

  -- a fact that is unlike no kept one
  abbrev pub FitsIn : List X → X → Type 0
  FitsIn xs h = IfSome (find (λ k. beside k h) xs) (λ k. k ≡ h)

  -- it is found behind it
  pub put-fits : (xs : List X) (h : X) → Rises X before xs → FitsIn xs h → find (λ k. beside k h) (with_fact before beside xs h) ≡ Some h
  put-fits xs h old fits = go (find (λ k. beside k h) xs) refl fits
    where
      go : (r : Option X) → find (λ k. beside k h) xs ≡ r → IfSome r (λ k. k ≡ h) → find (λ k. beside k h) (with_fact before beside xs h) ≡ Some h
      go None e f = put-new xs h e
      go (Some k) e f = put-found xs h h k old e ∙ ap Some f

  -- and one that fitted in before does so with it, where the two of them are one or apart
  pub still-fits : (xs : List X) (h g : X) → Rises X before xs → FitsIn xs h → FitsIn xs g → (beside h g ≡ true → g ≡ h) → FitsIn (with_fact before beside xs h) g
  still-fits xs h g old fits others one = go (beside h g) refl
    where
      go : (b : Bool) → beside h g ≡ b → FitsIn (with_fact before beside xs h) g
      go true e =
          subst (λ (r : Option X). IfSome r (λ k. k ≡ g))
          (sym (sym (find-level (with_fact before beside xs h) h g e) ∙ put-fits xs h old fits)) (sym (one e))
      go false e = subst (λ (r : Option X). IfSome r (λ k. k ≡ g)) (sym (put-other xs h g e)) others

  -- facts of which no two of one place are unlike
  abbrev pub AreOne : List X → Type 0
  AreOne [] = Unit {0}
  AreOne (h ∷ hs) = AllByRecursion (λ g. beside h g ≡ true → g ≡ h) hs × AreOne hs

  -- several more: the list rises still
  pub puts-rise : (xs hs : List X) → Rises X before xs → Rises X before (with_facts before beside xs hs)
  puts-rise xs [] old = old
  puts-rise xs (h ∷ hs) old = puts-rise (with_fact before beside xs h) hs (put-rises xs h old)

  -- what was found is still found
  pub puts-found : (xs hs : List X) (g x : X) → Rises X before xs → find (λ k. beside k g) xs ≡ Some x → find (λ k. beside k g) (with_facts before beside xs hs) ≡ Some x
  puts-found xs [] g x old is = is
  puts-found xs (h ∷ hs) g x old is = puts-found (with_fact before beside xs h) hs g x (put-rises xs h old) (put-found xs h g x old is)

  all-fit : (xs hs : List X) (h : X) → Rises X before xs → FitsIn xs h → AllByRecursion (FitsIn xs) hs → AllByRecursion (λ g. beside h g ≡ true → g ≡ h) hs → AllByRecursion (FitsIn (with_fact before beside xs h)) hs
  all-fit xs [] h old fits others one = tt
  all-fit xs (g ∷ hs) h old fits others one = (still-fits xs h g old fits others.0 one.0, all-fit xs hs h old fits others.1 one.1)

  -- each of several that fit in is found behind them
  pub puts-fit : (xs hs : List X) → Rises X before xs → AreOne hs → AllByRecursion (FitsIn xs) hs → AllByRecursion (λ g. find (λ k. beside k g) (with_facts before beside xs hs) ≡ Some g) hs
  puts-fit xs [] old one fit = tt
  puts-fit xs (h ∷ hs) old one fit =
      let rises : Rises X before (with_fact before beside xs h) = put-rises xs h old in (
        puts-found (with_fact before beside xs h) hs h h rises (put-fits xs h old fit.0),
        puts-fit (with_fact before beside xs h) hs rises one.1 (all-fit xs hs h old fit.0 fit.1 one.0),
      )

  -- where each of several is kept, the list stays with them
  pub puts-known : (xs hs : List X) → Rises X before xs → AllByRecursion (λ h. find (λ k. beside k h) xs ≡ Some h) hs → with_facts before beside xs hs ≡ xs
  puts-known xs [] old known = refl
  puts-known xs (h ∷ hs) old known =
      ap (λ (l : List X). with_facts before beside l hs) (put-known xs h h old known.0) ∙ puts-known xs hs old known.1
