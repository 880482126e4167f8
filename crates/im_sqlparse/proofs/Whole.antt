-- The bound on the turns of a list never ends it.
use Rattle.std.proofs.Common.{◌≡◌, ℕ, zero, suc, ◌<◌, ◌≤◌, Bool, true, false, cond, List, [], ◌∷◌, ◌++◌, Ok, Err, refl, sym, ap, ◌∙◌, subst, append_assoc, arith}
use Rattle.im_sqlparse.specs.declared.kinds.Kind.{Kind}
use Rattle.im_sqlparse.specs.declared.kinds.Kind.TheVariants as k
use Rattle.im_sqlparse.specs.Lex.{same_kind}
use Rattle.im_sqlparse.specs.Input.{Input, Reader, Parsed, and_then, ◌>>=◌, ◌<$>◌, pure, refuse, next, left, sees, past_kind, eat, separated, separated_from}
use Rattle.im_sqlparse.specs.Lists.{IsWholeList}
use Rattle.im_sqlparse.proofs.Shrinks.{Shrunk, Shrinks, next_lt}

-- at the end of the text a rule refuses it
abbrev pub EndsAt : {A : Type 0} → Reader A → Type 0
EndsAt p = (i : Input) → left i ≡ 0 → p i ≡ refuse i

-- what is found is put behind other items
abbrev pub behind : {A : Type 0} → List A → Parsed (List A) → Parsed (List A)
behind front (Ok p) = Ok (front ++ p.0, p.1)
behind front (Err e) = Err e

behind_both : {A : Type 0} (front more : List A) (o : Parsed (List A)) → behind (front ++ more) o ≡ behind front (behind more o)
behind_both front more (Ok p) = ap (λ xs. Ok (xs, p.1)) (append_assoc front more p.0)
behind_both front more (Err e) = refl

-- items that were found before stand in front
found_in_front : {A : Type 0} (mark : Kind) (item : Reader A) (n : ℕ) (found : List A) (i : Input) →
    separated_from mark item n found i ≡ behind found (separated_from mark item n [] i)
unfolding separated_from
found_in_front mark item zero found i = refl
found_in_front mark item (suc n) found i =
    elim (item i) as (λ o. and_then o (λ x. eat mark >>= (λ more. cond more (separated_from mark item n (found ++ x ∷ [])) (pure (found ++ x ∷ []))))
    ≡ behind found (and_then o (λ x. eat mark >>= (λ more. cond more (separated_from mark item n (x ∷ [])) (pure (x ∷ [])))))) [
      | Ok p ↦ elim (sees mark p.1) as (λ b. (cond b (separated_from mark item n (found ++ p.0 ∷ [])) (pure (found ++ p.0 ∷ []))) (past_kind mark p.1)
          ≡ behind found ((cond b (separated_from mark item n (p.0 ∷ [])) (pure (p.0 ∷ []))) (past_kind mark p.1))) [
            | true ↦ found_in_front mark item n (found ++ p.0 ∷ []) (past_kind mark p.1)
                ∙ behind_both found (p.0 ∷ []) (separated_from mark item n [] (past_kind mark p.1))
                ∙ ap (behind found) (sym (found_in_front mark item n (p.0 ∷ []) (past_kind mark p.1)))
            | false ↦ refl
          ]
      | Err e ↦ refl
    ]

after_lt : (mark : Kind) (i : Input) → same_kind k.End mark ≡ false → sees mark i ≡ true → left (past_kind mark i) < left i
unfolding past_kind
after_lt mark i other seen = subst (λ (b : Bool). left (cond b (next i) i) < left i) (sym seen) (next_lt mark i other seen)

-- one turn, with other bounds behind it
turn : {A : Type 0} (mark : Kind) (item : Reader A) (n m : ℕ) (x : A) (i : Input) (b : Bool) →
    (b ≡ true → separated_from mark item n [] i ≡ separated_from mark item m [] i) →
    (cond b (separated_from mark item n (x ∷ [])) (pure (x ∷ []))) i ≡ (cond b (separated_from mark item m (x ∷ [])) (pure (x ∷ []))) i
turn mark item n m x i true same = found_in_front mark item n (x ∷ []) i ∙ ap (behind (x ∷ [])) (same refl) ∙ sym (found_in_front mark item m (x ∷ []) i)
turn mark item n m x i false same = refl

item_turn : {A : Type 0} (mark : Kind) (item : Reader A) (n m : ℕ) (i : Input) (o : Parsed A) → Shrunk o i →
    ((j : Input) → left j ≤ left i → sees mark j ≡ true → separated_from mark item n [] (past_kind mark j) ≡ separated_from mark item m [] (past_kind mark j)) →
    and_then o (λ x. eat mark >>= (λ more. cond more (separated_from mark item n (x ∷ [])) (pure (x ∷ []))))
    ≡ and_then o (λ x. eat mark >>= (λ more. cond more (separated_from mark item m (x ∷ [])) (pure (x ∷ []))))
item_turn mark item n m i (Ok p) s same = turn mark item n m p.0 (past_kind mark p.1) (sees mark p.1) (same p.1 s)
item_turn mark item n m i (Err e) s same = refl

-- any two bounds that are large enough do the same
enough : {A : Type 0} (mark : Kind) (item : Reader A) → Shrinks item → EndsAt item → same_kind k.End mark ≡ false →
    (n m : ℕ) (i : Input) → left i ≤ n → left i ≤ m → separated_from mark item n [] i ≡ separated_from mark item m [] i
unfolding separated_from
enough mark item s ends other zero zero i hn hm = refl
enough mark item s ends other zero (suc m) i hn hm =
    let none : left i ≡ 0 = omega arith in
    sym (ap (λ o. and_then o (λ x. eat mark >>= (λ more. cond more (separated_from mark item m (x ∷ [])) (pure (x ∷ []))))) (ends i none))
enough mark item s ends other (suc n) zero i hn hm =
    let none : left i ≡ 0 = omega arith in
    ap (λ o. and_then o (λ x. eat mark >>= (λ more. cond more (separated_from mark item n (x ∷ [])) (pure (x ∷ []))))) (ends i none)
enough mark item s ends other (suc n) (suc m) i hn hm =
    item_turn mark item n m i (item i) (s i) (λ j h seen.
    let lt = after_lt mark j other seen in
    enough mark item s ends other n m (past_kind mark j) (omega (arith, h, lt, hn)) (omega (arith, h, lt, hm)))

one_before : {A : Type 0} (x : A) (o : Parsed (List A)) → behind (x ∷ []) o ≡ and_then o (λ xs. pure (x ∷ xs))
one_before x (Ok p) = refl
one_before x (Err e) = refl

last_turn : {A : Type 0} (mark : Kind) (item : Reader A) (n : ℕ) (x : A) (i : Input) (b : Bool) →
    (b ≡ true → separated_from mark item n [] i ≡ separated mark item i) →
    (cond b (separated_from mark item n (x ∷ [])) (pure (x ∷ []))) i ≡ (cond b ((λ xs. x ∷ xs) <$> separated mark item) (pure (x ∷ []))) i
last_turn mark item n x i true same = found_in_front mark item n (x ∷ []) i ∙ ap (behind (x ∷ [])) (same refl) ∙ one_before x (separated mark item i)
last_turn mark item n x i false same = refl

last_item : {A : Type 0} (mark : Kind) (item : Reader A) (n : ℕ) (i : Input) (o : Parsed A) → Shrunk o i →
    ((j : Input) → left j ≤ left i → sees mark j ≡ true → separated_from mark item n [] (past_kind mark j) ≡ separated mark item (past_kind mark j)) →
    and_then o (λ x. eat mark >>= (λ more. cond more (separated_from mark item n (x ∷ [])) (pure (x ∷ []))))
    ≡ and_then o (λ x. eat mark >>= (λ more. cond more ((λ xs. x ∷ xs) <$> separated mark item) (pure (x ∷ []))))
last_item mark item n i (Ok p) s same = last_turn mark item n p.0 (past_kind mark p.1) (sees mark p.1) (same p.1 s)
last_item mark item n i (Err e) s same = refl

-- a list of a rule that leaves no more than it was given, and refuses the end, is as long as it is
pub is_whole : {A : Type 0} (mark : Kind) (item : Reader A) → Shrinks item → EndsAt item → same_kind k.End mark ≡ false → IsWholeList mark item
unfolding separated_from
is_whole mark item s ends other i =
    enough mark item s ends other (left i) (suc (left i)) i (omega arith) (omega arith)
    ∙ last_item mark item (left i) i (item i) (s i) (λ j h seen.
    let lt = after_lt mark j other seen in
    enough mark item s ends other (left i) (left (past_kind mark j)) (past_kind mark j) (omega (arith, h, lt)) (omega arith))
