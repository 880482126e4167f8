-- The first check that fails: of some checks and then of others, and where all hold.
use Rattle.std.proofs.Common.{◌≡◌, List, [], ◌∷◌, ◌++◌, refl, ap, sym, ◌∙◌, Bool, true, false, if◌then◌else◌, Result, Ok, Err}
use Rattle.im_mtree.specs.Checks.{Check, first_fail}

-- what is found next, where nothing was found before
abbrev pub then_check : {F : Type 0} → Result (Unit {0}) F → Result (Unit {0}) F → Result (Unit {0}) F
then_check (Ok u) next = next
then_check (Err f) next = Err f

fail-step : {F : Type 0} → (holds : Bool) (f : F) (ra rb rab : Result (Unit {0}) F) → rab ≡ then_check ra rb
    → (if holds then rab else Err f) ≡ then_check (if holds then ra else Err f) rb
fail-step true f ra rb rab e = e
fail-step false f ra rb rab e = refl

-- of some checks and then of others
pub fail_both : {F : Type 0} → (a b : List (Check F)) → first_fail (a ++ b) ≡ then_check (first_fail a) (first_fail b)
fail_both [] b = refl
fail_both (check ∷ a) b = fail-step (check.0) (check.1) (first_fail a) (first_fail b) (first_fail (a ++ b)) (fail_both a b)

-- where the first hold, what is found by the others
pub fail_append : {F : Type 0} → (a b : List (Check F)) → first_fail a ≡ Ok tt → first_fail (a ++ b) ≡ first_fail b
fail_append a b e = fail_both a b ∙ ap (λ r. then_check r (first_fail b)) e

-- where one of the first fails, that one
pub fail_first : {F : Type 0} → (a b : List (Check F)) (f : F) → first_fail a ≡ Err f → first_fail (a ++ b) ≡ Err f
fail_first a b f e = fail_both a b ∙ ap (λ r. then_check r (first_fail b)) e

-- where the first hold, and the others too
pub both-hold : {F : Type 0} → (a b : List (Check F)) → first_fail a ≡ Ok tt → first_fail b ≡ Ok tt → first_fail (a ++ b) ≡ Ok tt
both-hold a b p q = fail_append a b p ∙ q

-- one check
pub one-holds : {F : Type 0} → (a : Bool) (f : F) → a ≡ true → first_fail ((a, f) ∷ []) ≡ Ok tt
one-holds a f p = ap (λ x. first_fail ((x, f) ∷ [])) p

-- two checks
pub two-hold : {F : Type 0} → (a b : Bool) (f g : F) → a ≡ true → b ≡ true → first_fail ((a, f) ∷ (b, g) ∷ []) ≡ Ok tt
two-hold a b f g p q =
    ap (λ x. first_fail ((x, f) ∷ (b, g) ∷ [])) p ∙ ap (λ x. first_fail ((x, g) ∷ [])) q

-- three checks
pub three-hold : {F : Type 0} → (a b c : Bool) (f g h : F) → a ≡ true → b ≡ true → c ≡ true → first_fail ((a, f) ∷ (b, g) ∷ (c, h) ∷ []) ≡ Ok tt
three-hold a b c f g h p q r =
    ap (λ x. first_fail ((x, f) ∷ (b, g) ∷ (c, h) ∷ [])) p
    ∙ ap (λ x. first_fail ((x, g) ∷ (c, h) ∷ [])) q
    ∙ ap (λ x. first_fail ((x, h) ∷ [])) r

-- two checks, and others
pub two-then : {F : Type 0} → (a b : Bool) (f g : F) (rest : List (Check F)) → a ≡ true → b ≡ true → first_fail rest ≡ Ok tt → first_fail ((a, f) ∷ (b, g) ∷ rest) ≡ Ok tt
two-then a b f g rest p q h =
    ap (λ x. first_fail ((x, f) ∷ (b, g) ∷ rest)) p ∙ ap (λ x. first_fail ((x, g) ∷ rest)) q ∙ h

-- one of two lists of checks, where it is due
pub when-true : {F : Type 0} → (b : Bool) (x y : List (Check F)) → b ≡ true → first_fail x ≡ Ok tt → first_fail (if b then x else y) ≡ Ok tt
when-true b x y e h = ap (λ t. first_fail (if t then x else y)) e ∙ h

-- and the other, where that is
pub when-false : {F : Type 0} → (b : Bool) (x y : List (Check F)) → b ≡ false → first_fail y ≡ Ok tt → first_fail (if b then x else y) ≡ Ok tt
when-false b x y e h = ap (λ t. first_fail (if t then x else y)) e ∙ h

-- each check holds
abbrev pub AllHold : {F : Type 0} → List (Check F) → Type 0
AllHold [] = Unit {0}
AllHold (check ∷ checks) = (check.0 ≡ true) × AllHold checks

-- then none fails
pub none-fails : {F : Type 0} → (checks : List (Check F)) → AllHold checks → first_fail checks ≡ Ok tt
none-fails [] h = refl
none-fails (check ∷ checks) h = ap (λ b. if b then first_fail checks else Err check.1) h.0 ∙ none-fails checks h.1

-- the first check holds, and so do the others
pub hold-step : {F : Type 0} → (b : Bool) (f : F) (r : Result (Unit {0}) F) → (if b then r else Err f) ≡ Ok tt → (b ≡ true) × (r ≡ Ok tt)
hold-step true f r h = (refl, h)
hold-step false f r h = absurd cc

-- and where none fails, each holds
pub all-hold : {F : Type 0} → (checks : List (Check F)) → first_fail checks ≡ Ok tt → AllHold checks
all-hold [] h = tt
all-hold (check ∷ checks) h =
    let both = hold-step check.0 check.1 (first_fail checks) h in
    (both.0, all-hold checks both.1)

then-step : {F : Type 0} → (ra rb : Result (Unit {0}) F) → then_check ra rb ≡ Ok tt → (ra ≡ Ok tt) × (rb ≡ Ok tt)
then-step (Ok tt) rb h = (refl, h)
then-step (Err f) rb h = absurd cc

-- both lists hold where they do together
pub each-holds : {F : Type 0} → (a b : List (Check F)) → first_fail (a ++ b) ≡ Ok tt → (first_fail a ≡ Ok tt) × (first_fail b ≡ Ok tt)
each-holds a b h = then-step (first_fail a) (first_fail b) (sym (fail_both a b) ∙ h)
