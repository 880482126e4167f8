-- How often numbers stand in lists: rising ones that are those of a range, each as often, are that range; and a range and pairs that are cut off.
use Rattle.std.proofs.Common.{◌≡◌, ◌≢◌, ◌⊎◌, inl, inr, ℕ, zero, suc, ◌+◌, ◌<◌, ◌≤◌, ◌==◌, ◌++◌, List, [], ◌∷◌, length, map, filter, Bool, true, false, cond, if◌then◌else◌, refl, ap, ap₂, sym, ◌∙◌, subst, arith, get_or}
use Rattle.std.specs.Prelude.{All, AllPairs}
use Rattle.std.specs.List.{range_with_len}
use Rattle.std.proofs.lemmas.Bool.{cases_lt}
use Rattle.std.proofs.lemmas.Bool.Decides.{eqb_tells}
use Rattle.im_model.specs.Counts.{times}

-- a number stands in a list that begins with it
times_here : (n : ℕ) (xs : List ℕ) → times n (n ∷ xs) ≡ suc (times n xs)
times_here n xs = go (eqb_tells n n)
  where
    go : (((n == n) ≡ true) × (n ≡ n)) ⊎ (((n == n) ≡ false) × (n ≢ n)) → times n (n ∷ xs) ≡ suc (times n xs)
    go (inl e) =
        let here : times n (n ∷ xs) ≡ 1 + times n xs = ap (λ (b : Bool). cond b 1 0 + times n xs) e.0 in
        omega (arith, here)
    go (inr e) = absurd (e.1 refl)

-- and not where all are above it
pub times_below : (n : ℕ) (xs : List ℕ) → All (λ x. n < x) xs → times n xs ≡ 0
times_below n [] all = refl
times_below n (x ∷ xs) all = go (eqb_tells x n) (times_below n xs (λ i d lt. all (suc i) d (omega (arith, lt))))
  where
    go : (((x == n) ≡ true) × (x ≡ n)) ⊎ (((x == n) ≡ false) × (x ≢ n)) → times n xs ≡ 0 → times n (x ∷ xs) ≡ 0
    go (inl e) rest = absurd (let lt : n < x = all 0 x (omega arith) in omega (arith, lt, e.1))
    go (inr e) rest =
        let here : times n (x ∷ xs) ≡ 0 + times n xs = ap (λ (b : Bool). cond b 1 0 + times n xs) e.0 in
        omega (arith, here, rest)

range_above : (a k count : ℕ) → k < a → All (λ x. k < x) (range_with_len a count)
range_above a k zero lt = λ i d less. absurd (omega arith)
range_above a k (suc count) lt = cons (range_above (a + 1) k count (omega arith))
  where
    cons : All (λ x. k < x) (range_with_len (a + 1) count) → All (λ x. k < x) (a ∷ range_with_len (a + 1) count)
    cons rest zero d less = lt
    cons rest (suc i) d less = rest i d (omega arith)

-- without the first of both
times_rest : (x : ℕ) (xs ys : List ℕ) → ((k : ℕ) → times k (x ∷ xs) ≡ times k (x ∷ ys)) → (k : ℕ) → times k xs ≡ times k ys
times_rest x xs ys same k = omega (arith, same k)

rest_rises : (x : ℕ) (xs : List ℕ) → AllPairs (λ a b. a < b) (x ∷ xs) → AllPairs (λ a b. a < b) xs
rest_rises x xs rises = λ i j d lt less. rises (suc i) (suc j) d (omega (arith, lt)) (omega (arith, less))

first_below : (x : ℕ) (xs : List ℕ) → AllPairs (λ a b. a < b) (x ∷ xs) → All (λ y. x < y) xs
first_below x xs rises = λ i d lt. rises 0 (suc i) d (omega arith) (omega (arith, lt))

-- the first is the range's first: were it less, it would stand in the list alone, and were it more, the range's first would
not_below : (x : ℕ) (xs : List ℕ) (a count : ℕ) → ((k : ℕ) → times k (x ∷ xs) ≡ times k (range_with_len a count)) → x < a → ⊥
not_below x xs a count same lt =
    let e : suc (times x xs) ≡ 0 = sym (times_here x xs) ∙ same x ∙ times_below x (range_with_len a count) (range_above a x count lt) in omega (arith, e)

all_above : (a x : ℕ) (xs : List ℕ) → AllPairs (λ y z. y < z) (x ∷ xs) → a < x → All (λ y. a < y) (x ∷ xs)
all_above a x xs rises lt zero d less = lt
all_above a x xs rises lt (suc i) d less = let b = first_below x xs rises i d (omega (arith, less)) in omega (arith, lt, b)

not_above : (x : ℕ) (xs : List ℕ) (a count : ℕ) → AllPairs (λ y z. y < z) (x ∷ xs) → ((k : ℕ) → times k (x ∷ xs) ≡ times k (range_with_len a (suc count))) → a < x → ⊥
not_above x xs a count rises same lt =
    let none : times a (x ∷ xs) ≡ 0 = times_below a (x ∷ xs) (all_above a x xs rises lt) in
    let e : 0 ≡ suc (times a (range_with_len (a + 1) count)) = sym none ∙ same a ∙ times_here a (range_with_len (a + 1) count) in omega (arith, e)

first_same : (x : ℕ) (xs : List ℕ) (a count : ℕ) → AllPairs (λ y z. y < z) (x ∷ xs) → ((k : ℕ) → times k (x ∷ xs) ≡ times k (range_with_len a (suc count))) → x ≡ a
first_same x xs a count rises same = go (cases_lt x a)
  where
    up : (a < x) ⊎ (x ≤ a) → a ≤ x → x ≡ a
    up (inl lt) le = absurd (not_above x xs a count rises same lt)
    up (inr ge) le = omega (arith, ge, le)

    go : (x < a) ⊎ (a ≤ x) → x ≡ a
    go (inl lt) = absurd (not_below x xs a (suc count) same lt)
    go (inr le) = up (cases_lt a x) le

pub rising_range : (xs : List ℕ) (a count : ℕ) → AllPairs (λ x y. x < y) xs → ((k : ℕ) → times k xs ≡ times k (range_with_len a count)) → xs ≡ range_with_len a count
rising_range [] a zero rises same = refl
rising_range [] a (suc count) rises same = absurd (let e : 0 ≡ suc (times a (range_with_len (a + 1) count)) = same a ∙ times_here a (range_with_len (a + 1) count) in omega (arith, e))
rising_range (x ∷ xs) a zero rises same = absurd (let e : suc (times x xs) ≡ 0 = sym (times_here x xs) ∙ same x in omega (arith, e))
rising_range (x ∷ xs) a (suc count) rises same =
    let moved : x ≡ a → (k : ℕ) → times k (x ∷ xs) ≡ times k (x ∷ range_with_len (a + 1) count) = λ e k. same k ∙ ap (λ (n : ℕ). times k (n ∷ range_with_len (a + 1) count)) (sym e) in
    let e : x ≡ a = first_same x xs a count rises same in
    ap₂ (λ (n : ℕ) (ns : List ℕ). n ∷ ns) e (rising_range xs (a + 1) count (rest_rises x xs rises) (times_rest x xs (range_with_len (a + 1) count) (moved e)))

-- one number more
pub range-next : (a n : ℕ) → range_with_len a (suc n) ≡ range_with_len a n ++ (a + n) ∷ []
range-next a zero = let same : a ≡ a + 0 = omega arith in ap (λ k. k ∷ []) same
range-next a (suc n) =
    let same : a + 1 + n ≡ a + suc n = omega arith in
    ap (λ (xs : List ℕ). a ∷ xs) (range-next (a + 1) n ∙ ap (λ k. range_with_len (a + 1) n ++ k ∷ []) same)

-- what holds of each number of a list holds of each of one in which they stand as often
times_some : (n : ℕ) (xs : List ℕ) (i d : ℕ) → i < length xs → get_or xs i d ≡ n → 1 ≤ times n xs
times_some n [] i d lt e = absurd (omega (arith, lt))
times_some n (x ∷ xs) zero d lt e = let here : times n (n ∷ xs) ≡ suc (times n xs) = times_here n xs in subst (λ (y : ℕ). 1 ≤ times n (y ∷ xs)) (sym e) (omega (arith, here))
times_some n (x ∷ xs) (suc i) d lt e = let more = times_some n xs i d (omega (arith, lt)) e in omega (arith, more)

times_found : (P : ℕ → Type 0) (n : ℕ) (xs : List ℕ) → 1 ≤ times n xs → All P xs → P n
times_found P n [] some all = absurd (omega (arith, some))
times_found P n (x ∷ xs) some all = go (eqb_tells x n) (λ more. times_found P n xs more (λ i d lt. all (suc i) d (omega (arith, lt))))
  where
    go : (((x == n) ≡ true) × (x ≡ n)) ⊎ (((x == n) ≡ false) × (x ≢ n)) → (1 ≤ times n xs → P n) → P n
    go (inl e) rest = subst P e.1 (all 0 x (omega arith))
    go (inr e) rest = rest (let none : times n (x ∷ xs) ≡ 0 + times n xs = ap (λ (b : Bool). cond b 1 0 + times n xs) e.0 in omega (arith, none, some))

pub times_all_of : (P : ℕ → Type 0) (xs ys : List ℕ) → ((k : ℕ) → times k xs ≡ times k ys) → All P ys → All P xs
times_all_of P xs ys same all i d lt =
    let n : ℕ = get_or xs i d in
    let some : 1 ≤ times n xs = times_some n xs i d lt refl in
    times_found P n ys (omega (arith, some, same n)) all

-- a list without a number that stands in it
times_without : (n : ℕ) (ys : List ℕ) → 1 ≤ times n ys → (left : List ℕ) × (length ys ≡ length left + 1) × ((k : ℕ) → times k ys ≡ times k (n ∷ left))
times_without n [] some = absurd (omega (arith, some))
times_without n (y ∷ ys) some = go (eqb_tells y n) (λ more. times_without n ys more)
  where
    go : (((y == n) ≡ true) × (y ≡ n)) ⊎ (((y == n) ≡ false) × (y ≢ n)) → (1 ≤ times n ys → (left : List ℕ) × (length ys ≡ length left + 1) × ((k : ℕ) → times k ys ≡ times k (n ∷ left)))
        → (left : List ℕ) × (length (y ∷ ys) ≡ length left + 1) × ((k : ℕ) → times k (y ∷ ys) ≡ times k (n ∷ left))
    go (inl e) rest = (ys, omega arith, λ k. ap (λ (m : ℕ). times k (m ∷ ys)) e.1)
    go (inr e) rest =
        let more = rest (let none : times n (y ∷ ys) ≡ 0 + times n ys = ap (λ (b : Bool). cond b 1 0 + times n ys) e.0 in omega (arith, none, some)) in
        (y ∷ more.0, omega (arith, more.1), λ k. (let f = more.2 k in omega (arith, f)))

-- and they are as many
pub times_length : (xs ys : List ℕ) → ((k : ℕ) → times k xs ≡ times k ys) → length xs ≡ length ys
times_length [] [] same = refl
times_length [] (y ∷ ys) same = absurd (let e : 0 ≡ suc (times y ys) = same y ∙ times_here y ys in omega (arith, e))
times_length (x ∷ xs) ys same =
    let some : 1 ≤ times x ys = (let e : suc (times x xs) ≡ times x ys = sym (times_here x xs) ∙ same x in omega (arith, e)) in
    let left = times_without x ys some in
    let rest : length xs ≡ length left.0 = times_length xs left.0 (λ k. (let e = same k in let f = left.2 k in omega (arith, e, f))) in
    omega (arith, rest, left.1)

-- nor in one of which all are below it
pub times_above : (n : ℕ) (xs : List ℕ) → All (λ x. x < n) xs → times n xs ≡ 0
times_above n [] all = refl
times_above n (x ∷ xs) all = go (eqb_tells x n) (times_above n xs (λ i d lt. all (suc i) d (omega (arith, lt))))
  where
    go : (((x == n) ≡ true) × (x ≡ n)) ⊎ (((x == n) ≡ false) × (x ≢ n)) → times n xs ≡ 0 → times n (x ∷ xs) ≡ 0
    go (inl e) rest = absurd (let lt : x < n = all 0 x (omega arith) in omega (arith, lt, e.1))
    go (inr e) rest =
        let here : times n (x ∷ xs) ≡ 0 + times n xs = ap (λ (b : Bool). cond b 1 0 + times n xs) e.0 in
        omega (arith, here, rest)

range_within : (a k count : ℕ) → a + count ≤ k → All (λ x. x < k) (range_with_len a count)
range_within a k zero le = λ i d less. absurd (omega arith)
range_within a k (suc count) le = cons (range_within (a + 1) k count (omega (arith, le)))
  where
    cons : All (λ x. x < k) (range_with_len (a + 1) count) → All (λ x. x < k) (a ∷ range_with_len (a + 1) count)
    cons rest zero d less = omega (arith, le)
    cons rest (suc i) d less = rest i d (omega (arith, less))

-- a number below a range's first, or behind its last
pub range_none : (k a count : ℕ) → (k < a) ⊎ (a + count ≤ k) → times k (range_with_len a count) ≡ 0
range_none k a count (inl lt) = times_below k (range_with_len a count) (range_above a k count lt)
range_none k a count (inr le) = times_above k (range_with_len a count) (range_within a k count le)

-- a number before the end of a range stands in a longer one as often
pub range_short : (k a n m : ℕ) → n ≤ m → k < a + n → times k (range_with_len a m) ≡ times k (range_with_len a n)
range_short k a zero m le lt = times_below k (range_with_len a m) (range_above a k m (omega (arith, lt)))
range_short k a (suc n) zero le lt = absurd (omega (arith, le))
range_short k a (suc n) (suc m) le lt = let rest = range_short k (a + 1) n m (omega (arith, le)) (omega (arith, lt)) in omega (arith, rest)

-- the numbers of pairs
abbrev pub numbers_of : List (ℕ × ℕ) → List ℕ
numbers_of ps = map (λ p. p.0) ps

-- of pairs those whose number passes
abbrev pub passing : (ℕ → Bool) → List (ℕ × ℕ) → List (ℕ × ℕ)
passing q ps = filter (λ p. q p.0) ps

-- another number isn't counted
times_other : (x k n : ℕ) → (x == k) ≡ false → cond (x == k) 1 0 + n ≡ n
times_other x k n other = let here : cond (x == k) 1 0 + n ≡ 0 + n = ap (λ (b : Bool). cond b 1 0 + n) other in omega (arith, here)

-- a number stands as often among those that pass as before, where it passes, and not at all where it doesn't
pub times_passing : (q : ℕ → Bool) (k : ℕ) (ps : List (ℕ × ℕ)) → times k (numbers_of (passing q ps)) ≡ cond (q k) (times k (numbers_of ps)) 0
times_passing q k [] = none (q k)
  where
    none : (b : Bool) → times k [] ≡ cond b (times k []) 0
    none true = refl
    none false = refl
times_passing q k (p ∷ ps) = go (q p.0) refl (eqb_tells p.0 k) (times_passing q k ps)
  where
    go : (b : Bool) → q p.0 ≡ b → (((p.0 == k) ≡ true) × (p.0 ≡ k)) ⊎ (((p.0 == k) ≡ false) × (p.0 ≢ k)) → times k (numbers_of (passing q ps)) ≡ cond (q k) (times k (numbers_of ps)) 0
        → times k (numbers_of (if b then p ∷ passing q ps else passing q ps)) ≡ cond (q k) (cond (p.0 == k) 1 0 + times k (numbers_of ps)) 0
    go true is (inl e) rest =
        let passes : q k ≡ true = sym (ap q e.1) ∙ is in
        let same : times k (numbers_of (passing q ps)) ≡ times k (numbers_of ps) = rest ∙ ap (λ (b : Bool). cond b (times k (numbers_of ps)) 0) passes in
        ap (λ (n : ℕ). cond (p.0 == k) 1 0 + n) same ∙ sym (ap (λ (b : Bool). cond b (cond (p.0 == k) 1 0 + times k (numbers_of ps)) 0) passes)
    go true is (inr e) rest = times_other p.0 k (times k (numbers_of (passing q ps))) e.0 ∙ (rest ∙ sym (ap (λ (n : ℕ). cond (q k) n 0) (times_other p.0 k (times k (numbers_of ps)) e.0)))
    go false is (inl e) rest =
        let fails : q k ≡ false = sym (ap q e.1) ∙ is in
        rest ∙ (ap (λ (b : Bool). cond b (times k (numbers_of ps)) 0) fails ∙ sym (ap (λ (b : Bool). cond b (cond (p.0 == k) 1 0 + times k (numbers_of ps)) 0) fails))
    go false is (inr e) rest = rest ∙ sym (ap (λ (n : ℕ). cond (q k) n 0) (times_other p.0 k (times k (numbers_of ps)) e.0))
