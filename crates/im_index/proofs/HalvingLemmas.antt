-- Runs of which none is shorter than twice the one behind it are few.
use Rattle.std.proofs.Common.{◌≡◌, ◌<◌, ◌≤◌, ◌+◌, ◌-◌, ◌*◌, ◌^◌, ℕ, suc, zero, cond, List, [], ◌∷◌, ◌++◌, length, map, reverse, refl, arith, ap, subst, ◌∙◌, inl, inr, mul-le-mul_right}
use Rattle.std.proofs.lemmas.Bool.{cases_lt, le-ltb, lt-ltb}
use Rattle.std.proofs.lemmas.List.{map-append, reverse-append}
use Rattle.std.proofs.lemmas.List.Elements.{All-cons, All-nil}
use Rattle.std.proofs.lemmas.Nat.{pow_below}
use Rattle.std.proofs.Math.Nat.{pow-succ'}
use Rattle.std.specs.List.{All}
use Rattle.im_versions.specs.declared.versions.Version.{Version}
use Rattle.im_index.specs.Runs.{AreHalving, HasDigits, held, lengths, settled}

-- one run that isn't empty
pub halving-one : (run : List Version) → 0 < length run → AreHalving (run ∷ [])
halving-one run some = (some, omega arith, tt)

-- the runs in front
pub halving-front : (xs ys : List (List Version)) → AreHalving (xs ++ ys) → AreHalving xs
halving-front [] ys h = tt
halving-front (x ∷ []) ys h = (h.0, omega arith, tt)
halving-front (x ∷ y ∷ xs) ys h = (h.0, h.1, halving-front (y ∷ xs) ys h.2)

-- one more run behind one that is at least twice as long
pub halving-push : (xs : List (List Version)) (a m : List Version) → AreHalving (xs ++ a ∷ []) → 0 < length m → 2 * length m ≤ length a
    → AreHalving ((xs ++ a ∷ []) ++ m ∷ [])
halving-push [] a m h some half = (h.0, half, (some, omega arith, tt))
halving-push (x ∷ []) a m h some half = (h.0, h.1, halving-push [] a m h.2 some half)
halving-push (x ∷ y ∷ xs) a m h some half = (h.0, h.1, halving-push (y ∷ xs) a m h.2 some half)

-- all runs together are less than twice as long as the first
front-held : (run : List Version) (runs : List (List Version)) → AreHalving (run ∷ runs) → held (run ∷ runs) + 1 ≤ 2 * length run
front-held run [] h = let some : 0 < length run = h.0 in omega arith
front-held run (next ∷ rest) h =
    let behind : held (next ∷ rest) + 1 ≤ 2 * length next = front-held next rest h.2 in
    let half : 2 * length next ≤ length run = h.1 in
    omega arith

digits-held : (runs : List (List Version)) → AreHalving runs → 2 ^ length runs ≤ held runs + 1
digits-held [] h = let one : 2 ^ 0 ≡ 1 = refl in omega arith
digits-held (run ∷ []) h = let two : 2 ^ 1 ≡ 2 = refl in let some : 0 < length run = h.0 in omega arith
digits-held (run ∷ next ∷ rest) h =
    let before : 2 ^ length (next ∷ rest) ≤ held (next ∷ rest) + 1 = digits-held (next ∷ rest) h.2 in
    let behind : held (next ∷ rest) + 1 ≤ 2 * length next = front-held next rest h.2 in
    let half : 2 * length next ≤ length run = h.1 in
    let double : 2 ^ suc (length (next ∷ rest)) ≡ 2 * 2 ^ length (next ∷ rest) = pow-succ' 2 (length (next ∷ rest)) in
    omega arith

-- there are at most as many runs as their number of versions has binary digits
pub few-runs : (runs : List (List Version)) (b : ℕ) → AreHalving runs → HasDigits b (held runs) → length runs ≤ b
few-runs runs b h fits = elim (cases_lt b (length runs)) [
  | inl more ↦ absurd (omega (arith, pow_below b (length runs) more, digits-held runs h))
  | inr few ↦ few
]

-- and none is longer than all together
pub each-fits : (runs : List (List Version)) (b : ℕ) → HasDigits b (held runs) → All (λ run. HasDigits b (length run)) runs
each-fits [] b fits = All-nil (λ (run : List Version). HasDigits b (length run))
each-fits (run ∷ runs) b fits =
    All-cons (λ (r : List Version). HasDigits b (length r)) run runs (omega arith) (each-fits runs b (omega arith))

-- so a number of steps in each run is one of all
pub all-steps : (runs : List (List Version)) (b s old new : ℕ) → AreHalving runs → HasDigits b (held runs)
    → new ≤ old + length runs * s → new ≤ old + b * s
all-steps runs b s old new h fits cost =
    omega (arith, mul-le-mul_right {m = length runs} {n = b} s (few-runs runs b h fits))

-- half of what has some binary digits has one fewer
pub halved : (d w v : ℕ) → 0 < w → HasDigits d w → 2 * v ≤ w → (0 < d) × HasDigits (d - 1) v
halved zero w v some fits half = let one : 2 ^ 0 ≡ 1 = refl in absurd (omega arith)
halved (suc d) w v some fits half =
    let double : 2 ^ suc d ≡ 2 * 2 ^ d = pow-succ' 2 d in
    let small : v < 2 ^ d = omega arith in
    let same : d ≡ suc d - 1 = omega arith in
    (omega arith, subst (λ (e : ℕ). v < 2 ^ e) same small)

-- the lengths of runs with one more behind them
pub lengths-push : (runs : List (List Version)) (run : List Version) → lengths (runs ++ run ∷ []) ≡ length run ∷ lengths runs
lengths-push runs run =
    ap reverse (map-append (λ (r : List Version). length r) runs (run ∷ []))
    ∙ reverse-append (map (λ (r : List Version). length r) runs) (length run ∷ [])

-- the last two become one
pub settled-on : (n m : ℕ) (ms : List ℕ) → m < 2 * n → settled n (m ∷ ms) ≡ settled (m + n) ms
settled-on n m ms less = ap (λ t. cond t (settled (m + n) ms) (n ∷ m ∷ ms)) (lt-ltb m (2 * n) less)

-- and don't
pub settled-here : (n m : ℕ) (ms : List ℕ) → 2 * n ≤ m → settled n (m ∷ ms) ≡ n ∷ m ∷ ms
settled-here n m ms more = ap (λ t. cond t (settled (m + n) ms) (n ∷ m ∷ ms)) (le-ltb m (2 * n) more)
