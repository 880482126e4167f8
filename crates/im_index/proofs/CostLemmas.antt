-- Steps that are taken run by run.
use Rattle.std.proofs.Common.{◌≡◌, ◌<◌, ◌≤◌, ◌+◌, ◌*◌, ℕ, List, [], ◌∷◌, ◌++◌, length, take, drop, get_or, arith, ap, sym, ◌∙◌, length-append, mul-le-mul_right}
use Rattle.std.proofs.Math.Nat.{add-mul}
use Rattle.std.proofs.lemmas.List.{length-take-le, take-append-drop, take_more}
use Rattle.std.proofs.lemmas.List.Concat.{flat_map-append}
use Rattle.std.proofs.lemmas.List.Elements.{filter-append}
use Rattle.std.specs.List.{filter}
use Rattle.im_versions.specs.declared.versions.Version.{Version}
use Rattle.im_index.proofs.HoldLemmas.{joined}
use Rattle.im_index.proofs.NewestLemmas.{is_begun}

-- one item more
pub take-longer : {X : Type 0} (xs : List X) (i : ℕ) (d : X) → i < length xs → length (take (i + 1) xs) ≡ length (take i xs) + 1
take-longer xs i d h = ap length (take_more xs i d h) ∙ length-append (take i xs) (get_or xs i d ∷ [])

-- the steps in one run more
pub step-cost : (runs : List (List Version)) (i s old steps more : ℕ) (d : List Version) → i < length runs → steps ≤ old + length (take i runs) * s
    → more ≤ steps + s → more ≤ old + length (take (i + 1) runs) * s
step-cost runs i s old steps more d h so now =
    omega (arith, so, now, ap (λ (m : ℕ). m * s) (take-longer runs i d h), add-mul (length (take i runs)) 1 s)

-- those in some of the runs are no more than those in all
pub whole-cost : (runs : List (List Version)) (i s old more : ℕ) → i ≤ length runs → more ≤ old + length (take i runs) * s → more ≤ old + length runs * s
whole-cost runs i s old more h so =
    omega (arith, so, mul-le-mul_right {m = length (take i runs)} {n = length runs} s (omega (arith, length-take-le i runs h)))

-- some of the runs have no more versions with the prefix than all
pub begun-fewer : (prefix : List ℕ) (runs : List (List Version)) (i : ℕ)
    → length (filter (is_begun prefix) (joined (take i runs))) ≤ length (filter (is_begun prefix) (joined runs))
begun-fewer prefix runs i =
    let p = is_begun prefix in
    let front : List Version = joined (take i runs) in
    let rest : List Version = joined (drop i runs) in
    let whole : joined runs ≡ front ++ rest =
    ap (λ rs. joined rs) (sym (take-append-drop i runs)) ∙ flat_map-append (λ (run : List Version). run) (take i runs) (drop i runs) in
    omega (arith, ap (λ vs. length (filter p vs)) whole, ap length (filter-append p front rest), length-append (filter p front) (filter p rest))
