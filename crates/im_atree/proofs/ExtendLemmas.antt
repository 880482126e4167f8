-- A list that goes on, step by step.
use Rattle.std.proofs.Common.{◌≡◌, ◌≤◌, ℕ, List, length, min, take, arith, ap, ◌∙◌, sym}
use Rattle.std.proofs.lemmas.List.{length-take, take-take}

-- what goes on as a list that goes on as a first one has that one as its front
pub front-onward : (first old new : List (List ℕ)) → take (length first) old ≡ first → take (length old) new ≡ old → take (length first) new ≡ first
front-onward first old new front more =
    let long : length first ≡ min (length first) (length old) = sym (ap (λ (l : List (List ℕ)). length l) front) ∙ length-take (length first) old in
    let inside : length first ≤ length old = omega arith in
    sym (take-take (length first) (length old) new inside) ∙ ap (λ (l : List (List ℕ)). take (length first) l) more ∙ front
