use Rattle.std.proofs.Common.{arith, ◌≡◌, ◌≤◌, ◌∷◌, [], ◌-◌, ◌^◌, ℕ, List, map, min, ◌∙◌, ap}
use Rattle.im_format.specs.Places.{log_end, refs_of}
use Rattle.im_format.specs.declared.records.Record.{Record}
use Rattle.im_opening.proofs.EndLemmas.{low-ends}
use Rattle.im_opening.proofs.reading.opened_of.Goals as goal

pub returns : goal.returns
returns c hash fits whole gate =
    let p = c.args.read.progress in
    let records = p.records.items in
    let low : (k : ℕ) → log_end k (refs_of records) ≤ 2 ^ 43 = λ k. low-ends hash k records p.alhs.items p.bl p.bl_root p.tree fits in
    let least : (k : ℕ) → min (log_end k (refs_of records)) (2 ^ 64 - 1) ≡ log_end k (refs_of records) = λ k. omega (arith, low k) in
    let f : List Record → List ℕ = λ l. map (λ k. min (log_end k (refs_of l)) (2 ^ 64 - 1)) (0 ∷ 1 ∷ 2 ∷ 3 ∷ []) in
    let ends : c.ends_of.result ≡ f records = c.ends_of.ensures ∙ ap f c.as_slice.ensures.value in
    let first = least 0 in
    let second = least 1 in
    let third = least 2 in
    let fourth = least 3 in
    let place = whole.place_is in
    cc
