-- Octets of a piece that was read ahead.
use Rattle.std.proofs.Common.{◌≡◌, ◌+◌, ◌-◌, ◌≤◌, ℕ, List, length, take, drop, ap, sym, ◌∙◌, subst, arith, Option, Some, None}
use Rattle.std.proofs.lemmas.List.{drop-drop, drop-take, take-take}
use Rattle.std.specs.Prelude.{IfSome}
use Rattle.im_disk.specs.Disk.{LiesWithin, Told}
use Rattle.im_format.specs.Spans.{octets_at}
use Rattle.im_format.specs.declared.records.Record.{Record}
use Rattle.im_journal.specs.Holding.{IsResting}
use Rattle.im_journal.specs.declared.ends.Ends.{Ends}

-- a part of octets that stand at a place stands behind that place
pub part-at : (file octets : List ℕ) (at start n : ℕ) → octets ≡ octets_at file at (length octets) → start + n ≤ length octets
    → take n (drop start octets) ≡ octets_at file (at + start) n
part-at file octets at start n is le =
    let m = length octets in
    let rest = m - start in
    let whole : start + rest ≡ m = omega (arith, le) in
    let front : take n (drop start octets) ≡ take n (drop start (take m (drop at file))) = ap (λ (l : List ℕ). take n (drop start l)) is in
    let cut : drop start (take m (drop at file)) ≡ take rest (drop start (drop at file)) =
    subst (λ k. drop start (take k (drop at file)) ≡ take rest (drop start (drop at file))) whole (drop-take start rest (drop at file))
    in
    front
    ∙ ap (λ (l : List ℕ). take n l) cut
    ∙ take-take n rest (drop start (drop at file)) (omega (arith, le))
    ∙ ap (λ (l : List ℕ). take n l) (drop-drop start at file)

-- what rests on a disk rests on the same disk
pub resting-back : {D : Type 0} (told : D → Option Told) (back last : D) (batches : List (List Record)) (ends : Ends) → back ≡ last
    → IfSome (told last) (IsResting batches ends) → IfSome (told back) (IsResting batches ends)
resting-back told back last batches ends is h = subst (λ d. IfSome (told d) (IsResting batches ends)) (sym is) h

-- a place from which octets lie within a file is within it
pub place-within : (o : Option Told) (file at n : ℕ) → LiesWithin o file at n → LiesWithin o file at 0
place-within None file at n h = tt
place-within (Some t) file at n h = omega (arith, h)
