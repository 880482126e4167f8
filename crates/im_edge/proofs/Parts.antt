-- A text that is written in several calls.
use Rattle.std.proofs.Common.{◌≡◌, ℕ, ◌+◌, ◌-◌, List, ◌++◌, length, take, drop, ap, subst, ◌∙◌, sym, Option, length-drop}
use Rattle.std.proofs.Math.Seq.{take-add, take-length}
use Rattle.std.proofs.KnownBytes.{Appends-trans}
use Rattle.std.specs.Io.KnownBytes.{Appends}

-- a front part of the text was written, and then a front part of its rest
pub Appends-turn : (a b c : Option (List ℕ)) (at n : ℕ) (text : List ℕ) → Appends a b (take at text)
    → Appends b c (take n (take (length text - at) (drop at text))) → Appends a c (take (at + n) text)
Appends-turn a b c at n text p q =
    let piece : List ℕ = take (length text - at) (drop at text) in
    let all : piece ≡ drop at text = ap (λ k. take k (drop at text)) (sym (length-drop at text)) ∙ take-length (drop at text) in
    let whole : take at text ++ take n piece ≡ take (at + n) text =
    ap (λ (ys : List ℕ). take at text ++ take n ys) all ∙ sym (take-add at n text) in
    let P : List ℕ → Type 0 = λ t. Appends a c t in
    subst P whole (Appends-trans a b c (take at text) (take n piece) p q)
