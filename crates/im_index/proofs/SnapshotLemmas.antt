-- A snapshot tells the versions of a key, and a scan.
use Rattle.std.proofs.Common.{◌≡◌, ◌<◌, ◌≤◌, ◌+◌, ◌*◌, ℕ, List, length, take, arith, ap, sym, subst, ◌∙◌, mul-le-mul_right}
use Rattle.std.proofs.lemmas.List.{length-take, take-take}
use Rattle.std.specs.List.{All}
use Rattle.im_model.specs.declared.transactions.Transaction.{Transaction}
use Rattle.im_versions.specs.Versions.{versions_of, IsScan}
use Rattle.im_versions.specs.declared.versions.Version.{Version}
use Rattle.im_index.specs.Indexed.{Indexed, IsSnapshotOf}
use Rattle.im_index.specs.Marks.{found}
use Rattle.im_index.specs.Runs.{HasDigits, held}
use Rattle.im_index.proofs.FoundLemmas.{found-held}
use Rattle.im_index.proofs.HalvingLemmas.{few-runs}
use Rattle.im_index.proofs.HoldLemmas.{joined}
use Rattle.im_index.proofs.SpanLemmas.{runs-numbered}

-- the first n transactions of what it shows are those of the whole history
pub snapshot-front : (kept : Indexed) (history : List Transaction) (n : ℕ) (is : IsSnapshotOf kept history) → n ≤ length history → take n history ≡ take n is.whole
snapshot-front kept history n is within =
    let bound : n ≤ kept.taken = omega (arith, ap length is.first, length-take kept.taken is.whole) in
    ap (take n) is.first ∙ take-take n kept.taken is.whole bound

pub snapshot-versions : (kept : Indexed) (history : List Transaction) (key : List ℕ) (n : ℕ) → IsSnapshotOf kept history → n ≤ length history
    → found key n (joined kept.runs) ≡ versions_of (take n history) key
snapshot-versions kept history key n is within =
    found-held kept.runs is.whole key n is.runs ∙ ap (λ h. versions_of h key) (sym (snapshot-front kept history n is within))

-- no version of its runs has number 0
pub snapshot-numbered : (kept : Indexed) (history : List Transaction) → IsSnapshotOf kept history → All (λ run. All (λ (v : Version). 0 < v.tx) run) kept.runs
snapshot-numbered kept history is = runs-numbered kept.runs is.whole is.runs

-- a scan of the whole history's first n transactions is one of those that it shows
pub snapshot-scan : (kept : Indexed) (history : List Transaction) (prefix : List ℕ) (n : ℕ) (shown : List Version) (is : IsSnapshotOf kept history) → n ≤ length history
    → IsScan (take n is.whole) prefix shown → IsScan (take n history) prefix shown
snapshot-scan kept history prefix n shown is within scan =
    subst (λ (h : List Transaction). IsScan h prefix shown) (sym (snapshot-front kept history n is within)) scan

-- what is counted for each run, and some more, is bounded by the digits of the number of versions
pub snapshot-more : (kept : Indexed) (history : List Transaction) (b s extra old new : ℕ) → IsSnapshotOf kept history → HasDigits b (held kept.runs)
    → new ≤ old + length kept.runs * s + extra → new ≤ old + b * s + extra
snapshot-more kept history b s extra old new is fits cost =
    omega (arith, cost, mul-le-mul_right {m = length kept.runs} {n = b} s (few-runs kept.runs b is.runs.halving fits))
