-- An index that takes a transaction, and its snapshots.
use Rattle.std.proofs.Common.{◌≡◌, ◌≤◌, ◌+◌, ◌*◌, ℕ, List, [], ◌++◌, length, take, None, refl, arith, ap, sym, subst, ◌∙◌, length-append}
use Rattle.std.proofs.lemmas.List.{append-nil, length-take, take-take, take_all}
use Rattle.std.specs.List.{All, last_or}
use Rattle.std.specs.List.Sorted.{IsSorted}
use Rattle.im_model.specs.declared.transactions.Transaction.{Transaction}
use Rattle.im_versions.specs.Versions.{all_versions, last_version, versions_from}
use Rattle.im_versions.specs.declared.versions.Version.{Version}
use Rattle.im_versions.proofs.VersionLemmas.{versions-append}
use Rattle.im_index.specs.Marks.{found, numbered}
use Rattle.im_index.specs.Indexed.{Indexed, IsIndexOf, IsSnapshotOf}
use Rattle.im_index.specs.Runs.{AreHalving, HasDigits, HoldInOrder, held}
use Rattle.im_index.proofs.FoundLemmas.{found-last}
use Rattle.im_index.proofs.HalvingLemmas.{all-steps, each-fits, few-runs}
use Rattle.im_index.proofs.HoldLemmas.{held-all, hold-none, joined, runs-sorted}

-- runs and a number of transactions
abbrev pub kept_of : List (List Version) → ℕ → Indexed
kept_of runs taken = record { runs = runs; taken = taken }

-- no runs are those of the empty history
pub index-new : (runs : List (List Version)) → runs ≡ [] → IsIndexOf (kept_of runs 0) []
index-new runs none = record {
  runs = record {
    holds = subst (λ (rs : List (List Version)). HoldInOrder rs []) (sym none) hold-none;
    halving = subst AreHalving (sym none) tt;
  };
  taken = refl;
}

-- with runs that hold the versions of further transactions too, it is that of the longer history
pub index-take : (history txs : List Transaction) (old new : Indexed) (more : List Version) → IsIndexOf old history
    → more ≡ versions_from (old.taken + 1) txs
    → ((before : List Version) → HoldInOrder old.runs before → HoldInOrder new.runs (before ++ more))
    → (AreHalving old.runs → AreHalving new.runs) → new.taken ≡ old.taken + length txs → IsIndexOf new (history ++ txs)
index-take history txs old new more is made holds halving taken =
    let place : old.taken + 1 ≡ 1 + length history = omega (arith, is.taken) in
    let all : all_versions history ++ more ≡ all_versions (history ++ txs) =
    ap (λ vs. all_versions history ++ vs) (made ∙ ap (λ k. versions_from k txs) place) ∙ sym (versions-append 1 history txs) in
    record {
      runs = record {
        holds = subst (HoldInOrder new.runs) all (holds (all_versions history) is.runs.holds);
        halving = halving is.runs.halving;
      };
      taken = omega (arith, taken, is.taken, length-append history txs);
    }

-- its runs show what stood after the first n transactions
pub index-snapshot : (history : List Transaction) (n : ℕ) (kept : Indexed) → IsIndexOf kept history → n ≤ kept.taken
    → IsSnapshotOf (kept_of kept.runs n) (take n history)
index-snapshot history n kept is within = record {
  whole = history;
  runs = is.runs;
  first = refl;
  within = omega (arith, is.taken);
}

-- there are at most as many runs as the number of versions has binary digits
pub index-few : (history : List Transaction) (b : ℕ) (kept : Indexed) → IsIndexOf kept history → HasDigits b (length (all_versions history))
    → length kept.runs ≤ b
index-few history b kept is fits =
    few-runs kept.runs b is.runs.halving
    (subst (HasDigits b) (sym (held-all kept.runs (all_versions history) is.runs.holds)) fits)

-- where a transaction has no versions, the runs stay
pub hold-nothing : (runs next : List (List Version)) (before more : List Version) → more ≡ [] → next ≡ runs → HoldInOrder runs before
    → HoldInOrder next (before ++ more)
hold-nothing runs next before more none same holds =
    subst (λ (rs : List (List Version)). HoldInOrder rs (before ++ more)) (sym same)
    (subst (HoldInOrder runs) (sym (append-nil before) ∙ ap (λ vs. before ++ vs) (sym none)) holds)

-- the last version of a key up to a number, read off the runs, is that of the history
pub snapshot-last : (kept : Indexed) (history : List Transaction) (key : List ℕ) (n : ℕ) → IsSnapshotOf kept history → n ≤ length history
    → last_or None (found key n (joined kept.runs)) ≡ last_version (take n history) key
snapshot-last kept history key n is within =
    let bound : n ≤ kept.taken = omega (arith, ap length is.first, length-take kept.taken is.whole) in
    let same : take n history ≡ take n is.whole = ap (take n) is.first ∙ take-take n kept.taken is.whole bound in
    found-last kept.runs is.whole key n is.runs ∙ ap (λ h. last_version h key) (sym same)

-- its runs are sorted
pub snapshot-sorted : (kept : Indexed) (history : List Transaction) → IsSnapshotOf kept history → All (IsSorted numbered) kept.runs
snapshot-sorted kept history is = runs-sorted kept.runs is.whole is.runs

-- and few
pub snapshot-steps : (kept : Indexed) (history : List Transaction) (b s old new : ℕ) → IsSnapshotOf kept history → HasDigits b (held kept.runs)
    → new ≤ old + length kept.runs * s → new ≤ old + b * s
snapshot-steps kept history b s old new is fits cost = all-steps kept.runs b s old new is.runs.halving fits cost

-- so what is counted in each run is bounded by them
pub snapshot-cost : (kept : Indexed) (history : List Transaction) (b old new : ℕ) (runs : List (List Version)) → runs ≡ kept.runs
    → IsSnapshotOf kept history → HasDigits b (held kept.runs)
    → ((b : ℕ) → All (λ run. HasDigits b (length run)) runs → new ≤ old + length runs * (b + 1)) → new ≤ old + b * (b + 1)
snapshot-cost kept history b old new runs same is fits cost =
    snapshot-steps kept history b (b + 1) old new is fits
    (subst (λ (rs : List (List Version)). new ≤ old + length rs * (b + 1)) same
    (cost b (subst (λ (rs : List (List Version)). All (λ run. HasDigits b (length run)) rs) (sym same) (each-fits kept.runs b fits))))

-- an index shows its whole history as a snapshot does
pub index-shows : (kept : Indexed) (history : List Transaction) → IsIndexOf kept history → IsSnapshotOf kept history
index-shows kept history is = record {
  whole = history;
  runs = is.runs;
  first = sym (take_all kept.taken history (omega (arith, is.taken)));
  within = omega (arith, is.taken);
}

-- the last version of a key, read off its runs
pub index-last : (kept : Indexed) (history : List Transaction) (key : List ℕ) → IsIndexOf kept history
    → last_or None (found key kept.taken (joined kept.runs)) ≡ last_version history key
index-last kept history key is =
    snapshot-last kept history key kept.taken (index-shows kept history is) (omega (arith, is.taken))
    ∙ ap (λ h. last_version h key) (take_all kept.taken history (omega (arith, is.taken)))

-- the steps of a look into each run are bounded by the digits of the number of versions
pub index-cost : (kept : Indexed) (history : List Transaction) (b old new : ℕ) (runs : List (List Version)) → runs ≡ kept.runs
    → IsIndexOf kept history → HasDigits b (length (all_versions history))
    → ((b : ℕ) → All (λ run. HasDigits b (length run)) runs → new ≤ old + length runs * (b + 1)) → new ≤ old + b * (b + 1)
index-cost kept history b old new runs same is fits cost =
    snapshot-cost kept history b old new runs same (index-shows kept history is)
    (subst (HasDigits b) (sym (held-all kept.runs (all_versions history) is.runs.holds)) fits) cost
