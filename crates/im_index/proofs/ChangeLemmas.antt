-- All versions of the keys that begin with a prefix, as the runs of a history hold them.
use Rattle.std.proofs.Common.{◌∙◌, ◌≤◌, ℕ, List, length, take, subst, sym}
use Rattle.std.proofs.lemmas.List.Elements.{All-filter, filter_passes}
use Rattle.std.specs.List.{filter}
use Rattle.std.specs.Prelude.{IsTrue}
use Rattle.im_versions.specs.Changes.{AreChanges}
use Rattle.im_model.specs.declared.transactions.Transaction.{Transaction}
use Rattle.im_versions.specs.Versions.{begins_with}
use Rattle.im_versions.specs.declared.versions.Version.{Version}
use Rattle.im_index.specs.Indexed.{AreRunsOf, Indexed, IsSnapshotOf}
use Rattle.im_index.proofs.FoundLemmas.{found-held}
use Rattle.im_index.proofs.HoldLemmas.{joined}
use Rattle.im_index.proofs.NewestLemmas.{is_begun, is_within, looked_at, looked_at-key}
use Rattle.im_index.proofs.SnapshotLemmas.{snapshot-front}

-- those with the prefix in the runs, of the first n transactions, are all of them
pub looked_at-changes : (prefix : List ℕ) (n : ℕ) (runs : List (List Version)) (history : List Transaction) → AreRunsOf runs history
    → AreChanges (take n history) prefix (looked_at prefix n runs)
looked_at-changes prefix n runs history are = record {
  each = λ key begins. looked_at-key prefix key n runs begins ∙ found-held runs history key n are;
  begin = All-filter (is_within n) (λ (v : Version). IsTrue (begins_with prefix v.key)) (filter (is_begun prefix) (joined runs)) (filter_passes (is_begun prefix) (joined runs));
}

-- those of the whole history's first n transactions are those of what a snapshot shows
pub snapshot-changes : (kept : Indexed) (history : List Transaction) (prefix : List ℕ) (n : ℕ) (changes : List Version) (is : IsSnapshotOf kept history) → n ≤ length history
    → AreChanges (take n is.whole) prefix changes → AreChanges (take n history) prefix changes
snapshot-changes kept history prefix n changes is within are =
    subst (λ (h : List Transaction). AreChanges h prefix changes) (sym (snapshot-front kept history n is within)) are
