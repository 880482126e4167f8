-- What an image holds of batches that follow each other, from a gate on.
use Rattle.std.proofs.Common.{◌≡◌, ℕ, ◌+◌, ◌≤◌, List, [], ◌∷◌, ◌++◌, length, length-append, get_or, arith, true, false}
use Rattle.std.specs.Prelude.{nat_eq, nat_lt}
use Rattle.std.proofs.lemmas.Bool.{and_parts, and_from, eqb-true, eq-eqb, ltb-true, lt-ltb, false_from_ne_true}
use Rattle.im_digest.specs.Digests.{Hash}
use Rattle.im_disk.specs.Disk.{Files}
use Rattle.im_octet.specs.Fields.{field8}
use Rattle.im_format.specs.Batches.{Counts, batch_fields}
use Rattle.im_format.specs.Damages.{Reached, next_id}
use Rattle.im_format.specs.Reading.{counts}
use Rattle.im_format.specs.declared.records.Record.{Record}
use Rattle.im_format.proofs.HeldRecords.{HoldsRecords, grown_by}
use Rattle.im_format.proofs.HoldLemmas.{Holds, holds-left, holds-right, holds-both, holds-at}
use Rattle.im_octet.proofs.FieldLemmas.{length-field8}

-- the batch whose gate stands at this place
pub record HoldsBatch (hash : Hash) (image : Files) (gate : ℕ) (r : Reached) (batch : List Record) : Type 0 where
  pub counted : Counts (image 1) gate
  pub filled : 1 ≤ length batch
  pub room : length r.alhs + length batch ≤ 1048576
  pub fields : Holds (image 1) (gate + 1) (batch_fields (next_id r) (length batch) (grown_by r batch).place)
  pub records : HoldsRecords hash image r batch

-- these batches and no further one
abbrev pub HoldsBatches : Hash → Files → ℕ → Reached → List (List Record) → Type 0
HoldsBatches hash image gate r [] = Counts (image 1) gate → ⊥
HoldsBatches hash image gate r (batch ∷ batches) =
    HoldsBatch hash image gate r batch × HoldsBatches hash image (gate + 25) (grown_by r batch) batches

-- a batch counts exactly where its test says so
pub counts-true : (log : List ℕ) (gate : ℕ) → Counts log gate → counts log gate ≡ true
counts-true log gate h =
    and_from (nat_eq (get_or log gate 0) 1) (nat_lt (gate + 25) (length log)) (eq-eqb (get_or log gate 0) 1 h.opened) (lt-ltb (gate + 25) (length log) h.whole)

pub true-counts : (log : List ℕ) (gate : ℕ) → counts log gate ≡ true → Counts log gate
true-counts log gate e =
    let both = and_parts (nat_eq (get_or log gate 0) 1) (nat_lt (gate + 25) (length log)) e in
    record { opened = eqb-true (get_or log gate 0) 1 both.0; whole = ltb-true (gate + 25) (length log) both.1 }

pub counts-false : (log : List ℕ) (gate : ℕ) → (Counts log gate → ⊥) → counts log gate ≡ false
counts-false log gate not = false_from_ne_true (counts log gate) (λ e. not (true-counts log gate e))

-- the fields of a batch, each at its place
pub record HasFields (log : List ℕ) (gate first count end : ℕ) : Type 0 where
  pub of_first : Holds log (gate + 1) (field8 first)
  pub of_count : Holds log (gate + 9) (field8 count)
  pub of_end : Holds log (gate + 17) (field8 end)

pub fields-split : (log : List ℕ) (gate first count end : ℕ) → Holds log (gate + 1) (batch_fields first count end) → HasFields log gate first count end
unfolding batch_fields
fields-split log gate first count end h =
    let a : List ℕ = field8 first in
    let b : List ℕ = field8 count in
    let long_a = length-field8 first in
    let long_b = length-field8 count in
    let front = holds-left (a ++ b) (field8 end) h in
    let both : length (a ++ b) ≡ 16 = omega (arith, length-append a b) in
    record {
      of_first = holds-left a b front;
      of_count = holds-at (gate + 9) (omega arith) (holds-right a b front);
      of_end = holds-at (gate + 17) (omega arith) (holds-right (a ++ b) (field8 end) h);
    }

pub fields-joined : (log : List ℕ) (gate first count end : ℕ) → HasFields log gate first count end → Holds log (gate + 1) (batch_fields first count end)
unfolding batch_fields
fields-joined log gate first count end h =
    let a : List ℕ = field8 first in
    let b : List ℕ = field8 count in
    let long_a = length-field8 first in
    let long_b = length-field8 count in
    let both : length (a ++ b) ≡ 16 = omega (arith, length-append a b) in
    let front : Holds log (gate + 1) (a ++ b) = holds-both a b h.of_first (holds-at (gate + 1 + length a) (omega arith) h.of_count) in
    holds-both (a ++ b) (field8 end) front (holds-at (gate + 1 + length (a ++ b)) (omega arith) h.of_end)
