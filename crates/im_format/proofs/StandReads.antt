-- An image that stands for a history is read back, and has no damage.
use Rattle.std.proofs.Common.{◌≡◌, ◌<◌, ◌≤◌, ◌+◌, ◌*◌, suc, ℕ, List, [], ◌∷◌, ◌++◌, length, length-append, map, ap, subst, sym, ◌∙◌, arith, All, Ok}
use Rattle.std.proofs.lemmas.List.{length-map}
use Rattle.im_octet.specs.Fields.{field8}
use Rattle.im_digest.specs.Digests.{Hash}
use Rattle.im_disk.specs.Disk.{Files}
use Rattle.im_model.specs.History.{Follow, alhs_from}
use Rattle.im_model.specs.declared.transactions.Transaction.{Transaction}
use Rattle.im_mtree.specs.Checks.{first_fail}
use Rattle.im_format.specs.Batches.{Counts, batch_fields, batch_spans, gate_of, joined, spans_from}
use Rattle.im_format.specs.Damages.{Reached, at_first, image_checks, next_id}
use Rattle.im_format.specs.Reading.{history_in}
use Rattle.im_format.specs.Records.{record_octets, records_octets}
use Rattle.im_format.specs.Spans.{Reads, octet_span}
use Rattle.im_format.specs.Standing.{Stands}
use Rattle.im_format.specs.declared.records.Record.{Record}
use Rattle.im_format.specs.declared.spans.Span.{Span}
use Rattle.im_format.proofs.BatchReads.{BatchesRead, batches-read}
use Rattle.im_format.proofs.HeldBatches.{HoldsBatches}
use Rattle.im_format.proofs.HeldRecords.{Has32, grown_by, length-grown_by, place-grown_by}
use Rattle.im_format.proofs.HoldLemmas.{Holds}
use Rattle.im_format.proofs.StandSplits.{Goes, SplitRecords, reads-holds, records-split}
use Rattle.im_octet.proofs.FieldLemmas.{length-field8}
use Rattle.im_format.proofs.LengthLemmas.{length-record}
use Rattle.im_mtree.proofs.CheckLemmas.{none-fails}
use Rattle.im_octet.proofs.Common.{all-left, all-right}

-- the octets of a batch that is filled
fields-some : (first count end : ℕ) → 1 ≤ length (batch_fields first count end)
unfolding batch_fields
fields-some first count end =
    omega (arith, length-field8 end, length-append (field8 first ++ field8 count) (field8 end))

records-some : (id : ℕ) (batch : List Record) → 1 ≤ length batch → 1 ≤ length (records_octets id batch)
records-some id [] h = absurd (omega arith)
records-some id (rec ∷ recs) h =
    let one = length-record id rec in
    let both = length-append (record_octets id rec) (records_octets (id + 1) recs) in
    omega arith

-- the batches from a gate on are counted
pub record CountsFrom (log : List ℕ) (gate : ℕ) (batches : List (List Record)) : Type 0 where
  pub each : (b : ℕ) → b < length batches → Counts log (gate + 25 * b)
  pub last : Counts log (gate + 25 * length batches) → ⊥

counts-on : (log : List ℕ) (gate : ℕ) (batch : List Record) (batches : List (List Record)) → CountsFrom log gate (batch ∷ batches) → CountsFrom log (gate + 25) batches
counts-on log gate batch batches h = record {
  each = λ b l. (let same : gate + 25 * suc b ≡ gate + 25 + 25 * b = omega arith in subst (λ g. Counts log g) same (h.each (suc b) (omega arith)));
  last = λ c. (let same : gate + 25 + 25 * length batches ≡ gate + 25 * suc (length batches) = omega arith in h.last (subst (λ g. Counts log g) same c));
}

counts-here : (log : List ℕ) (gate : ℕ) (batch : List Record) (batches : List (List Record)) → CountsFrom log gate (batch ∷ batches) → Counts log gate
counts-here log gate batch batches h = let same : gate + 25 * 0 ≡ gate = omega arith in subst (λ g. Counts log g) same (h.each 0 (omega arith))

-- what stands of batches is what an image holds of them
batches-split : (hash : Hash) (image : Files) (history : List Transaction) (gate : ℕ) (r : Reached) (batches : List (List Record)) → Has32 hash → CountsFrom (image 1) gate batches → All (λ batch. 1 ≤ length batch) batches
    → All (Reads image) (spans_from gate (next_id r) r.place batches) → Goes hash image history r (joined batches) → HoldsBatches hash image gate r batches
batches-split hash image history gate r [] long counted filled read goes =
    λ c. (let same : gate ≡ gate + 25 * 0 = omega arith in counted.last (subst (λ g. Counts (image 1) g) same c))
batches-split hash image history gate r (batch ∷ batches) long counted filled read goes =
    let octets : List ℕ = records_octets (next_id r) batch in
    let next : Reached = grown_by r batch in
    let here : List Span = batch_spans gate (next_id r) r.place batch in
    let behind : List Span = spans_from (gate + 25) (next_id r + length batch) (r.place + length octets) batches in
    let of_batch : All (Reads image) here = all-left (Reads image) here behind read in
    let full : 1 ≤ length batch = filled 0 batch (omega arith) in
    let some : 1 ≤ length octets = records-some (next_id r) batch full in
    let any : Span = octet_span 1 gate 1 in
    let fields : List ℕ = batch_fields (next_id r) (length batch) (r.place + length octets) in
    let held_fields : Holds (image 1) (gate + 1) fields = reads-holds image (record { file = 1; at = gate + 1; octets = fields }) (fields-some (next_id r) (length batch) (r.place + length octets)) (of_batch 1 any (omega arith)) in
    let held_octets : Holds (image 0) r.place octets = reads-holds image (record { file = 0; at = r.place; octets = octets }) some (of_batch 2 any (omega arith)) in
    let split : SplitRecords hash image history r batch (joined batches) =
    records-split hash image history r batch (joined batches) long goes held_octets (λ i d l. of_batch (suc (suc (suc i))) d (omega arith)) in
    let place : next.place ≡ r.place + length octets = place-grown_by r batch in
    let number : length next.alhs ≡ length r.alhs + length batch = length-grown_by r batch in
    let id : next_id r + length batch ≡ next_id next = omega arith in
    let few : length r.alhs + length (batch ++ joined batches) ≤ 1048576 = goes.few in
    let both = length-append batch (joined batches) in
    let rest : All (Reads image) (spans_from (gate + 25) (next_id next) next.place batches) =
    subst (λ n. All (Reads image) (spans_from (gate + 25) n next.place batches)) id
    (subst (λ p. All (Reads image) (spans_from (gate + 25) (next_id r + length batch) p batches)) (sym place)
    (all-right (Reads image) here behind read)) in (
      record {
        counted = counts-here (image 1) gate batch batches counted;
        filled = full;
        room = omega arith;
        fields = subst (λ p. Holds (image 1) (gate + 1) (batch_fields (next_id r) (length batch) p)) (sym place) held_fields;
        records = split.held;
      },
      batches-split hash image history (gate + 25) next batches long (counts-on (image 1) gate batch batches counted) (λ i d l. filled (suc i) d (omega arith)) rest split.on,
    )

-- an image that stands for a history holds its batches
pub stands-holds : (hash : Hash) (image : Files) (history : List Transaction) → Has32 hash → (s : Stands hash image history) → HoldsBatches hash image 0 at_first s.batches
stands-holds hash image history long s =
    let is : map (λ rec. rec.tx) (joined s.batches) ≡ history = s.transactions_are in
    let few : length history ≤ 1048576 = s.history_is.few in
    let size : length (joined s.batches) ≡ length history = sym (length-map (joined s.batches) (λ rec. rec.tx)) ∙ ap length is in
    batches-split hash image history 0 at_first s.batches long
    record {
      each = λ b l. (let same : gate_of b ≡ 0 + 25 * b = omega arith in subst (λ g. Counts (image 1) g) same (s.there.counted b l));
      last = λ c. (let same : 0 + 25 * length s.batches ≡ gate_of (length s.batches) = omega arith in s.there.last (subst (λ g. Counts (image 1) g) same c));
    }
    s.there.filled s.there.reads
    record {
      follow = subst (λ txs. Follow 0 0 txs) (sym is) s.history_is.follow;
      are = s.records_are;
      digests = ap (λ txs. alhs_from hash [] txs) (sym is);
      lie = s.there.lie;
      few = omega arith;
    }

-- and is read back
pub stands-read : (hash : Hash) (image : Files) (history : List Transaction) → Has32 hash → Stands hash image history → (first_fail (image_checks hash image) ≡ Ok tt) × (history_in image ≡ history)
stands-read hash image history long s =
    let read : BatchesRead hash image (length (image 1)) 0 at_first s.batches =
    batches-read hash image (length (image 1)) 0 at_first s.batches (omega arith) (omega arith) (stands-holds hash image history long s) in
    (none-fails (image_checks hash image) read.pass, read.history ∙ s.transactions_are)

-- so it stands for no other
pub stands-once : (hash : Hash) (image : Files) (a b : List Transaction) → Has32 hash → Stands hash image a → Stands hash image b → a ≡ b
stands-once hash image a b long s t = sym (stands-read hash image a long s).1 ∙ (stands-read hash image b long t).1
