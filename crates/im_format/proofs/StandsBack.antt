-- An image of octets that is read with no damage stands for what is read.
use Rattle.std.proofs.Common.{◌≡◌, ◌<◌, ◌≤◌, ◌+◌, ◌*◌, suc, zero, ℕ, List, [], ◌∷◌, length, map, refl, ap, subst, arith, All, Ok}
use Rattle.std.proofs.lemmas.List.{length-map}
use Rattle.std.proofs.lemmas.List.Elements.{All-append, All-cons}
use Rattle.im_octet.specs.Fields.{field8}
use Rattle.im_digest.specs.Digests.{Hash}
use Rattle.im_disk.specs.Disk.{Files}
use Rattle.im_model.specs.declared.transactions.Transaction.{Transaction}
use Rattle.im_mtree.specs.Checks.{first_fail}
use Rattle.im_format.specs.Batches.{Counts, batch_fields, batch_spans, gate_of, joined, spans_from, values_spans}
use Rattle.im_format.specs.Damages.{Reached, at_first, image_checks, next_id}
use Rattle.im_format.specs.Reading.{history_in}
use Rattle.im_format.specs.Records.{records_octets}
use Rattle.im_format.specs.Spans.{Reads, octet_span}
use Rattle.im_format.specs.Standing.{Stands}
use Rattle.im_format.specs.declared.records.Record.{Record}
use Rattle.im_format.specs.declared.spans.Span.{Span}
use Rattle.im_format.proofs.BatchesBack.{BatchesBack, batches-back}
use Rattle.im_format.proofs.FieldsBack.{IsSmall, octet-back}
use Rattle.im_format.proofs.HeldBatches.{HoldsBatches}
use Rattle.im_format.proofs.HeldRecords.{HoldsRecords, grown_by, length-grown_by, place-grown_by}
use Rattle.im_format.proofs.HoldLemmas.{Holds, holds-same}
use Rattle.im_format.proofs.StandJoins.{records-append, records-are, records-few, records-follow, records-joined, values-joined, values-lie}
use Rattle.im_mtree.proofs.CheckLemmas.{all-hold}

-- an open gate is read
gate-read : (image : Files) (gate : ℕ) → Counts (image 1) gate → Reads image (octet_span 1 gate 1)
gate-read image gate c =
    let whole : gate + 25 < length (image 1) = c.whole in
    let here : Holds (image 1) gate (1 ∷ []) = holds-same (1 ∷ []) (ap (λ (n : ℕ). n ∷ []) c.opened) (octet-back (image 1) gate (omega arith)) in
    record { reads = here.is }

-- the records of all batches
records-of : (hash : Hash) (image : Files) (gate : ℕ) (r : Reached) (batches : List (List Record)) → HoldsBatches hash image gate r batches → HoldsRecords hash image r (joined batches)
records-of hash image gate r [] h = tt
records-of hash image gate r (batch ∷ batches) h =
    records-append hash image r batch (joined batches) h.0.records (records-of hash image (gate + 25) (grown_by r batch) batches h.1)

-- the place of a batch lies within the log
place-within : (hash : Hash) (image : Files) (r : Reached) (batch : List Record) → 1 ≤ length batch → HoldsRecords hash image r batch → r.place ≤ length (image 0)
place-within hash image r [] some h = absurd (omega arith)
place-within hash image r (rec ∷ recs) some h =
    let first : r.place + length (field8 (next_id r)) ≤ length (image 0) = h.0.id.within in
    omega arith

-- what stands of batches
spans-joined : (hash : Hash) (image : Files) (gate : ℕ) (r : Reached) (batches : List (List Record)) → HoldsBatches hash image gate r batches → All (Reads image) (spans_from gate (next_id r) r.place batches)
spans-joined hash image gate r [] h = λ i d l. absurd (omega arith)
spans-joined hash image gate r (batch ∷ batches) h =
    let octets : List ℕ = records_octets (next_id r) batch in
    let next : Reached = grown_by r batch in
    let place : next.place ≡ r.place + length octets = place-grown_by r batch in
    let number : length next.alhs ≡ length r.alhs + length batch = length-grown_by r batch in
    let id : next_id next ≡ next_id r + length batch = omega arith in
    let behind : List Span = spans_from (gate + 25) (next_id r + length batch) (r.place + length octets) batches in
    let fields : Holds (image 1) (gate + 1) (batch_fields (next_id r) (length batch) (r.place + length octets)) =
    subst (λ p. Holds (image 1) (gate + 1) (batch_fields (next_id r) (length batch) p)) place h.0.fields in
    let held : Holds (image 0) r.place octets = records-joined hash image r batch (place-within hash image r batch h.0.filled h.0.records) h.0.records in
    let rest : All (Reads image) behind =
    subst (λ n. All (Reads image) (spans_from (gate + 25) n (r.place + length octets) batches)) id
    (subst (λ p. All (Reads image) (spans_from (gate + 25) (next_id next) p batches)) place
    (spans-joined hash image (gate + 25) next batches h.1)) in
    let of_fields : Span = record { file = 1; at = gate + 1; octets = batch_fields (next_id r) (length batch) (r.place + length octets) } in
    let of_records : Span = record { file = 0; at = r.place; octets = octets } in
    All-append (Reads image) (batch_spans gate (next_id r) r.place batch) behind
    (All-cons (Reads image) (octet_span 1 gate 1) (of_fields ∷ of_records ∷ values_spans batch) (gate-read image gate h.0.counted)
    (All-cons (Reads image) of_fields (of_records ∷ values_spans batch) (record { reads = fields.is })
    (All-cons (Reads image) of_records (values_spans batch) (record { reads = held.is }) (values-joined hash image r batch h.0.records)))) rest

counted-joined : (hash : Hash) (image : Files) (gate : ℕ) (r : Reached) (batches : List (List Record)) → HoldsBatches hash image gate r batches → (b : ℕ) → b < length batches → Counts (image 1) (gate + 25 * b)
counted-joined hash image gate r [] h b l = absurd (omega arith)
counted-joined hash image gate r (batch ∷ batches) h zero l =
    let same : gate ≡ gate + 25 * 0 = omega arith in subst (λ g. Counts (image 1) g) same h.0.counted
counted-joined hash image gate r (batch ∷ batches) h (suc b) l =
    let same : gate + 25 + 25 * b ≡ gate + 25 * suc b = omega arith in
    subst (λ g. Counts (image 1) g) same (counted-joined hash image (gate + 25) (grown_by r batch) batches h.1 b (omega arith))

last-joined : (hash : Hash) (image : Files) (gate : ℕ) (r : Reached) (batches : List (List Record)) → HoldsBatches hash image gate r batches → Counts (image 1) (gate + 25 * length batches) → ⊥
last-joined hash image gate r [] h c = let same : gate + 25 * 0 ≡ gate = omega arith in h (subst (λ g. Counts (image 1) g) same c)
last-joined hash image gate r (batch ∷ batches) h c =
    let same : gate + 25 * suc (length batches) ≡ gate + 25 + 25 * length batches = omega arith in
    last-joined hash image (gate + 25) (grown_by r batch) batches h.1 (subst (λ g. Counts (image 1) g) same c)

filled-joined : (hash : Hash) (image : Files) (gate : ℕ) (r : Reached) (batches : List (List Record)) → HoldsBatches hash image gate r batches → All (λ batch. 1 ≤ length batch) batches
filled-joined hash image gate r [] h = λ i d l. absurd (omega arith)
filled-joined hash image gate r (batch ∷ batches) h =
    All-cons (λ batch. 1 ≤ length batch) batch batches h.0.filled (filled-joined hash image (gate + 25) (grown_by r batch) batches h.1)

-- batches that an image holds are those of a history, for which it stands
pub holds-stands : (hash : Hash) (image : Files) (batches : List (List Record)) → HoldsBatches hash image 0 at_first batches → Stands hash image (map (λ rec. rec.tx) (joined batches))
holds-stands hash image batches h =
    let all : HoldsRecords hash image at_first (joined batches) = records-of hash image 0 at_first batches h in
    let history : List Transaction = map (λ rec. rec.tx) (joined batches) in
    let few : 0 + length (joined batches) ≤ 1048576 = records-few hash image at_first (joined batches) (omega arith) all in
    let size : length history ≡ length (joined batches) = length-map (joined batches) (λ rec. rec.tx) in
    record {
      batches = batches;
      there = record {
        counted = λ b l. (let same : 0 + 25 * b ≡ gate_of b = omega arith in subst (λ g. Counts (image 1) g) same (counted-joined hash image 0 at_first batches h b l));
        last = λ c. (let same : gate_of (length batches) ≡ 0 + 25 * length batches = omega arith in last-joined hash image 0 at_first batches h (subst (λ g. Counts (image 1) g) same c));
        filled = filled-joined hash image 0 at_first batches h;
        reads = spans-joined hash image 0 at_first batches h;
        lie = values-lie hash image at_first (joined batches) all;
      };
      transactions_are = refl;
      history_is = record { few = omega arith; follow = records-follow hash image at_first (joined batches) all };
      records_are = records-are hash image history at_first (joined batches) refl all;
    }

-- an image of octets with no damage stands for what is read of it
pub undamaged-stands : (hash : Hash) (image : Files) → IsSmall (image 0) → IsSmall (image 1) → first_fail (image_checks hash image) ≡ Ok tt → Stands hash image (history_in image)
undamaged-stands hash image small0 small1 e =
    let back : BatchesBack hash image (length (image 1)) 0 at_first =
    batches-back hash image (length (image 1)) 0 at_first small0 small1 (omega arith) (all-hold (image_checks hash image) e) in
    subst (λ txs. Stands hash image txs) back.txs_are (holds-stands hash image back.all back.held)

pub read-stands : (hash : Hash) (image : Files) (history : List Transaction) → IsSmall (image 0) → IsSmall (image 1) → first_fail (image_checks hash image) ≡ Ok tt → history_in image ≡ history → Stands hash image history
read-stands hash image history small0 small1 e is = subst (λ txs. Stands hash image txs) is (undamaged-stands hash image small0 small1 e)
