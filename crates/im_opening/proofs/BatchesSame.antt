-- The batches of an image that stands for a history are those that are read.
use Rattle.std.proofs.Common.{◌≡◌, ◌<◌, ◌≤◌, ◌+◌, suc, zero, ℕ, List, [], ◌∷◌, length, map, refl, ap, subst, sym, ◌∙◌, arith, if◌then◌else◌}
use Rattle.im_digest.specs.Digests.{Hash}
use Rattle.im_disk.specs.Disk.{Files}
use Rattle.im_format.specs.Damages.{Reached, at_first, next_id}
use Rattle.im_format.specs.Reading.{Slot, alh_place, count_at, number_at, record_end, records_end, slots_at}
use Rattle.im_format.specs.Records.{record_octets}
use Rattle.im_format.specs.Spans.{octets_at}
use Rattle.im_format.specs.Standing.{HasBatches, Stands}
use Rattle.im_format.specs.declared.records.Record.{Record}
use Rattle.im_format.specs.declared.references.ValueRef.{ValueRef}
use Rattle.im_model.specs.declared.entries.Entry.{Entry}
use Rattle.im_model.specs.declared.transactions.Transaction.{Transaction}
use Rattle.im_record.specs.Back.{record_in}
use Rattle.im_format.proofs.FieldLemmas.{number4-held, number8-held}
use Rattle.im_format.proofs.HeldBatches.{HoldsBatches, counts-false, counts-true, fields-split}
use Rattle.im_format.proofs.HeldEntries.{HoldsEntries, entries_end, entry_end}
use Rattle.im_format.proofs.HeldRecords.{Has32, HoldsRecord, HoldsRecords, entries-end, grown, grown_by}
use Rattle.im_format.proofs.RecordReads.{record-read, records-read}
use Rattle.im_format.proofs.SlotReads.{held-slot}
use Rattle.im_format.proofs.StandReads.{stands-holds}
use Rattle.im_opening.specs.Parts.{batches_from, batches_in, records_in}
use Rattle.im_format.proofs.LengthLemmas.{length-record}

refs-same : (hash : Hash) (image : Files) (id at : ℕ) (entries : List Entry) (refs : List ValueRef) → id ≤ 1048576
    → HoldsEntries hash image id at entries refs → map (λ s. s.ref) (slots_at (image 0) at (length entries)) ≡ refs
refs-same hash image id at [] [] few h = refl
refs-same hash image id at [] (ref ∷ refs) few h = absurd h
refs-same hash image id at (entry ∷ entries) [] few h = absurd h
refs-same hash image id at (entry ∷ entries) (ref ∷ refs) few h =
    let n = length entries in
    ap (λ (s : Slot). s.ref ∷ map (λ s. s.ref) (slots_at (image 0) s.end n)) (held-slot hash image id at entry ref few h.0)
    ∙ ap (λ (rs : List ValueRef). ref ∷ rs) (refs-same hash image id (entry_end at entry) entries refs few h.1)

abbrev record_of : Transaction → List ValueRef → List ℕ → Record
record_of tx refs digest = record { tx = tx; refs = refs; alh = digest }

record-same : (hash : Hash) (image : Files) (r : Reached) (rec : Record) → HoldsRecord hash image r rec → record_in image r.place ≡ rec
record-same hash image r rec h =
    let log = image 0 in
    let first = r.place + 28 in
    let read = record-read hash image r rec h in
    let few : length rec.tx.entries ≤ 1024 = h.is.few in
    let count : count_at log r.place ≡ length rec.tx.entries = number4-held log (r.place + 24) (length rec.tx.entries) (omega (arith, few)) h.count in
    let refs = ap (λ (n : ℕ). map (λ s. s.ref) (slots_at log first n)) count ∙ refs-same hash image (next_id r) first rec.tx.entries rec.refs h.few h.entries in
    let ends = entries-end hash image (next_id r) first rec.tx.entries rec.refs h.entries in
    let whole = length-record (next_id r) rec in
    let size : length rec.alh ≡ 32 = h.size in
    let place : alh_place image r.place + 32 ≡ r.place + length (record_octets (next_id r) rec) = read.place in
    let spot : alh_place image r.place ≡ entries_end first rec.tx.entries = omega (arith, ends, whole, size, place) in
    let digest =
    ap (λ (p : ℕ). octets_at log p 32) spot
    ∙ ap (λ (n : ℕ). octets_at log (entries_end first rec.tx.entries) n) (sym size)
    ∙ h.digest.is
    in
    let seen_refs = map (λ s. s.ref) (slots_at log first (count_at log r.place)) in
    let seen_digest = octets_at log (alh_place image r.place) 32 in
    ap (λ (t : Transaction). record_of t seen_refs seen_digest) read.tx
    ∙ ap (λ (rs : List ValueRef). record_of rec.tx rs seen_digest) refs
    ∙ ap (λ (d : List ℕ). record_of rec.tx rec.refs d) digest

records-same : (hash : Hash) (image : Files) (r : Reached) (recs : List Record) → HoldsRecords hash image r recs → records_in image r.place (length recs) ≡ recs
records-same hash image r [] h = refl
records-same hash image r (rec ∷ recs) h =
    ap (λ (x : Record). x ∷ records_in image (record_end image r.place) (length recs)) (record-same hash image r rec h.0)
    ∙ ap (λ (p : ℕ). rec ∷ records_in image p (length recs)) (record-read hash image r rec h.0).place
    ∙ ap (λ (rs : List Record). rec ∷ rs) (records-same hash image (grown r rec) recs h.1)

batches-by : (hash : Hash) (image : Files) (most gate : ℕ) (r : Reached) (batches : List (List Record)) → length (image 1) ≤ gate + most
    → HoldsBatches hash image gate r batches → batches_from image most gate r.place ≡ batches
batches-by hash image zero gate r [] enough h = refl
batches-by hash image zero gate r (batch ∷ batches) enough h =
    absurd (let whole : gate + 25 < length (image 1) = h.0.counted.whole in omega (arith, whole, enough))
batches-by hash image (suc most) gate r [] enough h =
    let n = number_at (image 1) gate in
    ap (λ b. if b then records_in image r.place n ∷ batches_from image most (gate + 25) (records_end image r.place n) else []) (counts-false (image 1) gate h)
batches-by hash image (suc most) gate r (batch ∷ batches) enough h =
    let n = number_at (image 1) gate in
    let room = h.0.room in
    let fields = fields-split (image 1) gate (next_id r) (length batch) (grown_by r batch).place h.0.fields in
    let count : n ≡ length batch = number8-held (image 1) (gate + 9) (length batch) (omega (arith, room)) fields.of_count in
    ap (λ b. if b then records_in image r.place n ∷ batches_from image most (gate + 25) (records_end image r.place n) else []) (counts-true (image 1) gate h.0.counted)
    ∙ ap (λ (k : ℕ). records_in image r.place k ∷ batches_from image most (gate + 25) (records_end image r.place k)) count
    ∙ ap (λ (rs : List Record). rs ∷ batches_from image most (gate + 25) (records_end image r.place (length batch))) (records-same hash image r batch h.0.records)
    ∙ ap (λ (p : ℕ). batch ∷ batches_from image most (gate + 25) p) (records-read hash image r batch h.0.records).place
    ∙ ap (λ (bs : List (List Record)). batch ∷ bs) (batches-by hash image most (gate + 25) (grown_by r batch) batches (omega (arith, enough)) h.1)

pub batches-read : (hash : Hash) (image : Files) (history : List Transaction) → Has32 hash → (s : Stands hash image history) → batches_in image ≡ s.batches
batches-read hash image history long s = batches-by hash image (length (image 1)) 0 at_first s.batches (omega arith) (stands-holds hash image history long s)

-- so the image has all that stands of those that are read
pub batches-there : (hash : Hash) (image : Files) (history : List Transaction) → Has32 hash → Stands hash image history → HasBatches image (batches_in image)
batches-there hash image history long s = subst (HasBatches image) (sym (batches-read hash image history long s)) s.there
