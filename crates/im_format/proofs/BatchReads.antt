-- Batches that stand are read back, and pass their checks.
use Rattle.std.proofs.Common.{◌≡◌, ◌<◌, ◌≤◌, ◌+◌, ◌-◌, ◌*◌, ◌^◌, suc, zero, ℕ, List, [], ◌∷◌, ◌++◌, length, length-append, map, refl, ap, subst, sym, ◌∙◌, arith, true, false, if◌then◌else◌}
use Rattle.std.proofs.lemmas.Bool.{le-leb, eq-eqb}
use Rattle.std.proofs.lemmas.List.{map-append}
use Rattle.im_digest.specs.Digests.{Hash}
use Rattle.im_disk.specs.Disk.{Files}
use Rattle.im_model.specs.declared.entries.Entry.{Entry}
use Rattle.im_format.specs.Batches.{joined}
use Rattle.im_format.specs.Damages.{Reached, next_id, behind, is_number, from_one, records_checks, batch_checks, batches_checks}
use Rattle.im_format.specs.Reading.{number8, counts, first_at, number_at, end_at, transactions_in, records_end, history_from}
use Rattle.im_format.specs.Records.{entry_octets, entries_octets, record_octets}
use Rattle.im_format.specs.declared.records.Record.{Record}
use Rattle.im_format.specs.declared.references.ValueRef.{ValueRef}
use Rattle.im_format.proofs.FieldLemmas.{number8-held}
use Rattle.im_format.proofs.HeldBatches.{HoldsBatch, HoldsBatches, HasFields, counts-true, counts-false, fields-split}
use Rattle.im_format.proofs.HeldEntries.{HoldsEntries, entry_end}
use Rattle.im_format.proofs.HeldRecords.{HoldsRecord, HoldsRecords, grown, grown_by, length-grown, length-grown_by}
use Rattle.im_format.proofs.MetadataLemmas.{attributes-short}
use Rattle.im_format.proofs.PassLemmas.{pass-both}
use Rattle.im_format.proofs.RecordReads.{RecordsRead, records-read}
use Rattle.im_format.proofs.LengthLemmas.{length-entry, length-record}
use Rattle.im_mtree.proofs.CheckLemmas.{AllHold}

-- an entry has 1075 octets at most
entries-small : (hash : Hash) (image : Files) (id at : ℕ) (entries : List Entry) (refs : List ValueRef) → HoldsEntries hash image id at entries refs → length (entries_octets entries refs) ≤ 1075 * length entries
entries-small hash image id at [] [] h = omega arith
entries-small hash image id at [] (ref ∷ refs) h = absurd h
entries-small hash image id at (entry ∷ entries) [] h = absurd h
entries-small hash image id at (entry ∷ entries) (ref ∷ refs) h =
    let more = entries-small hash image id (entry_end at entry) entries refs h.1 in
    let one = length-entry entry ref h.0.size in
    let md : length entry.md ≤ 2 = attributes-short entry.md h.0.is.deleted h.0.is.non_indexable h.0.is.md in
    let key : length entry.key ≤ 1024 = h.0.is.key_short in
    let both = length-append (entry_octets entry ref) (entries_octets entries refs) in
    omega arith

-- so a record is small
record-small : (hash : Hash) (image : Files) (r : Reached) (rec : Record) → HoldsRecord hash image r rec → length (record_octets (next_id r) rec) ≤ 2 ^ 21
record-small hash image r rec h =
    let entries = entries-small hash image (next_id r) (r.place + 28) rec.tx.entries rec.refs h.entries in
    let few : length rec.tx.entries ≤ 1024 = h.is.few in
    let size : length rec.alh ≡ 32 = h.size in
    let whole = length-record (next_id r) rec in
    omega arith

-- and so are records
pub places-small : (hash : Hash) (image : Files) (r : Reached) (recs : List Record) → r.place ≤ length r.alhs * 2 ^ 21 → HoldsRecords hash image r recs → (grown_by r recs).place ≤ length (grown_by r recs).alhs * 2 ^ 21
places-small hash image r [] small h = small
places-small hash image r (rec ∷ recs) small h =
    let one = record-small hash image r rec h.0 in
    let more = length-grown r rec in
    places-small hash image (grown r rec) recs (omega arith) h.1

-- the fields of a batch that stands
pub record BatchRead (image : Files) (gate : ℕ) (r : Reached) (batch : List Record) : Type 0 where
  pub first : first_at (image 1) gate ≡ next_id r
  pub count : number_at (image 1) gate ≡ length batch
  pub end_is : end_at (image 1) gate ≡ (grown_by r batch).place

batch-read : (hash : Hash) (image : Files) (gate : ℕ) (r : Reached) (batch : List Record) → r.place ≤ length r.alhs * 2 ^ 21 → HoldsBatch hash image gate r batch → BatchRead image gate r batch
batch-read hash image gate r batch small h =
    let fields : HasFields (image 1) gate (next_id r) (length batch) (grown_by r batch).place = fields-split (image 1) gate (next_id r) (length batch) (grown_by r batch).place h.fields in
    let room : length r.alhs + length batch ≤ 1048576 = h.room in
    let more : length (grown_by r batch).alhs ≡ length r.alhs + length batch = length-grown_by r batch in
    let small_end : (grown_by r batch).place ≤ length (grown_by r batch).alhs * 2 ^ 21 = places-small hash image r batch small h.records in
    record {
      first = number8-held (image 1) (gate + 1) (next_id r) (omega arith) fields.of_first;
      count = number8-held (image 1) (gate + 9) (length batch) (omega arith) fields.of_count;
      end_is = number8-held (image 1) (gate + 17) (grown_by r batch).place (omega arith) fields.of_end;
    }

-- a batch that stands passes its checks
batch-passes : (hash : Hash) (image : Files) (gate : ℕ) (r : Reached) (batch : List Record) → HoldsBatch hash image gate r batch → BatchRead image gate r batch → RecordsRead hash image r batch → AllHold (batch_checks hash image gate r)
batch-passes hash image gate r batch h fields read =
    let log : List ℕ = image 1 in
    let room : length r.alhs + length batch ≤ 1048576 = h.room in
    let filled : 1 ≤ length batch = h.filled in
    let ends : number8 log (gate + 17) ≡ (behind hash image (length batch) r).place = fields.end_is ∙ sym (ap (λ (s : Reached). s.place) read.behind_is) in
    let n : ℕ = length batch in
    subst (λ (k : ℕ). AllHold ((is_number 1 log (gate + 1) (next_id r) ∷ from_one 1 (gate + 9) (1048576 - length r.alhs) k)
    ++ (records_checks hash image k r ++ (is_number 1 log (gate + 17) (behind hash image k r).place ∷ [])))) (sym fields.count)
    (pass-both (is_number 1 log (gate + 1) (next_id r) ∷ from_one 1 (gate + 9) (1048576 - length r.alhs) n)
    (records_checks hash image n r ++ (is_number 1 log (gate + 17) (behind hash image n r).place ∷ [])) (
      eq-eqb (number8 log (gate + 1)) (next_id r) fields.first,
      (
        le-leb 1 n filled,
        (le-leb n (1048576 - length r.alhs) (omega arith), tt),
      ),
    )
    (pass-both (records_checks hash image n r) (is_number 1 log (gate + 17) (behind hash image n r).place ∷ []) read.pass
    (eq-eqb (number8 log (gate + 17)) (behind hash image n r).place ends, tt)))

-- what is read of batches that stand
pub record BatchesRead (hash : Hash) (image : Files) (most gate : ℕ) (r : Reached) (batches : List (List Record)) : Type 0 where
  pub history : history_from image most gate r.place ≡ map (λ rec. rec.tx) (joined batches)
  pub pass : AllHold (batches_checks hash image most gate r)

pub batches-read : (hash : Hash) (image : Files) (most gate : ℕ) (r : Reached) (batches : List (List Record)) → length (image 1) ≤ gate + most → r.place ≤ length r.alhs * 2 ^ 21 → HoldsBatches hash image gate r batches → BatchesRead hash image most gate r batches
batches-read hash image zero gate r [] enough small h = record { history = refl; pass = tt }
batches-read hash image zero gate r (batch ∷ batches) enough small h =
    absurd (let whole : gate + 25 < length (image 1) = h.0.counted.whole in omega arith)
batches-read hash image (suc most) gate r [] enough small h =
    let closed : counts (image 1) gate ≡ false = counts-false (image 1) gate h in
    record {
      history = ap (λ b. if b then transactions_in image r.place (number_at (image 1) gate) ++ history_from image most (gate + 25) (records_end image r.place (number_at (image 1) gate)) else []) closed;
      pass = subst (λ b. AllHold (if b then batch_checks hash image gate r ++ batches_checks hash image most (gate + 25) (behind hash image (number_at (image 1) gate) r) else [])) (sym closed) tt;
    }
batches-read hash image (suc most) gate r (batch ∷ batches) enough small h =
    let opened : counts (image 1) gate ≡ true = counts-true (image 1) gate h.0.counted in
    let fields : BatchRead image gate r batch = batch-read hash image gate r batch small h.0 in
    let read : RecordsRead hash image r batch = records-read hash image r batch h.0.records in
    let next : Reached = grown_by r batch in
    let after : next.place ≤ length next.alhs * 2 ^ 21 = places-small hash image r batch small h.0.records in
    let more : BatchesRead hash image most (gate + 25) next batches = batches-read hash image most (gate + 25) next batches (omega arith) after h.1 in
    record {
      history = ap (λ b. if b then transactions_in image r.place (number_at (image 1) gate) ++ history_from image most (gate + 25) (records_end image r.place (number_at (image 1) gate)) else []) opened
          ∙ ap (λ n. transactions_in image r.place n ++ history_from image most (gate + 25) (records_end image r.place n)) fields.count
          ∙ ap (λ ts. ts ++ history_from image most (gate + 25) (records_end image r.place (length batch))) read.txs
          ∙ ap (λ p. map (λ rec. rec.tx) batch ++ history_from image most (gate + 25) p) read.place
          ∙ ap (λ ts. map (λ rec. rec.tx) batch ++ ts) more.history
          ∙ sym (map-append (λ rec. rec.tx) batch (joined batches));
      pass = subst (λ b. AllHold (if b then batch_checks hash image gate r ++ batches_checks hash image most (gate + 25) (behind hash image (number_at (image 1) gate) r) else [])) (sym opened)
          (pass-both (batch_checks hash image gate r) (batches_checks hash image most (gate + 25) (behind hash image (number_at (image 1) gate) r))
          (batch-passes hash image gate r batch h.0 fields read)
          (subst (λ n. AllHold (batches_checks hash image most (gate + 25) (behind hash image n r))) (sym fields.count)
          (subst (λ s. AllHold (batches_checks hash image most (gate + 25) s)) (sym read.behind_is) more.pass)));
    }
