-- What an image holds of a record, field by field, is what stands of it, by its octets.
use Rattle.std.proofs.Common.{◌≡◌, ◌≤◌, ◌+◌, ℕ, List, [], ◌∷◌, ◌++◌, length, length-append, map, refl, ap, subst, sym, ◌∙◌, arith, All}
use Rattle.std.proofs.lemmas.List.Elements.{All-append, All-cons}
use Rattle.im_octet.specs.Fields.{field4, field8, signed_field8}
use Rattle.im_digest.specs.Digests.{Hash}
use Rattle.im_disk.specs.Disk.{Files}
use Rattle.im_model.specs.History.{Follow, alhs_from, alhs_of}
use Rattle.im_model.specs.declared.entries.Entry.{Entry}
use Rattle.im_model.specs.declared.transactions.Transaction.{Transaction}
use Rattle.im_format.specs.Batches.{entries_spans, value_span, values_spans}
use Rattle.im_format.specs.Damages.{Reached, next_id}
use Rattle.im_format.specs.Places.{refs_of}
use Rattle.im_format.specs.Records.{AreRecords, AreReferences, entries_octets, entry_octets, head_octets, record_octets, records_octets}
use Rattle.im_format.specs.Spans.{Reads}
use Rattle.im_format.specs.Standing.{LiesIn}
use Rattle.im_format.specs.declared.records.Record.{Record}
use Rattle.im_format.specs.declared.references.ValueRef.{ValueRef}
use Rattle.im_format.proofs.EntryLemmas.{entry-joined}
use Rattle.im_format.proofs.HeldEntries.{HoldsEntries, entries_end, entry_end}
use Rattle.im_format.proofs.HeldRecords.{HoldsRecord, HoldsRecords, entries-end, grown, grown_by, length-grown}
use Rattle.im_format.proofs.HoldLemmas.{Holds, holds-at, holds-both}
use Rattle.im_format.proofs.StandSplits.{next-alh}
use Rattle.im_format.proofs.LengthLemmas.{length-entry}
use Rattle.im_octet.proofs.FieldLemmas.{length-field4, length-field8, length-signed}

-- what stands of entries
pub record EntriesStand (hash : Hash) (image : Files) (id at : ℕ) (entries : List Entry) (refs : List ValueRef) : Type 0 where
  pub refer : AreReferences hash id entries refs
  pub holds : Holds (image 0) at (entries_octets entries refs)
  pub lie : All (LiesIn image) refs
  pub read : All (Reads image) (entries_spans entries refs)

entries-joined : (hash : Hash) (image : Files) (id at : ℕ) (entries : List Entry) (refs : List ValueRef) → entries_end at entries ≤ length (image 0) → HoldsEntries hash image id at entries refs → EntriesStand hash image id at entries refs
entries-joined hash image id at [] [] within h = record {
  refer = tt;
  holds = record { within = omega arith; is = refl };
  lie = λ i d l. absurd (omega arith);
  read = λ i d l. absurd (omega arith);
}
entries-joined hash image id at [] (ref ∷ refs) within h = absurd h
entries-joined hash image id at (entry ∷ entries) [] within h = absurd h
entries-joined hash image id at (entry ∷ entries) (ref ∷ refs) within h =
    let more : EntriesStand hash image id (entry_end at entry) entries refs = entries-joined hash image id (entry_end at entry) entries refs within h.1 in
    let one = length-entry entry ref h.0.size in
    let here : Holds (image 0) at (entry_octets entry ref) = entry-joined (image 0) at entry ref h.0.size h.0.has in
    record {
      refer = (h.0.refers, more.refer);
      holds = holds-both (entry_octets entry ref) (entries_octets entries refs) here (holds-at (at + length (entry_octets entry ref)) (omega arith) more.holds);
      lie = All-cons (LiesIn image) ref refs h.0.lies more.lie;
      read = All-cons (Reads image) (value_span entry.value ref) (entries_spans entries refs) h.0.reads more.read;
    }

entries-of : (hash : Hash) (image : Files) (r : Reached) (rec : Record) → HoldsRecord hash image r rec → EntriesStand hash image (next_id r) (r.place + 28) rec.tx.entries rec.refs
entries-of hash image r rec h =
    let last : entries_end (r.place + 28) rec.tx.entries + length rec.alh ≤ length (image 0) = h.digest.within in
    entries-joined hash image (next_id r) (r.place + 28) rec.tx.entries rec.refs (omega arith) h.entries

-- a record, by its octets
record-joined : (hash : Hash) (image : Files) (r : Reached) (rec : Record) → HoldsRecord hash image r rec → Holds (image 0) r.place (record_octets (next_id r) rec)
unfolding record_octets head_octets
record-joined hash image r rec h =
    let id : List ℕ = field8 (next_id r) in
    let ts : List ℕ = signed_field8 rec.tx.ts in
    let bl : List ℕ = field8 rec.tx.bl in
    let count : List ℕ = field4 (length rec.tx.entries) in
    let head : List ℕ = id ++ ts ++ bl ++ count in
    let entries : List ℕ = entries_octets rec.tx.entries rec.refs in
    let long_id = length-field8 (next_id r) in
    let long_ts = length-signed rec.tx.ts in
    let long_bl = length-field8 rec.tx.bl in
    let long_count = length-field4 (length rec.tx.entries) in
    let size_b = length-append id ts in
    let size_c = length-append (id ++ ts) bl in
    let size_d = length-append (id ++ ts ++ bl) count in
    let size_e = length-append head entries in
    let stand : EntriesStand hash image (next_id r) (r.place + 28) rec.tx.entries rec.refs = entries-of hash image r rec h in
    let ends = entries-end hash image (next_id r) (r.place + 28) rec.tx.entries rec.refs h.entries in
    let hb : Holds (image 0) r.place (id ++ ts) = holds-both id ts h.id (holds-at (r.place + length id) (omega arith) h.ts) in
    let hc : Holds (image 0) r.place (id ++ ts ++ bl) = holds-both (id ++ ts) bl hb (holds-at (r.place + length (id ++ ts)) (omega arith) h.bl) in
    let hh : Holds (image 0) r.place head = holds-both (id ++ ts ++ bl) count hc (holds-at (r.place + length (id ++ ts ++ bl)) (omega arith) h.count) in
    let hd : Holds (image 0) r.place (head ++ entries) = holds-both head entries hh (holds-at (r.place + length head) (omega arith) stand.holds) in
    holds-both (head ++ entries) rec.alh hd (holds-at (r.place + length (head ++ entries)) (omega arith) h.digest)

-- records, by their octets
pub records-joined : (hash : Hash) (image : Files) (r : Reached) (recs : List Record) → r.place ≤ length (image 0) → HoldsRecords hash image r recs → Holds (image 0) r.place (records_octets (next_id r) recs)
records-joined hash image r [] within h = record { within = omega arith; is = refl }
records-joined hash image r (rec ∷ recs) within h =
    let one : Holds (image 0) r.place (record_octets (next_id r) rec) = record-joined hash image r rec h.0 in
    let more : Holds (image 0) (grown r rec).place (records_octets (next_id (grown r rec)) recs) = records-joined hash image (grown r rec) recs one.within h.1 in
    let same : next_id (grown r rec) ≡ next_id r + 1 = ap (λ n. n + 1) (length-grown r rec) in
    holds-both (record_octets (next_id r) rec) (records_octets (next_id r + 1) recs) one
    (subst (λ n. Holds (image 0) (grown r rec).place (records_octets n recs)) same more)

-- and their values
pub values-joined : (hash : Hash) (image : Files) (r : Reached) (recs : List Record) → HoldsRecords hash image r recs → All (Reads image) (values_spans recs)
values-joined hash image r [] h = λ i d l. absurd (omega arith)
values-joined hash image r (rec ∷ recs) h =
    All-append (Reads image) (entries_spans rec.tx.entries rec.refs) (values_spans recs) (entries-of hash image r rec h.0).read (values-joined hash image (grown r rec) recs h.1)

pub values-lie : (hash : Hash) (image : Files) (r : Reached) (recs : List Record) → HoldsRecords hash image r recs → All (LiesIn image) (refs_of recs)
values-lie hash image r [] h = λ i d l. absurd (omega arith)
values-lie hash image r (rec ∷ recs) h =
    All-append (LiesIn image) rec.refs (refs_of recs) (entries-of hash image r rec h.0).lie (values-lie hash image (grown r rec) recs h.1)

-- records that stand follow each other
pub records-follow : (hash : Hash) (image : Files) (r : Reached) (recs : List Record) → HoldsRecords hash image r recs → Follow (length r.alhs) r.bl (map (λ rec. rec.tx) recs)
records-follow hash image r [] h = tt
records-follow hash image r (rec ∷ recs) h =
    (h.0.is, h.0.rises, subst (λ n. Follow n rec.tx.bl (map (λ rec. rec.tx) recs)) (length-grown r rec) (records-follow hash image (grown r rec) recs h.1))

-- and are not too many
pub records-few : (hash : Hash) (image : Files) (r : Reached) (recs : List Record) → length r.alhs ≤ 1048576 → HoldsRecords hash image r recs → length r.alhs + length recs ≤ 1048576
records-few hash image r [] few h = omega arith
records-few hash image r (rec ∷ recs) few h =
    let here : length r.alhs + 1 ≤ 1048576 = h.0.few in
    let longer = length-grown r rec in
    let more : length (grown r rec).alhs + length recs ≤ 1048576 = records-few hash image (grown r rec) recs (omega arith) h.1 in
    omega arith

-- and are those of their history
pub records-are : (hash : Hash) (image : Files) (history : List Transaction) (r : Reached) (recs : List Record) → alhs_of hash history ≡ alhs_from hash r.alhs (map (λ rec. rec.tx) recs) → HoldsRecords hash image r recs → AreRecords hash history (next_id r) recs
records-are hash image history r [] e h = tt
records-are hash image history r (rec ∷ recs) e h =
    let txs : List Transaction = map (λ rec. rec.tx) recs in
    let more : AreRecords hash history (next_id (grown r rec)) recs =
    records-are hash image history (grown r rec) recs (e ∙ ap (λ a. alhs_from hash (r.alhs ++ a ∷ []) txs) (sym h.0.digest_is)) h.1 in (
      record {
        refs = (entries-of hash image r rec h.0).refer;
        alh = h.0.digest_is ∙ sym (next-alh hash history r.alhs rec.tx txs e);
      },
      subst (λ n. AreRecords hash history (n + 1) recs) (length-grown r rec) more,
    )

-- records that stand, one list behind the other
pub records-append : (hash : Hash) (image : Files) (r : Reached) (recs rest : List Record) → HoldsRecords hash image r recs → HoldsRecords hash image (grown_by r recs) rest → HoldsRecords hash image r (recs ++ rest)
records-append hash image r [] rest h k = k
records-append hash image r (rec ∷ recs) rest h k = (h.0, records-append hash image (grown r rec) recs rest h.1 k)
