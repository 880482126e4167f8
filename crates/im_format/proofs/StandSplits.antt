-- What stands of a record, by its octets, is what an image holds of it, field by field.
use Rattle.std.proofs.Common.{◌≡◌, ◌≤◌, ◌+◌, ◌-◌, suc, ℕ, List, [], ◌∷◌, ◌++◌, length, length-append, map, get_or, ap, subst, sym, ◌∙◌, arith, All, if◌then◌else◌, drop, take}
use Rattle.std.proofs.Math.Seq.{get_or-append_seam}
use Rattle.std.proofs.lemmas.Bool.{ne_eqb}
use Rattle.std.proofs.lemmas.List.{length-take, length-drop}
use Rattle.im_octet.specs.Fields.{field4, field8, signed_field8}
use Rattle.im_digest.specs.Digests.{Hash}
use Rattle.im_disk.specs.Disk.{Files}
use Rattle.im_model.specs.Headers.{alh, alh_string}
use Rattle.im_model.specs.History.{Follow, IsEntry, IsTransaction, alh_of, alhs_from, alhs_of, first_alh, next_header}
use Rattle.im_model.proofs.HeaderLemmas.{alhs_from-first}
use Rattle.im_model.specs.declared.entries.Entry.{Entry}
use Rattle.im_model.specs.declared.transactions.Transaction.{Transaction}
use Rattle.im_format.specs.Batches.{entries_spans, values_spans}
use Rattle.im_format.specs.Damages.{Reached, next_id}
use Rattle.im_format.specs.Places.{refs_of}
use Rattle.im_format.specs.Records.{AreRecords, AreReferences, entry_octets, entries_octets, head_octets, record_octets, records_octets}
use Rattle.im_format.specs.Spans.{Reads}
use Rattle.im_format.specs.Standing.{LiesIn}
use Rattle.im_format.specs.declared.records.Record.{Record}
use Rattle.im_format.specs.declared.references.ValueRef.{ValueRef}
use Rattle.im_format.specs.declared.spans.Span.{Span}
use Rattle.im_format.proofs.EntryLemmas.{entry-split}
use Rattle.im_format.proofs.HeldEntries.{HoldsEntries, entries_end, entry_end}
use Rattle.im_format.proofs.HeldRecords.{Has32, HoldsRecord, HoldsRecords, grown, grown_by, entries-end, length-grown}
use Rattle.im_format.proofs.HoldLemmas.{Holds, holds-at, holds-left, holds-right}
use Rattle.im_format.proofs.LengthLemmas.{length-entry}
use Rattle.im_octet.proofs.FieldLemmas.{length-field4, length-field8, length-signed}
use Rattle.im_octet.proofs.Common.{all-left, all-right}

-- octets that are read lie within the file, where there are any
pub reads-holds : (image : Files) (s : Span) → 1 ≤ length s.octets → Reads image s → Holds (image s.file) s.at s.octets
reads-holds image s some h =
    let long = length-take (length s.octets) (drop s.at (image s.file)) in
    let rest = length-drop s.at (image s.file) in
    let same : length (take (length s.octets) (drop s.at (image s.file))) ≡ length s.octets = ap length h.reads in
    record { within = omega arith; is = h.reads }

-- entries, by their octets
entries-split : (hash : Hash) (image : Files) (id at : ℕ) (entries : List Entry) (refs : List ValueRef) → Has32 hash → All IsEntry entries → AreReferences hash id entries refs
    → Holds (image 0) at (entries_octets entries refs) → All (LiesIn image) refs → All (Reads image) (entries_spans entries refs) → HoldsEntries hash image id at entries refs
entries-split hash image id at [] [] long is refer h lie read = tt
entries-split hash image id at [] (ref ∷ refs) long is refer h lie read = refer
entries-split hash image id at (entry ∷ entries) [] long is refer h lie read = refer
entries-split hash image id at (entry ∷ entries) (ref ∷ refs) long is refer h lie read =
    let hval : length ref.hval ≡ 32 = ap length refer.0.hval ∙ long.long entry.value in
    let size = length-entry entry ref hval in
    let front = holds-left (entry_octets entry ref) (entries_octets entries refs) h in
    let back = holds-at (entry_end at entry) (omega arith) (holds-right (entry_octets entry ref) (entries_octets entries refs) h) in (
      record {
        is = is 0 entry (omega arith);
        refers = refer.0;
        size = hval;
        has = entry-split (image 0) at entry ref hval front;
        lies = lie 0 ref (omega arith);
        reads = read 0 (record { file = 2 + ref.log; at = ref.at; octets = entry.value }) (omega arith);
      },
      entries-split hash image id (entry_end at entry) entries refs long (λ i d l. is (suc i) d (omega arith)) refer.1 back
          (λ i d l. lie (suc i) d (omega arith)) (λ i d l. read (suc i) d (omega arith)),
    )

-- what is known of a record by its history
pub record IsNext (hash : Hash) (r : Reached) (rec : Record) : Type 0 where
  pub is : IsTransaction (length r.alhs) rec.tx
  pub rises : r.bl ≤ rec.tx.bl
  pub few : length r.alhs + 1 ≤ 1048576
  pub refer : AreReferences hash (next_id r) rec.tx.entries rec.refs
  pub digest_is : rec.alh ≡ alh hash (next_header hash r.alhs rec.tx)

-- a record, by its octets
record-split : (hash : Hash) (image : Files) (r : Reached) (rec : Record) → Has32 hash → IsNext hash r rec → Holds (image 0) r.place (record_octets (next_id r) rec)
    → All (LiesIn image) rec.refs → All (Reads image) (entries_spans rec.tx.entries rec.refs) → HoldsRecord hash image r rec
unfolding record_octets head_octets
record-split hash image r rec long next h lie read =
    let id : List ℕ = field8 (next_id r) in
    let ts : List ℕ = signed_field8 rec.tx.ts in
    let bl : List ℕ = field8 rec.tx.bl in
    let count : List ℕ = field4 (length rec.tx.entries) in
    let head : List ℕ = id ++ ts ++ bl ++ count in
    let entries : List ℕ = entries_octets rec.tx.entries rec.refs in
    let long_id = length-field8 (next_id r) in
    let long_ts = length-signed rec.tx.ts in
    let long_bl = length-field8 rec.tx.bl in
    let long_count = length-field4 (length rec.tx.entries) in
    let size_b = length-append id ts in
    let size_c = length-append (id ++ ts) bl in
    let size_d = length-append (id ++ ts ++ bl) count in
    let size_e = length-append head entries in
    let hd = holds-left (head ++ entries) rec.alh h in
    let hh = holds-left head entries hd in
    let hc = holds-left (id ++ ts ++ bl) count hh in
    let hb = holds-left (id ++ ts) bl hc in
    let held : HoldsEntries hash image (next_id r) (r.place + 28) rec.tx.entries rec.refs =
    entries-split hash image (next_id r) (r.place + 28) rec.tx.entries rec.refs long next.is.entries next.refer
    (holds-at (r.place + 28) (omega arith) (holds-right head entries hd)) lie read in
    let ends = entries-end hash image (next_id r) (r.place + 28) rec.tx.entries rec.refs held in
    record {
      is = next.is;
      rises = next.rises;
      few = next.few;
      id = holds-left id ts hb;
      ts = holds-at (r.place + 8) (omega arith) (holds-right id ts hb);
      bl = holds-at (r.place + 16) (omega arith) (holds-right (id ++ ts) bl hc);
      count = holds-at (r.place + 24) (omega arith) (holds-right (id ++ ts ++ bl) count hh);
      entries = held;
      digest = holds-at (entries_end (r.place + 28) rec.tx.entries) (omega arith) (holds-right (head ++ entries) rec.alh h);
      digest_is = next.digest_is;
      size = ap length next.digest_is ∙ long.long (alh_string hash (next_header hash r.alhs rec.tx));
    }

-- what is known of the records that follow, by their history
pub record Goes (hash : Hash) (image : Files) (history : List Transaction) (r : Reached) (recs : List Record) : Type 0 where
  pub follow : Follow (length r.alhs) r.bl (map (λ rec. rec.tx) recs)
  pub are : AreRecords hash history (next_id r) recs
  pub digests : alhs_of hash history ≡ alhs_from hash r.alhs (map (λ rec. rec.tx) recs)
  pub lie : All (LiesIn image) (refs_of recs)
  pub few : length r.alhs + length recs ≤ 1048576

-- the Alh of the next transaction
pub next-alh : (hash : Hash) (history : List Transaction) (alhs : List (List ℕ)) (tx : Transaction) (txs : List Transaction) → alhs_of hash history ≡ alhs_from hash alhs (tx ∷ txs) → alh_of hash history (length alhs + 1) ≡ alh hash (next_header hash alhs tx)
next-alh hash history alhs tx txs e =
    let a : List ℕ = alh hash (next_header hash alhs tx) in
    let n : ℕ = length alhs in
    let place : n + 1 - 1 ≡ n = omega arith in
    let longer : length (alhs ++ a ∷ []) ≡ n + 1 = length-append alhs (a ∷ []) in
    ap (λ b. if b then first_alh hash else get_or (alhs_of hash history) (n + 1 - 1) []) (ne_eqb (n + 1) 0 (λ e. omega arith))
    ∙ ap (λ i. get_or (alhs_of hash history) i []) place
    ∙ ap (λ (l : List (List ℕ)). get_or l n []) e
    ∙ alhs_from-first hash (alhs ++ a ∷ []) txs n [] (omega arith)
    ∙ get_or-append_seam alhs a [] []

goes-next : (hash : Hash) (image : Files) (history : List Transaction) (r : Reached) (rec : Record) (recs : List Record) → Goes hash image history r (rec ∷ recs) → IsNext hash r rec
goes-next hash image history r rec recs h =
    let few : length r.alhs + suc (length recs) ≤ 1048576 = h.few in
    record {
      is = h.follow.0;
      rises = h.follow.1;
      few = omega arith;
      refer = h.are.0.refs;
      digest_is = h.are.0.alh ∙ next-alh hash history r.alhs rec.tx (map (λ rec. rec.tx) recs) h.digests;
    }

goes-on : (hash : Hash) (image : Files) (history : List Transaction) (r : Reached) (rec : Record) (recs : List Record) → Goes hash image history r (rec ∷ recs) → Goes hash image history (grown r rec) recs
goes-on hash image history r rec recs h =
    let next : IsNext hash r rec = goes-next hash image history r rec recs h in
    let more : length (grown r rec).alhs ≡ length r.alhs + 1 = length-grown r rec in
    let few : length r.alhs + suc (length recs) ≤ 1048576 = h.few in
    record {
      follow = subst (λ n. Follow n rec.tx.bl (map (λ rec. rec.tx) recs)) (sym more) h.follow.2;
      are = subst (λ n. AreRecords hash history (n + 1) recs) (sym more) h.are.1;
      digests = h.digests ∙ ap (λ a. alhs_from hash (r.alhs ++ a ∷ []) (map (λ rec. rec.tx) recs)) (sym next.digest_is);
      lie = all-right (LiesIn image) rec.refs (refs_of recs) h.lie;
      few = omega arith;
    }

-- records that are followed by others
pub record SplitRecords (hash : Hash) (image : Files) (history : List Transaction) (r : Reached) (recs rest : List Record) : Type 0 where
  pub held : HoldsRecords hash image r recs
  pub on : Goes hash image history (grown_by r recs) rest

pub records-split : (hash : Hash) (image : Files) (history : List Transaction) (r : Reached) (recs rest : List Record) → Has32 hash → Goes hash image history r (recs ++ rest)
    → Holds (image 0) r.place (records_octets (next_id r) recs) → All (Reads image) (values_spans recs) → SplitRecords hash image history r recs rest
records-split hash image history r [] rest long goes h read = record { held = tt; on = goes }
records-split hash image history r (rec ∷ recs) rest long goes h read =
    let next : IsNext hash r rec = goes-next hash image history r rec (recs ++ rest) goes in
    let one : List ℕ = record_octets (next_id r) rec in
    let others : List ℕ = records_octets (next_id r + 1) recs in
    let same : next_id r + 1 ≡ next_id (grown r rec) = ap (λ n. n + 1) (sym (length-grown r rec)) in
    let back : Holds (image 0) (grown r rec).place (records_octets (next_id (grown r rec)) recs) =
    subst (λ n. Holds (image 0) (grown r rec).place (records_octets n recs)) same (holds-right one others h) in
    let spans : List Span = entries_spans rec.tx.entries rec.refs in
    let more : SplitRecords hash image history (grown r rec) recs rest =
    records-split hash image history (grown r rec) recs rest long (goes-on hash image history r rec (recs ++ rest) goes) back (all-right (Reads image) spans (values_spans recs) read) in
    record {
      held = (record-split hash image r rec long next (holds-left one others h) (all-left (LiesIn image) rec.refs (refs_of (recs ++ rest)) goes.lie) (all-left (Reads image) spans (values_spans recs) read), more.held);
      on = more.on;
    }
