-- For each history an image that stands for it: one batch, and all values in the first value log.
use Rattle.std.proofs.Common.{◌≡◌, ◌<◌, ◌≤◌, ◌+◌, ◌*◌, ◌^◌, suc, zero, ℕ, List, [], ◌∷◌, ◌++◌, length, length-append, map, refl, ap, subst, sym, ◌∙◌, arith, All}
use Rattle.std.proofs.lemmas.List.{append-nil, take_all, take_at}
use Rattle.std.proofs.lemmas.List.Elements.{All-append, All-cons}
use Rattle.im_digest.specs.Digests.{Hash}
use Rattle.im_disk.specs.Disk.{Files}
use Rattle.im_model.specs.Headers.{alh}
use Rattle.im_model.specs.History.{Follow, IsEntry, IsHistory, alhs_from, alhs_of, next_header}
use Rattle.im_model.specs.declared.entries.Entry.{Entry}
use Rattle.im_model.specs.declared.transactions.Transaction.{Transaction}
use Rattle.im_format.specs.Batches.{Counts, batch_fields, entries_spans, gate_of, value_span, values_spans}
use Rattle.im_format.specs.Places.{refs_of}
use Rattle.im_format.specs.Records.{AreRecords, AreReferences, records_octets}
use Rattle.im_format.specs.Spans.{Reads, octet_span}
use Rattle.im_format.specs.Standing.{LiesIn, Stands}
use Rattle.im_format.specs.declared.records.Record.{Record}
use Rattle.im_format.specs.declared.references.ValueRef.{ValueRef}
use Rattle.im_format.specs.declared.spans.Span.{Span}
use Rattle.im_format.proofs.EmptyLemmas.{empty-stands}
use Rattle.im_format.proofs.HoldLemmas.{Holds, holds-left, holds-right}
use Rattle.im_format.proofs.StandSplits.{next-alh}
use Rattle.im_format.proofs.LengthLemmas.{length-fields}

-- the values of entries, one behind the other, and references to them from a place on
abbrev values_of : List Entry → List ℕ
values_of [] = []
values_of (entry ∷ entries) = entry.value ++ values_of entries

abbrev reference_to : Hash → ℕ → Entry → ValueRef
reference_to hash place entry = record { hval = hash entry.value; len = length entry.value; log = 0; at = place }

abbrev references_to : Hash → ℕ → List Entry → List ValueRef
references_to hash place [] = []
references_to hash place (entry ∷ entries) = reference_to hash place entry ∷ references_to hash (place + length entry.value) entries

-- those of transactions
abbrev all_values : List Transaction → List ℕ
all_values [] = []
all_values (tx ∷ txs) = values_of tx.entries ++ all_values txs

-- the records of transactions behind others with these Alh
abbrev records_to : Hash → List (List ℕ) → ℕ → List Transaction → List Record
records_to hash alhs place [] = []
records_to hash alhs place (tx ∷ txs) =
    record { tx = tx; refs = references_to hash place tx.entries; alh = alh hash (next_header hash alhs tx) }
    ∷ records_to hash (alhs ++ alh hash (next_header hash alhs tx) ∷ []) (place + length (values_of tx.entries)) txs

-- two logs, and one value log
abbrev files_of : List ℕ → List ℕ → List ℕ → Files
files_of log batches values zero = log
files_of log batches values (suc zero) = batches
files_of log batches values (suc (suc zero)) = values
files_of log batches values (suc (suc (suc file))) = []

values-small : (entries : List Entry) → All IsEntry entries → length (values_of entries) ≤ 4096 * length entries
values-small [] h = omega arith
values-small (entry ∷ entries) h =
    let here : IsEntry entry = h 0 entry (omega arith) in
    let one : length entry.value ≤ 4096 = here.value_short in
    let more = values-small entries (λ i d l. h (suc i) d (omega arith)) in
    let both = length-append entry.value (values_of entries) in
    omega arith

-- what is so of entries whose values stand
record EntriesWritten (hash : Hash) (image : Files) (id place : ℕ) (entries : List Entry) : Type 0 where
  pub refer : AreReferences hash id entries (references_to hash place entries)
  pub lie : All (LiesIn image) (references_to hash place entries)
  pub read : All (Reads image) (entries_spans entries (references_to hash place entries))

entries-written : (hash : Hash) (image : Files) (id place : ℕ) (entries : List Entry) → All IsEntry entries → place + 4096 * length entries ≤ id * 2 ^ 22 → Holds (image 2) place (values_of entries) → EntriesWritten hash image id place entries
entries-written hash image id place [] is room h = record { refer = tt; lie = λ i d l. absurd (omega arith); read = λ i d l. absurd (omega arith) }
entries-written hash image id place (entry ∷ entries) is room h =
    let here : IsEntry entry = is 0 entry (omega arith) in
    let small : length entry.value ≤ 4096 = here.value_short in
    let ref : ValueRef = reference_to hash place entry in
    let value : Holds (image 2) place entry.value = holds-left entry.value (values_of entries) h in
    let next : ℕ = place + length entry.value in
    let more : EntriesWritten hash image id next entries =
    entries-written hash image id next entries (λ i d l. is (suc i) d (omega arith)) (omega arith) (holds-right entry.value (values_of entries) h) in
    record {
      refer = (record { hval = refl; len = refl; log = omega arith; room = omega arith }, more.refer);
      lie = All-cons (LiesIn image) ref (references_to hash next entries) (record { within = value.within }) more.lie;
      read = All-cons (Reads image) (value_span entry.value ref) (entries_spans entries (references_to hash next entries)) (record { reads = value.is }) more.read;
    }

-- what is so of records whose values stand
record RecordsWritten (hash : Hash) (image : Files) (history : List Transaction) (id : ℕ) (txs : List Transaction) (recs : List Record) : Type 0 where
  pub txs_are : map (λ r. r.tx) recs ≡ txs
  pub are : AreRecords hash history id recs
  pub lie : All (LiesIn image) (refs_of recs)
  pub read : All (Reads image) (values_spans recs)

records-written : (hash : Hash) (image : Files) (history : List Transaction) (alhs : List (List ℕ)) (bl place : ℕ) (txs : List Transaction) → Follow (length alhs) bl txs → alhs_of hash history ≡ alhs_from hash alhs txs
    → place ≤ length alhs * 2 ^ 22 → Holds (image 2) place (all_values txs) → RecordsWritten hash image history (length alhs + 1) txs (records_to hash alhs place txs)
records-written hash image history alhs bl place [] follow e room h = record { txs_are = refl; are = tt; lie = λ i d l. absurd (omega arith); read = λ i d l. absurd (omega arith) }
records-written hash image history alhs bl place (tx ∷ txs) follow e room h =
    let values : List ℕ = values_of tx.entries in
    let digest : List ℕ = alh hash (next_header hash alhs tx) in
    let longer : length (alhs ++ digest ∷ []) ≡ length alhs + 1 = length-append alhs (digest ∷ []) in
    let next : ℕ = place + length values in
    let few : length tx.entries ≤ 1024 = follow.0.few in
    let small = values-small tx.entries follow.0.entries in
    let one : EntriesWritten hash image (length alhs + 1) place tx.entries =
    entries-written hash image (length alhs + 1) place tx.entries follow.0.entries (omega arith) (holds-left values (all_values txs) h) in
    let on : Follow (length (alhs ++ digest ∷ [])) tx.bl txs = subst (λ n. Follow n tx.bl txs) (sym longer) follow.2 in
    let more : RecordsWritten hash image history (length (alhs ++ digest ∷ []) + 1) txs (records_to hash (alhs ++ digest ∷ []) next txs) =
    records-written hash image history (alhs ++ digest ∷ []) tx.bl next txs on e (omega arith) (holds-right values (all_values txs) h) in
    let recs : List Record = records_to hash (alhs ++ digest ∷ []) next txs in
    let refs : List ValueRef = references_to hash place tx.entries in
    record {
      txs_are = ap (λ ts. tx ∷ ts) more.txs_are;
      are = (record { refs = one.refer; alh = sym (next-alh hash history alhs tx txs e) }, subst (λ n. AreRecords hash history (n + 1) recs) longer more.are);
      lie = All-append (LiesIn image) refs (refs_of recs) one.lie more.lie;
      read = All-append (Reads image) (entries_spans tx.entries refs) (values_spans recs) one.read more.read;
    }

-- a commit log of one batch
abbrev one_batch : List ℕ → List ℕ
one_batch fields = 1 ∷ fields ++ 0 ∷ []

one-counts : (fields : List ℕ) → length fields ≡ 24 → (b : ℕ) → b < 1 → Counts (one_batch fields) (gate_of b)
one-counts fields size zero l = record { opened = refl; whole = omega (arith, length-append fields (0 ∷ [])) }
one-counts fields size (suc b) l = absurd (omega arith)

one-last : (fields : List ℕ) → length fields ≡ 24 → Counts (one_batch fields) (gate_of 1) → ⊥
one-last fields size c = let whole : gate_of 1 + 25 < length (one_batch fields) = c.whole in omega (arith, length-append fields (0 ∷ []))

written-stands : (hash : Hash) (tx : Transaction) (txs : List Transaction) → IsHistory (tx ∷ txs) → (image : Files) × Stands hash image (tx ∷ txs)
written-stands hash tx txs is =
    let history : List Transaction = tx ∷ txs in
    let recs : List Record = records_to hash [] 0 history in
    let octets : List ℕ = records_octets 1 recs in
    let fields : List ℕ = batch_fields 1 (length recs) (0 + length octets) in
    let values : List ℕ = all_values history in
    let image : Files = files_of octets (one_batch fields) values in
    let size : length fields ≡ 24 = length-fields 1 (length recs) (0 + length octets) in
    let held : Holds values 0 values = record { within = omega arith; is = take_all (length values) values (omega arith) } in
    let written : RecordsWritten hash image history 1 history recs = records-written hash image history [] 0 0 history is.follow refl (omega arith) held in
    let whole : recs ++ [] ≡ recs = append-nil recs in
    let gate : Span = octet_span 1 0 1 in
    let of_fields : Span = record { file = 1; at = 0 + 1; octets = fields } in
    let of_records : Span = record { file = 0; at = 0; octets = octets } in (
      image,
      record {
        batches = recs ∷ [];
        there = record {
          counted = one-counts fields size;
          last = one-last fields size;
          filled = All-cons (λ batch. 1 ≤ length batch) recs [] (omega arith) (λ i d l. absurd (omega arith));
          reads = All-append (Reads image) (gate ∷ of_fields ∷ of_records ∷ values_spans recs) []
              (All-cons (Reads image) gate (of_fields ∷ of_records ∷ values_spans recs) (record { reads = refl })
              (All-cons (Reads image) of_fields (of_records ∷ values_spans recs) (record { reads = take_at fields (0 ∷ []) (length fields) refl })
              (All-cons (Reads image) of_records (values_spans recs) (record { reads = take_all (length octets) octets (omega arith) }) written.read)))
              (λ i d l. absurd (omega arith));
          lie = subst (λ rs. All (LiesIn image) (refs_of rs)) (sym whole) written.lie;
        };
        transactions_are = ap (λ rs. map (λ r. r.tx) rs) whole ∙ written.txs_are;
        history_is = is;
        records_are = subst (λ rs. AreRecords hash history 1 rs) (sym whole) written.are;
      },
    )

-- each history has an image that stands for it
pub each-stands : (hash : Hash) (history : List Transaction) → IsHistory history → (image : Files) × Stands hash image history
each-stands hash [] is = ((λ (file : ℕ). []), empty-stands hash)
each-stands hash (tx ∷ txs) is = written-stands hash tx txs is
