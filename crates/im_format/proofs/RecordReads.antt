-- A record that stands is read back, and passes its checks.
use Rattle.std.proofs.Common.{◌≡◌, ◌≤◌, ◌+◌, ◌-◌, ℕ, List, [], ◌∷◌, ◌++◌, length, map, refl, ap, subst, sym, ◌∙◌, arith}
use Rattle.std.proofs.lemmas.Bool.{le-leb, eq-eqb}
use Rattle.im_octet.specs.Fields.{field4, field8, signed_field8}
use Rattle.im_digest.specs.Digests.{Hash}
use Rattle.im_disk.specs.Disk.{Files}
use Rattle.im_model.specs.Headers.{alh}
use Rattle.im_model.specs.History.{next_header}
use Rattle.im_format.specs.Damages.{Reached, next_id, next_alh, behind_one, behind, head_checks, slots_checks, alh_checks, record_checks, records_checks}
use Rattle.im_format.specs.Reading.{number8, slots_at, slots_end, entry_in, ts_at, bl_at, count_at, alh_place, record_end, transaction_in, transactions_in, records_end}
use Rattle.im_format.specs.Spans.{octets_at}
use Rattle.im_format.specs.declared.records.Record.{Record}
use Rattle.im_format.proofs.FieldLemmas.{number4-held, number8-held, signed-held}
use Rattle.im_format.proofs.HeldEntries.{entries_end}
use Rattle.im_format.proofs.HeldRecords.{HoldsRecord, HoldsRecords, grown, grown_by, entries-end, reached_of, tx_of}
use Rattle.im_format.proofs.HoldLemmas.{Holds}
use Rattle.im_format.proofs.KeyLemmas.{distinct-apart}
use Rattle.im_format.proofs.PassLemmas.{pass-both}
use Rattle.im_format.proofs.SlotReads.{EntriesRead, entries-read}
use Rattle.im_octet.proofs.FieldLemmas.{length-field4, length-field8, length-signed}
use Rattle.im_format.proofs.LengthLemmas.{length-record}
use Rattle.im_octet.proofs.Common.{bytes-same}
use Rattle.im_mtree.proofs.CheckLemmas.{AllHold}

-- the fields of a record's head
pub record HeadRead (image : Files) (r : Reached) (rec : Record) : Type 0 where
  pub id : number8 (image 0) r.place ≡ next_id r
  pub ts : ts_at (image 0) r.place ≡ rec.tx.ts
  pub bl : bl_at (image 0) r.place ≡ rec.tx.bl
  pub count : count_at (image 0) r.place ≡ length rec.tx.entries

head-read : (hash : Hash) (image : Files) (r : Reached) (rec : Record) → HoldsRecord hash image r rec → HeadRead image r rec
head-read hash image r rec h =
    let few : length r.alhs + 1 ≤ 1048576 = h.few in
    let linked : rec.tx.bl ≤ length r.alhs = h.is.linked in
    let entries : length rec.tx.entries ≤ 1024 = h.is.few in
    record {
      id = number8-held (image 0) r.place (next_id r) (omega arith) h.id;
      ts = signed-held (image 0) (r.place + 8) rec.tx.ts h.is.timed h.ts;
      bl = number8-held (image 0) (r.place + 16) rec.tx.bl (omega arith) h.bl;
      count = number4-held (image 0) (r.place + 24) (length rec.tx.entries) (omega arith) h.count;
    }

head-passes : (hash : Hash) (image : Files) (r : Reached) (rec : Record) → HoldsRecord hash image r rec → HeadRead image r rec → AllHold (head_checks (image 0) (next_id r) r.bl r.place)
head-passes hash image r rec h e =
    let log : List ℕ = image 0 in
    let id : r.place + length (field8 (next_id r)) ≤ length log = h.id.within in
    let ts : r.place + 8 + length (signed_field8 rec.tx.ts) ≤ length log = h.ts.within in
    let bl : r.place + 16 + length (field8 rec.tx.bl) ≤ length log = h.bl.within in
    let count : r.place + 24 + length (field4 (length rec.tx.entries)) ≤ length log = h.count.within in
    let long_id = length-field8 (next_id r) in
    let long_ts = length-signed rec.tx.ts in
    let long_bl = length-field8 rec.tx.bl in
    let long_count = length-field4 (length rec.tx.entries) in
    let bl_is : bl_at log r.place ≡ rec.tx.bl = e.bl in
    let count_is : count_at log r.place ≡ length rec.tx.entries = e.count in
    let rises : r.bl ≤ rec.tx.bl = h.rises in
    let linked : rec.tx.bl ≤ length r.alhs = h.is.linked in
    let some : 1 ≤ length rec.tx.entries = h.is.some in
    let few : length rec.tx.entries ≤ 1024 = h.is.few in (
      le-leb (r.place + 8) (length log) (omega arith),
      (
        eq-eqb (number8 log r.place) (next_id r) e.id,
        (
          le-leb (r.place + 8 + 8) (length log) (omega arith),
          (
            le-leb (r.place + 16 + 8) (length log) (omega arith),
            (
              le-leb r.bl (bl_at log r.place) (omega arith),
              (
                le-leb (bl_at log r.place) (next_id r - 1) (omega arith),
                (
                  le-leb (r.place + 24 + 4) (length log) (omega arith),
                  (
                    le-leb 1 (count_at log r.place) (omega arith),
                    (le-leb (count_at log r.place) 1024 (omega arith), tt),
                  ),
                ),
              ),
            ),
          ),
        ),
      ),
    )

-- what is read of a record that stands
pub record RecordRead (hash : Hash) (image : Files) (r : Reached) (rec : Record) : Type 0 where
  pub tx : transaction_in image r.place ≡ rec.tx
  pub place : record_end image r.place ≡ (grown r rec).place
  pub behind : behind_one hash image r ≡ grown r rec
  pub pass : AllHold (record_checks hash image r)

alh-passes : (log : List ℕ) (at : ℕ) (digest : List ℕ) → length digest ≡ 32 → Holds log at digest → AllHold (alh_checks log at digest)
alh-passes log at digest long h =
    let within : at + length digest ≤ length log = h.within in (
      le-leb (at + 32) (length log) (omega arith),
      (bytes-same (octets_at log at 32) digest (ap (λ n. octets_at log at n) (sym long) ∙ h.is), tt),
    )

pub record-read : (hash : Hash) (image : Files) (r : Reached) (rec : Record) → HoldsRecord hash image r rec → RecordRead hash image r rec
record-read hash image r rec h =
    let head : HeadRead image r rec = head-read hash image r rec h in
    let log : List ℕ = image 0 in
    let first : ℕ = r.place + 28 in
    let read : EntriesRead hash image (next_id r) [] first rec.tx.entries rec.refs =
    entries-read hash image (next_id r) [] first rec.tx.entries rec.refs h.few (distinct-apart rec.tx.entries h.is.distinct) h.entries in
    let tx : transaction_in image r.place ≡ rec.tx =
    ap (λ t. tx_of t (map (entry_in image) (slots_at log first (count_at log r.place))) (bl_at log r.place)) head.ts
    ∙ ap (λ n. tx_of rec.tx.ts (map (entry_in image) (slots_at log first n)) (bl_at log r.place)) head.count
    ∙ ap (λ es. tx_of rec.tx.ts es (bl_at log r.place)) read.are
    ∙ ap (λ b. tx_of rec.tx.ts rec.tx.entries b) head.bl in
    let spot : alh_place image r.place ≡ entries_end first rec.tx.entries = ap (λ n. slots_end log first n) head.count ∙ read.ends in
    let next : next_alh hash image r ≡ rec.alh = ap (λ t. alh hash (next_header hash r.alhs t)) tx ∙ sym h.digest_is in
    let size : length rec.alh ≡ 32 = h.size in
    let ends = entries-end hash image (next_id r) first rec.tx.entries rec.refs h.entries in
    let whole = length-record (next_id r) rec in
    let place : record_end image r.place ≡ (grown r rec).place = omega arith in
    record {
      tx = tx;
      place = place;
      behind = ap (λ a. reached_of (r.alhs ++ a ∷ []) (bl_at log r.place) (record_end image r.place)) next
          ∙ ap (λ b. reached_of (r.alhs ++ rec.alh ∷ []) b (record_end image r.place)) head.bl
          ∙ ap (λ p. reached_of (r.alhs ++ rec.alh ∷ []) rec.tx.bl p) place;
      pass = pass-both (head_checks log (next_id r) r.bl r.place)
          (slots_checks hash image (next_id r) [] first (count_at log r.place) ++ alh_checks log (alh_place image r.place) (next_alh hash image r))
          (head-passes hash image r rec h head)
          (pass-both (slots_checks hash image (next_id r) [] first (count_at log r.place)) (alh_checks log (alh_place image r.place) (next_alh hash image r))
          (subst (λ n. AllHold (slots_checks hash image (next_id r) [] first n)) (sym head.count) read.pass)
          (subst (λ p. AllHold (alh_checks log p (next_alh hash image r))) (sym spot)
          (subst (λ a. AllHold (alh_checks log (entries_end first rec.tx.entries) a)) (sym next)
          (alh-passes log (entries_end first rec.tx.entries) rec.alh size h.digest))));
    }

-- what is read of records that stand
pub record RecordsRead (hash : Hash) (image : Files) (r : Reached) (recs : List Record) : Type 0 where
  pub txs : transactions_in image r.place (length recs) ≡ map (λ rec. rec.tx) recs
  pub place : records_end image r.place (length recs) ≡ (grown_by r recs).place
  pub behind_is : behind hash image (length recs) r ≡ grown_by r recs
  pub pass : AllHold (records_checks hash image (length recs) r)

pub records-read : (hash : Hash) (image : Files) (r : Reached) (recs : List Record) → HoldsRecords hash image r recs → RecordsRead hash image r recs
records-read hash image r [] h = record { txs = refl; place = refl; behind_is = refl; pass = tt }
records-read hash image r (rec ∷ recs) h =
    let one : RecordRead hash image r rec = record-read hash image r rec h.0 in
    let more : RecordsRead hash image (grown r rec) recs = records-read hash image (grown r rec) recs h.1 in
    let n : ℕ = length recs in
    record {
      txs = ap (λ t. t ∷ transactions_in image (record_end image r.place) n) one.tx
          ∙ ap (λ p. rec.tx ∷ transactions_in image p n) one.place
          ∙ ap (λ ts. rec.tx ∷ ts) more.txs;
      place = ap (λ p. records_end image p n) one.place ∙ more.place;
      behind_is = ap (λ s. behind hash image n s) one.behind ∙ more.behind_is;
      pass = pass-both (record_checks hash image r) (records_checks hash image n (behind_one hash image r)) one.pass
          (subst (λ s. AllHold (records_checks hash image n s)) (sym one.behind) more.pass);
    }
