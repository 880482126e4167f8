-- A record that is read and passes its checks stands.
use Rattle.std.proofs.Common.{◌≡◌, ◌≤◌, ◌+◌, ◌-◌, suc, zero, ℕ, List, [], ◌∷◌, ◌++◌, length, map, refl, ap, subst, sym, ◌∙◌, arith, All}
use Rattle.std.specs.Int.{w64}
use Rattle.std.proofs.lemmas.Bool.{leb-true, eqb-true}
use borrow.Author.Gap.{read_sfits}
use Rattle.im_octet.specs.Fields.{field4, field8}
use Rattle.im_digest.specs.Digests.{Hash}
use Rattle.im_disk.specs.Disk.{Files}
use Rattle.im_model.specs.Headers.{alh}
use Rattle.im_model.specs.History.{IsEntry, next_header}
use Rattle.im_model.specs.declared.entries.Entry.{Entry}
use Rattle.im_model.specs.declared.transactions.Transaction.{Transaction}
use Rattle.im_format.specs.Damages.{Reached, alh_checks, behind, behind_one, head_checks, next_alh, next_id, record_checks, records_checks, slots_checks}
use Rattle.im_format.specs.Reading.{alh_place, bl_at, count_at, number8, record_end, records_end, transaction_in, transactions_in, ts_at}
use Rattle.im_format.specs.Spans.{octets_at}
use Rattle.im_format.specs.declared.records.Record.{Record}
use Rattle.im_format.specs.declared.references.ValueRef.{ValueRef}
use Rattle.im_format.proofs.FieldsBack.{IsSmall, field4-back, field8-back, signed-back}
use Rattle.im_format.proofs.HeldEntries.{HoldsEntries, entries_end, entry_end}
use Rattle.im_format.proofs.HeldRecords.{HoldsRecord, HoldsRecords, entries-end, grown, grown_by, length-grown, reached_of, tx_of}
use Rattle.im_format.proofs.HoldLemmas.{holds-at, holds-here, holds-same}
use Rattle.im_format.proofs.KeyLemmas.{apart-distinct, same-bytes}
use Rattle.im_format.proofs.PassLemmas.{pass-left, pass-right}
use Rattle.im_format.proofs.SlotsBack.{SlotsBack, slots-back}
use Rattle.im_format.proofs.LengthLemmas.{length-record, length-octets}
use Rattle.im_mtree.proofs.CheckLemmas.{AllHold}

-- the entries that stand lie within the limits
entries-are : (hash : Hash) (image : Files) (id at : ℕ) (entries : List Entry) (refs : List ValueRef) → HoldsEntries hash image id at entries refs → All IsEntry entries
entries-are hash image id at [] [] h i d l = absurd (omega arith)
entries-are hash image id at [] (ref ∷ refs) h i d l = absurd h
entries-are hash image id at (entry ∷ entries) [] h i d l = absurd h
entries-are hash image id at (entry ∷ entries) (ref ∷ refs) h zero d l = h.0.is
entries-are hash image id at (entry ∷ entries) (ref ∷ refs) h (suc i) d l = entries-are hash image id (entry_end at entry) entries refs h.1 i d (omega arith)

-- the checks of a record's head
record HeadPasses (log : List ℕ) (id bl at : ℕ) : Type 0 where
  pub id_within : at + 8 ≤ length log
  pub id_is : number8 log at ≡ id
  pub ts_within : at + 8 + 8 ≤ length log
  pub bl_within : at + 16 + 8 ≤ length log
  pub rises : bl ≤ bl_at log at
  pub linked : bl_at log at ≤ id - 1
  pub count_within : at + 24 + 4 ≤ length log
  pub some : 1 ≤ count_at log at
  pub few : count_at log at ≤ 1024

head-passes : (log : List ℕ) (id bl at : ℕ) → AllHold (head_checks log id bl at) → HeadPasses log id bl at
head-passes log id bl at h = record {
  id_within = leb-true (at + 8) (length log) h.0;
  id_is = eqb-true (number8 log at) id h.1.0;
  ts_within = leb-true (at + 8 + 8) (length log) h.1.1.0;
  bl_within = leb-true (at + 16 + 8) (length log) h.1.1.1.0;
  rises = leb-true bl (bl_at log at) h.1.1.1.1.0;
  linked = leb-true (bl_at log at) (id - 1) h.1.1.1.1.1.0;
  count_within = leb-true (at + 24 + 4) (length log) h.1.1.1.1.1.1.0;
  some = leb-true 1 (count_at log at) h.1.1.1.1.1.1.1.0;
  few = leb-true (count_at log at) 1024 h.1.1.1.1.1.1.1.1.0;
}

-- what is read of a record that passes
pub record RecordBack (hash : Hash) (image : Files) (r : Reached) : Type 0 where
  pub one : Record
  pub tx_is : one.tx ≡ transaction_in image r.place
  pub held : HoldsRecord hash image r one
  pub behind_is : behind_one hash image r ≡ grown r one

pub record-back : (hash : Hash) (image : Files) (r : Reached) → IsSmall (image 0) → length r.alhs + 1 ≤ 1048576 → AllHold (record_checks hash image r) → RecordBack hash image r
record-back hash image r small fits pass =
    let log : List ℕ = image 0 in
    let first : ℕ = r.place + 28 in
    let heads = head_checks log (next_id r) r.bl r.place in
    let slots = slots_checks hash image (next_id r) [] first (count_at log r.place) in
    let alhs = alh_checks log (alh_place image r.place) (next_alh hash image r) in
    let head : HeadPasses log (next_id r) r.bl r.place = head-passes log (next_id r) r.bl r.place (pass-left heads (slots ++ alhs) pass) in
    let rest = pass-right heads (slots ++ alhs) pass in
    let back : SlotsBack hash image (next_id r) [] first (count_at log r.place) = slots-back hash image (next_id r) [] first (count_at log r.place) small (omega arith) (pass-left slots alhs rest) in
    let last : AllHold alhs = pass-right slots alhs rest in
    let place : ℕ = alh_place image r.place in
    let within : place + 32 ≤ length log = leb-true (place + 32) (length log) last.0 in
    let digest : List ℕ = octets_at log place 32 in
    let size : length digest ≡ 32 = length-octets log place 32 within in
    let checked : digest ≡ next_alh hash image r = same-bytes digest (next_alh hash image r) last.1.0 in
    let tx : Transaction = tx_of (ts_at log r.place) back.entries (bl_at log r.place) in
    let tx_is : tx ≡ transaction_in image r.place = ap (λ es. tx_of (ts_at log r.place) es (bl_at log r.place)) back.are in
    let rec : Record = record { tx = tx; refs = back.refs; alh = digest } in
    let count : length back.entries ≡ count_at log r.place = back.many in
    let some : 1 ≤ count_at log r.place = head.some in
    let few : count_at log r.place ≤ 1024 = head.few in
    let linked : bl_at log r.place ≤ next_id r - 1 = head.linked in
    let ends = entries-end hash image (next_id r) first back.entries back.refs back.held in
    let spot : place ≡ entries_end first back.entries = back.ends in
    let whole = length-record (next_id r) rec in
    let end_is : record_end image r.place ≡ (grown r rec).place = omega arith in
    record {
      one = rec;
      tx_is = tx_is;
      held = record {
        is = record {
          some = omega arith;
          few = omega arith;
          entries = entries-are hash image (next_id r) first back.entries back.refs back.held;
          distinct = apart-distinct back.entries back.apart;
          linked = omega arith;
          timed = read_sfits w64 (number8 log (r.place + 8));
        };
        rises = head.rises;
        few = fits;
        id = holds-same (field8 (next_id r)) (ap field8 head.id_is) (field8-back log r.place small head.id_within);
        ts = signed-back log (r.place + 8) small head.ts_within;
        bl = field8-back log (r.place + 16) small head.bl_within;
        count = holds-same (field4 (length back.entries)) (ap field4 (sym count)) (field4-back log (r.place + 24) small head.count_within);
        entries = back.held;
        digest = holds-at (entries_end first back.entries) spot (holds-here log place 32 within);
        digest_is = checked ∙ ap (λ t. alh hash (next_header hash r.alhs t)) (sym tx_is);
        size = size;
      };
      behind_is = ap (λ a. reached_of (r.alhs ++ a ∷ []) (bl_at log r.place) (record_end image r.place)) (sym checked)
          ∙ ap (λ p. reached_of (r.alhs ++ digest ∷ []) (bl_at log r.place) p) end_is;
    }

-- what is read of records that pass
pub record RecordsBack (hash : Hash) (image : Files) (r : Reached) (count : ℕ) : Type 0 where
  pub all : List Record
  pub many : length all ≡ count
  pub txs_are : map (λ rec. rec.tx) all ≡ transactions_in image r.place count
  pub held : HoldsRecords hash image r all
  pub behind_is : behind hash image count r ≡ grown_by r all
  pub ends : records_end image r.place count ≡ (grown_by r all).place

-- one that passes, and then more
records-more : (hash : Hash) (image : Files) (r : Reached) (count : ℕ) (back : RecordBack hash image r) → RecordsBack hash image (grown r back.one) count → RecordsBack hash image r (suc count)
records-more hash image r count back more =
    let place : (grown r back.one).place ≡ record_end image r.place = sym (ap (λ (s : Reached). s.place) back.behind_is) in
    record {
      all = back.one ∷ more.all;
      many = ap suc more.many;
      txs_are = ap (λ t. t ∷ map (λ rec. rec.tx) more.all) back.tx_is
          ∙ ap (λ ts. transaction_in image r.place ∷ ts) more.txs_are
          ∙ ap (λ p. transaction_in image r.place ∷ transactions_in image p count) place;
      held = (back.held, more.held);
      behind_is = ap (λ s. behind hash image count s) back.behind_is ∙ more.behind_is;
      ends = ap (λ p. records_end image p count) (sym place) ∙ more.ends;
    }

pub records-back : (hash : Hash) (image : Files) (r : Reached) (count : ℕ) → IsSmall (image 0) → length r.alhs + count ≤ 1048576 → AllHold (records_checks hash image count r) → RecordsBack hash image r count
records-back hash image r zero small fits pass = record { all = []; many = refl; txs_are = refl; held = tt; behind_is = refl; ends = refl }
records-back hash image r (suc count) small fits pass =
    let checks = records_checks hash image count (behind_one hash image r) in
    let back : RecordBack hash image r = record-back hash image r small (omega arith) (pass-left (record_checks hash image r) checks pass) in
    let longer = length-grown r back.one in
    let rest : AllHold (records_checks hash image count (grown r back.one)) =
    subst (λ s. AllHold (records_checks hash image count s)) back.behind_is (pass-right (record_checks hash image r) checks pass) in
    records-more hash image r count back (records-back hash image (grown r back.one) count small (omega arith) rest)
