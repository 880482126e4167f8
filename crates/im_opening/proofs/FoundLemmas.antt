-- What was opened is what a journal rests with.
use Rattle.std.proofs.Common.{◌≡◌, ◌≤◌, ℕ, List, length, take, refl, sym, ◌∙◌, ap, subst, arith, All, Option, Some, None}
use Rattle.std.proofs.Math.Seq.{take-length}
use Rattle.std.proofs.lemmas.List.{length-map}
use Rattle.std.specs.Prelude.{IfSome}
use Rattle.im_digest.specs.Digests.{Hash}
use Rattle.im_disk.specs.Disk.{Files, Told, seen}
use Rattle.im_format.specs.Batches.{gate_of, joined, spans_of}
use Rattle.im_format.specs.Records.{AreRecords}
use Rattle.im_format.specs.declared.records.Record.{Record}
use Rattle.im_journal.specs.Holding.{AreFirst, IsResting}
use Rattle.im_journal.specs.Phases.{IsSafe}
use Rattle.im_journal.specs.Pieces.{end_of}
use Rattle.im_journal.specs.declared.ends.Ends.{Ends}
use Rattle.im_model.specs.History.{IsHistory}
use Rattle.im_opening.specs.Cut.{IsHeld, IsHeldThroughout}
use Rattle.im_opening.specs.Opening.{ends_behind}
use Rattle.im_opening.specs.Opens.{AreOpened}
use Rattle.im_opening.specs.Parts.{batches_in}
use Rattle.im_opening.specs.Reach.{txs_of}
use Rattle.im_opening.specs.declared.reading.Opened.{Opened}
use Rattle.im_format.proofs.HeldRecords.{Has32}
use Rattle.im_format.proofs.StandReads.{stands-read}
use Rattle.im_format.specs.Standing.{Stands}
use Rattle.im_model.specs.declared.transactions.Transaction.{Transaction}
use Rattle.im_opening.proofs.BatchesSame.{batches-read}

held-safe : (batches : List (List Record)) (ends : Ends) (image : Files) → IsHeld batches ends image
    → IsSafe (end_of ends) (spans_of batches) (gate_of (length batches)) image
held-safe batches ends image h = record {
  reads = h.reads;
  long = record { long = h.long };
  closed = record { octet = h.shut.octet; shut = h.shut.closed; reads = h.shut.reads };
}

kept-rests : (batches : List (List Record)) (ends : Ends) (t : Told) → IsHeldThroughout batches ends t → IsResting batches ends t
kept-rests batches ends t k = record { safe = λ image left. held-safe batches ends image (k.each image left); here = held-safe batches ends (seen t) k.here }

-- records that were read, in some batches
first-of : (hash : Hash) (records : List Record) (batches : List (List Record)) (n : ℕ) (ends : Ends) → Has32 hash → IsHistory (txs_of records)
    → AreRecords hash (txs_of records) 1 records → joined batches ≡ records → length batches ≡ n → All (λ batch. 1 ≤ length batch) batches
    → ends ≡ ends_behind records n → AreFirst hash (txs_of records) batches (length records) ends
first-of hash records batches n ends long history are is many filled placed =
    let txs = txs_of records in
    let size : length txs ≡ length records = length-map records (λ (x : Record). x.tx) in
    record {
      digests = long.long;
      history_is = history;
      placed = omega (arith, size);
      transactions_are = ap txs_of is ∙ sym (take-length txs) ∙ ap (λ (k : ℕ). take k txs) size;
      records_are = subst (λ (rs : List Record). AreRecords hash txs 1 rs) (sym is) are;
      filled = filled;
      ends_are = placed ∙ ap (λ (k : ℕ). ends_behind records k) (sym many) ∙ ap (λ (rs : List Record). ends_behind rs (length batches)) (sym is);
    }

-- batches that a journal can rest with, on a disk that tells this or nothing
pub record Rests (hash : Hash) (told : Option Told) (opened : Opened) : Type 0 where
  pub batches : List (List Record)
  pub joined_is : joined batches ≡ opened.found.records.items
  pub first : AreFirst hash (txs_of opened.found.records.items) batches (length opened.found.records.items) opened.ends
  pub resting : IfSome told (IsResting batches opened.ends)

if-kept : (batches : List (List Record)) (ends : Ends) (o : Option Told) → IfSome o (IsHeldThroughout batches ends) → IfSome o (IsResting batches ends)
if-kept batches ends None h = tt
if-kept batches ends (Some t) h = kept-rests batches ends t h

-- those that are read of a disk that tells this
record RestsIn (hash : Hash) (t : Told) (now : Option Told) (opened : Opened) : Type 0 where
  pub first : AreFirst hash (txs_of opened.found.records.items) (batches_in (seen t)) (length opened.found.records.items) opened.ends
  pub resting : IfSome now (IsResting (batches_in (seen t)) opened.ends)

rests-in : (hash : Hash) (t : Told) (now : Option Told) (opened : Opened) → Has32 hash → AreOpened hash (Some t) now opened → RestsIn hash t now opened
rests-in hash t now opened long h =
    let given = h.given in
    let read = given.read t refl in
    let there = given.there t refl in
    record {
      first =
          first-of hash opened.found.records.items (batches_in (seen t)) opened.batches opened.ends long given.found.history given.found.records
          (sym read.batches.records_are) (sym read.batches.batches_are) there.batches.filled given.placed;
      resting = if-kept (batches_in (seen t)) opened.ends now (h.kept t refl);
    }

pub rests-with : (hash : Hash) (was now : Option Told) (opened : Opened) → Has32 hash → AreOpened hash was now opened → Rests hash now opened
rests-with hash None now opened long h =
    let given = h.given in
    let P : Option Told → Type 0 = λ o. IfSome o (IsResting given.grouped.batches opened.ends) in
    record {
      batches = given.grouped.batches;
      joined_is = given.grouped.joined_is;
      first =
          first-of hash opened.found.records.items given.grouped.batches opened.batches opened.ends long given.found.history given.found.records
          given.grouped.joined_is given.grouped.many given.grouped.filled given.placed;
      resting = subst P (sym h.calls) tt;
    }
rests-with hash (Some t) now opened long h =
    let rests = rests-in hash t now opened long h in
    record { batches = batches_in (seen t); joined_is = sym (h.given.read t refl).batches.records_are; first = rests.first; resting = rests.resting }

-- they are those by which the files of the disk stood for their history
pub record RestsBy (hash : Hash) (history : List Transaction) (batches : List (List Record)) (now : Option Told) (opened : Opened) : Type 0 where
  pub first : AreFirst hash history batches (length opened.found.records.items) opened.ends
  pub resting : IfSome now (IsResting batches opened.ends)

pub rests-by : (hash : Hash) (was now : Option Told) (opened : Opened) (t : Told) (history : List Transaction) → Has32 hash → AreOpened hash was now opened → was ≡ Some t
    → (stands : Stands hash (seen t) history) → RestsBy hash history stands.batches now opened
rests-by hash was now opened t history long h is stands =
    let told : AreOpened hash (Some t) now opened = subst (λ (o : Option Told). AreOpened hash o now opened) is h in
    let rests = rests-in hash t now opened long told in
    let read : txs_of opened.found.records.items ≡ history = (told.given.read t refl).transactions_are ∙ (stands-read hash (seen t) history long stands).1 in
    let same : batches_in (seen t) ≡ stands.batches = batches-read hash (seen t) history long stands in
    record {
      first =
          subst (λ (l : List Transaction). AreFirst hash l stands.batches (length opened.found.records.items) opened.ends) read
          (subst (λ (b : List (List Record)). AreFirst hash (txs_of opened.found.records.items) b (length opened.found.records.items) opened.ends) same rests.first);
      resting = subst (λ (b : List (List Record)). IfSome now (IsResting b opened.ends)) same rests.resting;
    }
