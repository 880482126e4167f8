-- What an image holds of a record that is read next, and of records that follow each other.
use Rattle.std.proofs.Common.{◌≡◌, ℕ, ◌+◌, ◌≤◌, List, [], ◌∷◌, ◌++◌, length, arith, length-append, ap, ℤ}
use Rattle.im_octet.specs.Fields.{field4, field8, signed_field8}
use Rattle.im_digest.specs.Digests.{Hash}
use Rattle.im_disk.specs.Disk.{Files}
use Rattle.im_model.specs.Headers.{alh}
use Rattle.im_model.specs.History.{IsTransaction, next_header}
use Rattle.im_model.specs.declared.entries.Entry.{Entry}
use Rattle.im_format.specs.Damages.{Reached, next_id}
use Rattle.im_format.specs.Records.{entry_octets, entries_octets, record_octets, records_octets}
use Rattle.im_format.specs.declared.records.Record.{Record}
use Rattle.im_format.specs.declared.references.ValueRef.{ValueRef}
use Rattle.im_format.proofs.HeldEntries.{HoldsEntries, entries_end, entry_end}
use Rattle.im_format.proofs.HoldLemmas.{Holds}
use Rattle.im_format.proofs.LengthLemmas.{length-entry}
use Rattle.im_model.specs.declared.transactions.Transaction.{Transaction}

-- digests have 32 octets
pub record Has32 (hash : Hash) : Type 0 where
  pub long : (octets : List ℕ) → length (hash octets) ≡ 32

-- the record that is read next
pub record HoldsRecord (hash : Hash) (image : Files) (r : Reached) (rec : Record) : Type 0 where
  pub is : IsTransaction (length r.alhs) rec.tx
  pub rises : r.bl ≤ rec.tx.bl
  pub few : length r.alhs + 1 ≤ 1048576
  pub id : Holds (image 0) r.place (field8 (next_id r))
  pub ts : Holds (image 0) (r.place + 8) (signed_field8 rec.tx.ts)
  pub bl : Holds (image 0) (r.place + 16) (field8 rec.tx.bl)
  pub count : Holds (image 0) (r.place + 24) (field4 (length rec.tx.entries))
  pub entries : HoldsEntries hash image (next_id r) (r.place + 28) rec.tx.entries rec.refs
  pub digest : Holds (image 0) (entries_end (r.place + 28) rec.tx.entries) rec.alh
  pub digest_is : rec.alh ≡ alh hash (next_header hash r.alhs rec.tx)
  pub size : length rec.alh ≡ 32

-- a transaction, and what is reached, by their fields
abbrev pub tx_of : ℤ → List Entry → ℕ → Transaction
tx_of ts entries bl = record { ts = ts; entries = entries; bl = bl }

abbrev pub reached_of : List (List ℕ) → ℕ → ℕ → Reached
reached_of alhs bl place = record { alhs = alhs; bl = bl; place = place }

-- what is reached behind it
abbrev pub grown : Reached → Record → Reached
grown r rec = record { alhs = r.alhs ++ rec.alh ∷ []; bl = rec.tx.bl; place = r.place + length (record_octets (next_id r) rec) }

-- behind records that follow each other
abbrev pub grown_by : Reached → List Record → Reached
grown_by r [] = r
grown_by r (rec ∷ recs) = grown_by (grown r rec) recs

abbrev pub HoldsRecords : Hash → Files → Reached → List Record → Type 0
HoldsRecords hash image r [] = Unit {0}
HoldsRecords hash image r (rec ∷ recs) = HoldsRecord hash image r rec × HoldsRecords hash image (grown r rec) recs

pub length-grown : (r : Reached) (rec : Record) → length (grown r rec).alhs ≡ length r.alhs + 1
length-grown r rec = length-append r.alhs (rec.alh ∷ [])

-- each record has an Alh
pub length-grown_by : (r : Reached) (recs : List Record) → length (grown_by r recs).alhs ≡ length r.alhs + length recs
length-grown_by r [] = omega arith
length-grown_by r (rec ∷ recs) =
    let more = length-grown_by (grown r rec) recs in
    let one = length-grown r rec in
    omega arith

-- and they end where their octets do
pub place-grown_by : (r : Reached) (recs : List Record) → (grown_by r recs).place ≡ r.place + length (records_octets (next_id r) recs)
place-grown_by r [] = omega arith
place-grown_by r (rec ∷ recs) =
    let more = place-grown_by (grown r rec) recs in
    let same : next_id (grown r rec) ≡ next_id r + 1 = ap (λ n. n + 1) (length-grown r rec) in
    let others : length (records_octets (next_id (grown r rec)) recs) ≡ length (records_octets (next_id r + 1) recs) = ap (λ n. length (records_octets n recs)) same in
    let both = length-append (record_octets (next_id r) rec) (records_octets (next_id r + 1) recs) in
    omega arith

-- entries end where their octets do
pub entries-end : (hash : Hash) (image : Files) (id at : ℕ) (entries : List Entry) (refs : List ValueRef) → HoldsEntries hash image id at entries refs → entries_end at entries ≡ at + length (entries_octets entries refs)
entries-end hash image id at [] [] h = omega arith
entries-end hash image id at [] (ref ∷ refs) h = absurd h
entries-end hash image id at (entry ∷ entries) [] h = absurd h
entries-end hash image id at (entry ∷ entries) (ref ∷ refs) h =
    let more = entries-end hash image id (entry_end at entry) entries refs h.1 in
    let one = length-entry entry ref h.0.size in
    let both = length-append (entry_octets entry ref) (entries_octets entries refs) in
    omega arith
