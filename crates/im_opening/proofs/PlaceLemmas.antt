-- Where what is read of the transaction log ends: each part where its octets do.
use Rattle.std.proofs.Common.{◌≡◌, ◌≤◌, ◌+◌, suc, zero, ℕ, List, [], ◌∷◌, ◌++◌, length, length-append, get_or, refl, ap, subst, arith, max, Ok, All, if◌then◌else◌, eq-eqb, ne_eqb}
use Rattle.std.proofs.lemmas.Bool.{leb-true}
use Rattle.std.proofs.lemmas.List.Elements.{All-cons, All-head, All-nil, All-tail}
use Rattle.std.proofs.lemmas.List.{append-nil}
use Rattle.im_disk.proofs.Tearing.{decide_same}
use Rattle.im_digest.specs.Digests.{Hash}
use Rattle.im_disk.specs.Disk.{Files}
use Rattle.im_format.specs.Damages.{slot_key_checks, slot_md_checks}
use Rattle.im_format.specs.Places.{log_end}
use Rattle.im_format.specs.Reading.{slot_at}
use Rattle.im_format.specs.Records.{AreReferences, entries_octets, entry_octets, record_octets, records_octets}
use Rattle.im_format.specs.Standing.{LiesIn}
use Rattle.im_format.specs.declared.records.Record.{Record}
use Rattle.im_format.specs.declared.references.ValueRef.{ValueRef}
use Rattle.im_model.specs.declared.entries.Entry.{Entry}
use Rattle.im_mtree.specs.Checks.{first_fail}
use Rattle.im_record.specs.Slots.{ref_part, slot_checks_by}
use Rattle.im_format.proofs.PassLemmas.{pass-left, pass-right}
use Rattle.im_opening.specs.Opening.{AreGrouped}
use Rattle.im_format.proofs.LengthLemmas.{length-record, length-octets}
use Rattle.im_mtree.proofs.CheckLemmas.{all-hold}

-- an entry that passes its checks
pub slot-ends : (log lengths : List ℕ) (id : ℕ) (keys : List (List ℕ)) (at : ℕ) → first_fail (slot_checks_by log lengths id keys (slot_at log at)) ≡ Ok tt
    → (slot_at log at).end ≡ at + 49 + length (slot_at log at).md + length (slot_at log at).key
unfolding slot_at
slot-ends log lengths id keys at ok =
    let slot = slot_at log at in
    let by = ref_part log lengths id (slot.start + 4 + slot.md_len + slot.key_len) in
    let md_checks = slot_md_checks log slot in
    let key_checks = slot_key_checks log keys slot in
    let all = all-hold (slot_checks_by log lengths id keys slot) ok in
    let m = pass-left md_checks (key_checks ++ by) all in
    let k = pass-left key_checks by (pass-right md_checks (key_checks ++ by) all) in
    let md_within : at + 2 + slot.md_len ≤ length log = leb-true (at + 2 + slot.md_len) (length log) m.1.1.0 in
    let key_within : at + 2 + slot.md_len + 2 + slot.key_len ≤ length log =
    leb-true (at + 2 + slot.md_len + 2 + slot.key_len) (length log) k.1.1.1.0
    in
    omega (
      arith,
      length-octets log (at + 2) slot.md_len md_within,
      length-octets log (at + 4 + slot.md_len) slot.key_len (omega (arith, key_within)),
    )

-- one more entry
pub entries-longer : (hash : Hash) (id : ℕ) (entries : List Entry) (refs : List ValueRef) (e : Entry) (ref : ValueRef) → AreReferences hash id entries refs
    → length (entries_octets (entries ++ e ∷ []) (refs ++ ref ∷ [])) ≡ length (entries_octets entries refs) + length (entry_octets e ref)
entries-longer hash id [] [] e ref h = omega (arith, length-append (entry_octets e ref) [])
entries-longer hash id [] (r ∷ refs) e ref h = absurd h
entries-longer hash id (x ∷ entries) [] e ref h = absurd h
entries-longer hash id (x ∷ entries) (r ∷ refs) e ref h =
    omega (
      arith,
      entries-longer hash id entries refs e ref h.1,
      length-append (entry_octets x r) (entries_octets entries refs),
      length-append (entry_octets x r) (entries_octets (entries ++ e ∷ []) (refs ++ ref ∷ [])),
    )

records-longer : (id : ℕ) (records : List Record) (r : Record)
    → length (records_octets id (records ++ r ∷ [])) ≡ length (records_octets id records) + length (record_octets (id + length records) r)
records-longer id [] r =
    let same : id ≡ id + 0 = omega arith in
    omega (arith, length-append (record_octets id r) [], ap (λ (k : ℕ). length (record_octets k r)) same)
records-longer id (x ∷ records) r =
    let same : id + 1 + length records ≡ id + suc (length records) = omega arith in
    omega (
      arith,
      records-longer (id + 1) records r,
      length-append (record_octets id x) (records_octets (id + 1) records),
      length-append (record_octets id x) (records_octets (id + 1) (records ++ r ∷ [])),
      ap (λ (k : ℕ). length (record_octets k r)) same,
    )

-- one more record
pub place-next : (place end next : ℕ) (records : List Record) (r : Record) → place ≡ length (records_octets 1 records)
    → end ≡ place + 28 + length (entries_octets r.tx.entries r.refs) → length r.alh ≡ 32 → next ≡ end + 32
    → next ≡ length (records_octets 1 (records ++ r ∷ []))
place-next place end next records r at is long more =
    omega (arith, at, is, long, more, records-longer 1 records r, length-record (1 + length records) r)

-- records can be taken for so many batches, where there are as many at least
pub grouped : (records : List Record) (n : ℕ) → n ≤ length records → (n ≡ 0 → length records ≡ 0) → AreGrouped records n
grouped [] zero le none = record { batches = []; joined_is = refl; many = refl; filled = All-nil (λ (b : List Record). 1 ≤ length b) }
grouped [] (suc n) le none = absurd (omega (arith, le))
grouped (r ∷ rs) zero le none = absurd (omega (arith, none refl))
grouped (r ∷ rs) (suc zero) le none = record {
  batches = (r ∷ rs) ∷ [];
  joined_is = append-nil (r ∷ rs);
  many = refl;
  filled = All-cons (λ (b : List Record). 1 ≤ length b) (r ∷ rs) [] (omega arith) (All-nil (λ (b : List Record). 1 ≤ length b));
}
grouped (r ∷ rs) (suc (suc n)) le none =
    let more = grouped rs (suc n) (omega (arith, le)) (λ e. absurd (omega (arith, e))) in
    record {
      batches = (r ∷ []) ∷ more.batches;
      joined_is = ap (λ (l : List Record). r ∷ l) more.joined_is;
      many = ap suc more.many;
      filled = All-cons (λ (b : List Record). 1 ≤ length b) (r ∷ []) more.batches (omega arith) more.filled;
    }

-- a value log isn't shorter than the references in it reach
pub ends-lie : (image : Files) (log : ℕ) (refs : List ValueRef) → All (LiesIn image) refs → log_end log refs ≤ length (image (2 + log))
ends-lie image log [] all = omega arith
ends-lie image log (r ∷ refs) all =
    let more = ends-lie image log refs (All-tail (LiesIn image) r refs all) in
    let here : r.at + r.len ≤ length (image (2 + r.log)) = (All-head (LiesIn image) r refs all).within in
    let P : ℕ → Type 0 = λ n. n ≤ length (image (2 + log)) in
    decide_same r.log log
    (λ same.
    let there : r.at + r.len ≤ length (image (2 + log)) = subst (λ (k : ℕ). r.at + r.len ≤ length (image (2 + k))) same here in
    let is : log_end log (r ∷ refs) ≡ max (r.at + r.len) (log_end log refs) =
    ap (λ b. if b then max (r.at + r.len) (log_end log refs) else log_end log refs) (eq-eqb r.log log same)
    in
    omega (arith, is, there, more))
    (λ other.
    let is : log_end log (r ∷ refs) ≡ log_end log refs =
    ap (λ b. if b then max (r.at + r.len) (log_end log refs) else log_end log refs) (ne_eqb r.log log other)
    in
    omega (arith, is, more))

-- no file of six is shorter than its end
pub six-long : (image : Files) (a b c d e f : ℕ) → a ≤ length (image 0) → b ≤ length (image 1) → c ≤ length (image 2) → d ≤ length (image 3)
    → e ≤ length (image 4) → f ≤ length (image 5) → (k : ℕ) → get_or (a ∷ b ∷ c ∷ d ∷ e ∷ f ∷ []) k 0 ≤ length (image k)
six-long image a b c d e f ha hb hc hd he hf zero = ha
six-long image a b c d e f ha hb hc hd he hf (suc zero) = hb
six-long image a b c d e f ha hb hc hd he hf (suc (suc zero)) = hc
six-long image a b c d e f ha hb hc hd he hf (suc (suc (suc zero))) = hd
six-long image a b c d e f ha hb hc hd he hf (suc (suc (suc (suc zero)))) = he
six-long image a b c d e f ha hb hc hd he hf (suc (suc (suc (suc (suc zero))))) = hf
six-long image a b c d e f ha hb hc hd he hf (suc (suc (suc (suc (suc (suc k)))))) = omega arith
