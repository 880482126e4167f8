-- What passes the checks of a record is the octets of a record of a history, with its values.
use Rattle.std.proofs.Common.{◌≡◌, ◌≢◌, ◌<◌, ◌≤◌, ◌+◌, ◌-◌, ◌*◌, ◌^◌, ℕ, ℤ, suc, zero, Bool, true, List, [], ◌∷◌, ◌++◌, length, map, arith, refl, sym, ◌∙◌, ap, subst, length-append, get_or, inl, inr, Ok, if◌then◌else◌}
use Rattle.std.specs.Prelude.{All, AllPairs}
use Rattle.std.proofs.lemmas.Bool.{cases_lt, eqb-true, leb-true}
use Rattle.std.proofs.lemmas.List.{length-map}
use Rattle.std.proofs.lemmas.List.Elements.{All-cons}
use Rattle.std.proofs.lemmas.List.Kept.{AllPairs-cons}
use Rattle.std.proofs.lemmas.Slice.Eq.{bytes_eq-Decides}
use Rattle.im_octet.specs.Fields.{field2, field4, field8, signed_field8}
use Rattle.im_digest.specs.Digests.{Hash}
use Rattle.im_disk.specs.Disk.{Files}
use Rattle.im_model.specs.History.{IsEntry}
use Rattle.im_model.specs.declared.entries.Entry.{Entry}
use Rattle.im_model.specs.declared.transactions.Transaction.{Transaction}
use Rattle.im_mtree.specs.Checks.{Check, first_fail}
use Rattle.im_format.specs.Batches.{entries_spans, value_span}
use Rattle.im_format.specs.Damages.{alh_checks, head_checks, index_of, slot_checks, slot_key_checks, slot_md_checks, slot_ref_checks, slots_checks, value_check}
use Rattle.im_format.specs.Reading.{Slot, alh_place, bl_at, count_at, entry_in, number2, number8, slot_at, slots_at, slots_end, ts_at, value_at}
use Rattle.im_format.specs.Records.{AreReferences, IsReference, entries_octets, entry_octets, head_octets, record_octets, reference_octets}
use Rattle.im_format.specs.Spans.{Reads, octets_at}
use Rattle.im_format.specs.Standing.{LiesIn}
use Rattle.im_format.specs.declared.damages.Damage.{Damage}
use Rattle.im_format.specs.declared.records.Record.{Record}
use Rattle.im_format.specs.declared.references.ValueRef.{ValueRef}
use Rattle.im_record.specs.Back.{AreOctets, HasAt, IsWritten, record_in}
use Rattle.im_record.specs.Slots.{ref_at}
use Rattle.im_record.proofs.AtLemmas.{HasAt-both, HasAt-moved}
use Rattle.im_mtree.proofs.CheckLemmas.{all-hold, each-holds}
use Rattle.im_record.proofs.NumberLemmas.{Put, put}
use Rattle.im_record.proofs.PassLemmas.{IsFineSlot}
use Rattle.im_record.proofs.ThereLemmas.{HasAt-number2, HasAt-number4, HasAt-number8, HasAt-octet, HasAt-octets, HasAt-signed, signed-fits}
use Rattle.im_octet.proofs.FieldLemmas.{length-field2, length-field4, length-field8, length-signed}
use Rattle.im_format.proofs.LengthLemmas.{length-entry, length-head, length-octets}
use Rattle.im_format.proofs.MetadataLemmas.{pass-attributes}

-- an entry that passes is within the limits
pub slot-passed : (image : Files) (id : ℕ) (keys : List (List ℕ)) (s : Slot) → 1 ≤ id
    → s.start + 2 + s.md_len ≤ length (image 0) → length s.md ≡ s.md_len
    → first_fail (slot_checks image id keys s) ≡ Ok tt → IsFineSlot image id keys s
slot-passed image id keys s some w size h =
    let parts = each-holds (slot_md_checks (image 0) s) (slot_key_checks (image 0) keys s ++ slot_ref_checks image id s) h in
    let rest = each-holds (slot_key_checks (image 0) keys s) (slot_ref_checks image id s) parts.1 in
    let m = all-hold (slot_md_checks (image 0) s) parts.0 in
    let k = all-hold (slot_key_checks (image 0) keys s) rest.0 in
    let r = all-hold (slot_ref_checks image id s) rest.1 in
    let at : ℕ = s.start + 4 + s.md_len + s.key_len in
    let md_short : s.md_len ≤ 2 = leb-true s.md_len 2 m.1.0 in
    let md = pass-attributes (s.start + 2) s.md (omega arith) m.1.1.1 in
    let end : at + 37 + 8 ≤ length (image 0) = leb-true (at + 37 + 8) (length (image 0)) r.1.1.1.1.1.0 in
    let short : s.ref.len ≤ 4096 = leb-true s.ref.len 4096 r.1.1.0 in
    let low : s.ref.at ≤ id * 2 ^ 22 - s.ref.len = leb-true s.ref.at (id * 2 ^ 22 - s.ref.len) r.1.1.1.1.1.1.0 in
    record {
      within = omega arith;
      md_short = md_short;
      md = (md.deleted, md.non_indexable, md.is);
      key_given = leb-true 1 s.key_len k.1.0;
      key_short = leb-true s.key_len 1024 k.1.1.0;
      fresh = eqb-true (index_of s.key keys) (length keys) k.1.1.1.1.0;
      short = short;
      log = leb-true s.ref.log 3 r.1.1.1.1.0;
      room = omega arith;
      lies = leb-true (s.ref.at + s.ref.len) (length (image (2 + s.ref.log))) r.1.1.1.1.1.1.1.0;
    }

-- the fields of a reference that is read
pub ref-there : (log : List ℕ) (at : ℕ) → AreOctets log → at + 45 ≤ length log → HasAt log at (reference_octets (ref_at log at))
unfolding reference_octets
ref-there log at octets w =
    let ref : ValueRef = ref_at log at in
    let a : List ℕ = ref.hval in
    let b : List ℕ = field4 ref.len in
    let c : List ℕ = ref.log ∷ [] in
    let d : List ℕ = field8 ref.at in
    let la : length a ≡ 32 = length-octets log at 32 (omega arith) in
    let lb : length (a ++ b) ≡ 36 = omega (arith, length-append a b, la, length-field4 ref.len) in
    let lc : length (a ++ b ++ c) ≡ 37 = omega (arith, length-append (a ++ b) c, lb) in
    let ab : HasAt log at (a ++ b) =
    HasAt-both log at a b (HasAt-octets log at 32 (omega arith)) (HasAt-moved log _ _ b (HasAt-number4 log (at + 32) octets (omega arith)) (sym (ap (λ k. at + k) la))) in
    let abc : HasAt log at (a ++ b ++ c) =
    HasAt-both log at (a ++ b) c ab (HasAt-moved log _ _ c (HasAt-octet log (at + 36) (omega arith)) (sym (ap (λ k. at + k) lb))) in
    HasAt-both log at (a ++ b ++ c) d abc (HasAt-moved log _ _ d (HasAt-number8 log (at + 37) octets (omega arith)) (sym (ap (λ k. at + k) lc)))

-- the octets of metadata, key and reference
abbrev pub fields_octets : List ℕ → List ℕ → ValueRef → List ℕ
fields_octets md key ref = field2 (length md) ++ md ++ field2 (length key) ++ key ++ reference_octets ref

fields-there : (log : List ℕ) (at : ℕ) → AreOctets log → (m k : ℕ) → m ≡ number2 log at → k ≡ number2 log (at + 2 + m) → at + 49 + m + k ≤ length log
    → HasAt log at (fields_octets (octets_at log (at + 2) m) (octets_at log (at + 4 + m) k) (ref_at log (at + 4 + m + k)))
fields-there log at octets m k em ek w =
    let md : List ℕ = octets_at log (at + 2) m in
    let key : List ℕ = octets_at log (at + 4 + m) k in
    let lm : length md ≡ m = length-octets log (at + 2) m (omega arith) in
    let lk : length key ≡ k = length-octets log (at + 4 + m) k (omega arith) in
    let a : List ℕ = field2 (length md) in
    let c : List ℕ = field2 (length key) in
    let r : List ℕ = reference_octets (ref_at log (at + 4 + m + k)) in
    let la : length a ≡ 2 = length-field2 (length md) in
    let lc : length c ≡ 2 = length-field2 (length key) in
    let lb : at + 2 + m ≡ at + length (a ++ md) = omega (arith, length-append a md, la, lm) in
    let labc : at + 4 + m ≡ at + length (a ++ md ++ c) = omega (arith, length-append (a ++ md) c, lb, lc) in
    let ld : at + 4 + m + k ≡ at + length (a ++ md ++ c ++ key) = omega (arith, length-append (a ++ md ++ c) key, labc, lk) in
    let ha : HasAt log at a = subst (λ (n : ℕ). HasAt log at (field2 n)) (sym (lm ∙ em)) (HasAt-number2 log at octets (omega arith)) in
    let hc : HasAt log (at + 2 + m) c = subst (λ (n : ℕ). HasAt log (at + 2 + m) (field2 n)) (sym (lk ∙ ek)) (HasAt-number2 log (at + 2 + m) octets (omega arith)) in
    let hb : HasAt log at (a ++ md) =
    HasAt-both log at a md ha (HasAt-moved log _ _ md (HasAt-octets log (at + 2) m (omega arith)) (sym (ap (λ j. at + j) la))) in
    let habc : HasAt log at (a ++ md ++ c) = HasAt-both log at (a ++ md) c hb (HasAt-moved log _ _ c hc lb) in
    let hd : HasAt log at (a ++ md ++ c ++ key) =
    HasAt-both log at (a ++ md ++ c) key habc (HasAt-moved log _ _ key (HasAt-octets log (at + 4 + m) k (omega arith)) labc) in
    HasAt-both log at (a ++ md ++ c ++ key) r hd (HasAt-moved log _ _ r (ref-there log (at + 4 + m + k) octets (omega arith)) ld)

-- the octets of an entry that is read
pub entry-there : (image : Files) (at : ℕ) → AreOctets (image 0) → (slot_at (image 0) at).start + 49 + (slot_at (image 0) at).md_len + (slot_at (image 0) at).key_len ≤ length (image 0)
    → HasAt (image 0) at (entry_octets (entry_in image (slot_at (image 0) at)) (slot_at (image 0) at).ref)
unfolding slot_at entry_octets
entry-there image at octets w =
    fields-there (image 0) at octets (number2 (image 0) at) (number2 (image 0) (at + 2 + number2 (image 0) at)) refl refl w

-- where it ends
pub entry-end : (image : Files) (at : ℕ) → (slot_at (image 0) at).start + 49 + (slot_at (image 0) at).md_len + (slot_at (image 0) at).key_len ≤ length (image 0)
    → (slot_at (image 0) at).end ≡ at + length (entry_octets (entry_in image (slot_at (image 0) at)) (slot_at (image 0) at).ref)
unfolding slot_at
entry-end image at w =
    let log : List ℕ = image 0 in
    let s : Slot = slot_at log at in
    let place : ℕ = at + 4 + number2 log at + number2 log (at + 2 + number2 log at) in
    let long = length-entry (entry_in image s) s.ref (length-octets log place 32 (omega arith)) in
    omega (
      arith,
      long,
      length-octets log (at + 2) (number2 log at) (omega arith),
      length-octets log (at + 4 + number2 log at) (number2 log (at + 2 + number2 log at)) (omega arith),
    )

-- the lengths of its metadata and key
pub slot-sizes : (log : List ℕ) (at : ℕ) → (slot_at log at).start + 49 + (slot_at log at).md_len + (slot_at log at).key_len ≤ length log
    → (length (slot_at log at).md ≡ (slot_at log at).md_len) × (length (slot_at log at).key ≡ (slot_at log at).key_len)
unfolding slot_at
slot-sizes log at w = (
  length-octets log (at + 2) (number2 log at) (omega arith),
  length-octets log (at + 4 + number2 log at) (number2 log (at + 2 + number2 log at)) (omega arith),
)

md-size : (log : List ℕ) (at : ℕ) → (slot_at log at).start + 2 + (slot_at log at).md_len ≤ length log → length (slot_at log at).md ≡ (slot_at log at).md_len
unfolding slot_at
md-size log at w = length-octets log (at + 2) (number2 log at) w

-- its metadata is within the log
md-within : (image : Files) (id : ℕ) (keys : List (List ℕ)) (s : Slot) → first_fail (slot_checks image id keys s) ≡ Ok tt
    → s.start + 2 + s.md_len ≤ length (image 0)
md-within image id keys s h =
    let parts = each-holds (slot_md_checks (image 0) s) (slot_key_checks (image 0) keys s ++ slot_ref_checks image id s) h in
    leb-true (s.start + 2 + s.md_len) (length (image 0)) (all-hold (slot_md_checks (image 0) s) parts.0).1.1.0

-- the entry is one of a history
entry-within : (image : Files) (id : ℕ) (keys : List (List ℕ)) (s : Slot) → IsFineSlot image id keys s → length s.key ≡ s.key_len → IsEntry (entry_in image s)
entry-within image id keys s f size = record {
  deleted = f.md.0;
  non_indexable = f.md.1;
  md = f.md.2;
  key_given = omega (arith, size, f.key_given);
  key_short = omega (arith, size, f.key_short);
  value_short = omega (arith, length-octets (image (2 + s.ref.log)) s.ref.at s.ref.len f.lies, f.short);
}

-- the reference is that of its value
reference-of : (hash : Hash) (image : Files) (id : ℕ) (keys : List (List ℕ)) (s : Slot) → IsFineSlot image id keys s
    → (value_check hash image s).0 ≡ true → IsReference hash id (value_at image s.ref) s.ref
reference-of hash image id keys s f v = record {
  hval = sym ((bytes_eq-Decides (hash (value_at image s.ref)) s.ref.hval).0 v);
  len = sym (length-octets (image (2 + s.ref.log)) s.ref.at s.ref.len f.lies);
  log = f.log;
  room = f.room;
}

-- and the image has the value where it says
value-there : (image : Files) (id : ℕ) (keys : List (List ℕ)) (s : Slot) → IsFineSlot image id keys s → Reads image (value_span (value_at image s.ref) s.ref)
value-there image id keys s f = record {
  reads = ap (octets_at (image (2 + s.ref.log)) s.ref.at) (length-octets (image (2 + s.ref.log)) s.ref.at s.ref.len f.lies);
}

-- a key that is none of some and one more
unput : (keys : List (List ℕ)) (new key : List ℕ) → index_of key (keys ++ new ∷ []) ≡ length (keys ++ new ∷ [])
    → (index_of key keys ≡ length keys) × (new ≢ key)
unput keys new key h =
    let p : Put key new keys = put key new keys in
    let long : length (keys ++ new ∷ []) ≡ length keys + 1 = length-append keys (new ∷ []) in
    let out : index_of key keys ≡ length keys = elim (cases_lt (index_of key keys) (length keys)) [
      | inl among ↦ absurd (omega (arith, p.among among))
      | inr not ↦ omega (arith, p.low)
    ] in (
      out,
      λ same.
          let here : index_of key (keys ++ new ∷ []) ≡ length keys + 0 =
          p.absent out ∙ ap (λ (b : Bool). length keys + (if b then 0 else 1)) ((bytes_eq-Decides new key).1 same) in
          omega arith,
    )

-- entries that were written at a place, behind others with these keys
pub record AreWritten (hash : Hash) (image : Files) (id : ℕ) (keys : List (List ℕ)) (at : ℕ) (entries : List Entry) (refs : List ValueRef) (end : ℕ) : Type 0 where
  pub octets : HasAt (image 0) at (entries_octets entries refs)
  pub ends : end ≡ at + length (entries_octets entries refs)
  pub each : All IsEntry entries
  pub fresh : All (λ e. index_of e.key keys ≡ length keys) entries
  pub distinct : AllPairs (λ a b. a.key ≢ b.key) entries
  pub are : AreReferences hash id entries refs
  pub reads : All (Reads image) (entries_spans entries refs)
  pub lie : All (LiesIn image) refs

none-written : (hash : Hash) (image : Files) (id : ℕ) (keys : List (List ℕ)) (at : ℕ) → AreWritten hash image id keys at [] [] at
none-written hash image id keys at = record {
  octets = record { has = refl };
  ends = omega arith;
  each = λ k d h. absurd (omega arith);
  fresh = λ k d h. absurd (omega arith);
  distinct = λ i j d h k. absurd (omega arith);
  are = tt;
  reads = λ k d h. absurd (omega arith);
  lie = λ k d h. absurd (omega arith);
}

-- one more in front
one-written : (hash : Hash) (image : Files) (id : ℕ) (keys : List (List ℕ)) (at : ℕ) (entries : List Entry) (refs : List ValueRef) (end : ℕ) (s : Slot)
    → IsFineSlot image id keys s → length s.key ≡ s.key_len → (value_check hash image s).0 ≡ true
    → HasAt (image 0) at (entry_octets (entry_in image s) s.ref) → s.end ≡ at + length (entry_octets (entry_in image s) s.ref)
    → AreWritten hash image id (keys ++ s.key ∷ []) s.end entries refs end
    → AreWritten hash image id keys at (entry_in image s ∷ entries) (s.ref ∷ refs) end
one-written hash image id keys at entries refs end s f size v here stop rest =
    let entry : Entry = entry_in image s in
    let a : List ℕ = entry_octets entry s.ref in
    let b : List ℕ = entries_octets entries refs in
    record {
      octets = HasAt-both (image 0) at a b here (HasAt-moved (image 0) _ _ b rest.octets stop);
      ends = omega (arith, rest.ends, stop, length-append a b);
      each = All-cons IsEntry entry entries (entry-within image id keys s f size) rest.each;
      fresh = All-cons (λ (e : Entry). index_of e.key keys ≡ length keys) entry entries f.fresh
          (λ k d h. (unput keys s.key (get_or entries k d).key (rest.fresh k d h)).0);
      distinct = AllPairs-cons (λ (a b : Entry). a.key ≢ b.key) entry entries
          (λ k d h. (unput keys s.key (get_or entries k d).key (rest.fresh k d h)).1) rest.distinct;
      are = (reference-of hash image id keys s f v, rest.are);
      reads = All-cons (Reads image) (value_span entry.value s.ref) (entries_spans entries refs) (value-there image id keys s f) rest.reads;
      lie = All-cons (LiesIn image) s.ref refs (record { within = f.lies }) rest.lie;
    }

pub entries-written : (hash : Hash) (image : Files) (id : ℕ) (keys : List (List ℕ)) (at count : ℕ) → AreOctets (image 0) → 1 ≤ id
    → first_fail (slots_checks hash image id keys at count) ≡ Ok tt
    → AreWritten hash image id keys at (map (entry_in image) (slots_at (image 0) at count)) (map (λ s. s.ref) (slots_at (image 0) at count)) (slots_end (image 0) at count)
entries-written hash image id keys at zero octets some h = none-written hash image id keys at
entries-written hash image id keys at (suc count) octets some h =
    let log : List ℕ = image 0 in
    let s : Slot = slot_at log at in
    let more : List (Check Damage) = slots_checks hash image id (keys ++ s.key ∷ []) s.end count in
    let parts = each-holds (slot_checks image id keys s) (value_check hash image s ∷ more) h in
    let two = each-holds (value_check hash image s ∷ []) more parts.1 in
    let w : s.start + 2 + s.md_len ≤ length log = md-within image id keys s parts.0 in
    let f : IsFineSlot image id keys s = slot-passed image id keys s some w (md-size log at w) parts.0 in
    one-written hash image id keys at (map (entry_in image) (slots_at log s.end count)) (map (λ s. s.ref) (slots_at log s.end count)) (slots_end log s.end count) s
    f (slot-sizes log at f.within).1 (all-hold (value_check hash image s ∷ []) two.0).0 (entry-there image at octets f.within) (entry-end image at f.within)
    (entries-written hash image id (keys ++ s.key ∷ []) s.end count octets some two.1)

-- so many entries
pub length-slots : (log : List ℕ) (at count : ℕ) → length (slots_at log at count) ≡ count
length-slots log at zero = refl
length-slots log at (suc count) = omega (arith, length-slots log (slot_at log at).end count)

-- the octets of a head
pub head-there : (log : List ℕ) (at id : ℕ) (tx : Transaction) → AreOctets log → at + 28 ≤ length log → number8 log at ≡ id → ts_at log at ≡ tx.ts
    → bl_at log at ≡ tx.bl → count_at log at ≡ length tx.entries → HasAt log at (head_octets id tx)
unfolding head_octets
head-there log at id tx octets w p q r s =
    let a : List ℕ = field8 id in
    let b : List ℕ = signed_field8 tx.ts in
    let c : List ℕ = field8 tx.bl in
    let d : List ℕ = field4 (length tx.entries) in
    let la : length a ≡ 8 = length-field8 id in
    let lb : length (a ++ b) ≡ 16 = omega (arith, length-append a b, la, length-signed tx.ts) in
    let lc : length (a ++ b ++ c) ≡ 24 = omega (arith, length-append (a ++ b) c, lb, length-field8 tx.bl) in
    let ha : HasAt log at a = subst (λ (n : ℕ). HasAt log at (field8 n)) p (HasAt-number8 log at octets (omega arith)) in
    let hb : HasAt log (at + 8) b = subst (λ (z : ℤ). HasAt log (at + 8) (signed_field8 z)) q (HasAt-signed log (at + 8) octets (omega arith)) in
    let hc : HasAt log (at + 16) c = subst (λ (n : ℕ). HasAt log (at + 16) (field8 n)) r (HasAt-number8 log (at + 16) octets (omega arith)) in
    let hd : HasAt log (at + 24) d = subst (λ (n : ℕ). HasAt log (at + 24) (field4 n)) s (HasAt-number4 log (at + 24) octets (omega arith)) in
    let ab : HasAt log at (a ++ b) = HasAt-both log at a b ha (HasAt-moved log _ _ b hb (sym (ap (λ k. at + k) la))) in
    let abc : HasAt log at (a ++ b ++ c) = HasAt-both log at (a ++ b) c ab (HasAt-moved log _ _ c hc (sym (ap (λ k. at + k) lb))) in
    HasAt-both log at (a ++ b ++ c) d abc (HasAt-moved log _ _ d hd (sym (ap (λ k. at + k) lc)))

-- a record that passes its checks
pub record-written : (hash : Hash) (image : Files) (id least at : ℕ) (want : List ℕ) → AreOctets (image 0) → 1 ≤ id → id < 2 ^ 42
    → first_fail (head_checks (image 0) id least at) ≡ Ok tt
    → first_fail (slots_checks hash image id [] (at + 28) (count_at (image 0) at)) ≡ Ok tt
    → first_fail (alh_checks (image 0) (alh_place image at) want) ≡ Ok tt
    → IsWritten hash image id least at want (record_in image at)
unfolding record_octets
record-written hash image id least at want octets some few h e l =
    let log : List ℕ = image 0 in
    let r : Record = record_in image at in
    let count : ℕ = count_at log at in
    let place : ℕ = alh_place image at in
    let a : List ℕ = head_octets id r.tx in
    let b : List ℕ = entries_octets r.tx.entries r.refs in
    let hh = all-hold (head_checks log id least at) h in
    let ll = all-hold (alh_checks log place want) l in
    let w : AreWritten hash image id [] (at + 28) r.tx.entries r.refs place = entries-written hash image id [] (at + 28) count octets some e in
    let long : length r.tx.entries ≡ count = length-map (slots_at log (at + 28) count) (entry_in image) ∙ length-slots log (at + 28) count in
    let reach : at + 28 ≤ length log = omega (arith, leb-true (at + 24 + 4) (length log) hh.1.1.1.1.1.1.0) in
    let end : place + 32 ≤ length log = leb-true (place + 32) (length log) ll.0 in
    let la : length a ≡ 28 = length-head id r.tx in
    let ha : HasAt log at a =
    head-there log at id r.tx octets reach (eqb-true (number8 log at) id hh.1.0) refl refl (sym long) in
    let hab : HasAt log at (a ++ b) = HasAt-both log at a b ha (HasAt-moved log _ _ b w.octets (sym (ap (λ k. at + k) la))) in
    let stop : place ≡ at + length (a ++ b) = omega (arith, w.ends, length-append a b, la) in
    let alh : length r.alh ≡ 32 = length-octets log place 32 end in
    let bl : bl_at log at ≤ id - 1 = leb-true (bl_at log at) (id - 1) hh.1.1.1.1.1.0 in
    let grows : least ≤ bl_at log at = leb-true least (bl_at log at) hh.1.1.1.1.0 in
    let given : 1 ≤ count = leb-true 1 count hh.1.1.1.1.1.1.1.0 in
    let most : count ≤ 1024 = leb-true count 1024 hh.1.1.1.1.1.1.1.1.0 in
    record {
      sound = record {
        first = some;
        few = few;
        tx = record {
          some = omega (arith, long, given);
          few = omega (arith, long, most);
          entries = w.each;
          distinct = w.distinct;
          linked = bl;
          timed = signed-fits log (at + 8) octets;
        };
        refs = w.are;
        alh = alh;
      };
      grows = grows;
      held = record {
        octets = HasAt-both log at (a ++ b) r.alh hab (HasAt-moved log _ _ r.alh (HasAt-octets log place 32 end) stop);
        values = w.reads;
        lie = w.lie;
      };
      end = omega (arith, stop, alh, length-append (a ++ b) r.alh);
      alh = (bytes_eq-Decides (octets_at log place 32) want).0 ll.1.0;
    }
