-- An entry that is read and passes its checks stands.
use Rattle.std.proofs.Common.{◌≡◌, ◌≤◌, ◌+◌, ◌-◌, ◌*◌, ◌^◌, suc, zero, ℕ, List, [], ◌∷◌, ◌++◌, length, map, refl, ap, subst, sym, ◌∙◌, arith, true}
use Rattle.std.proofs.lemmas.Bool.{leb-true, eqb-true}
use Rattle.im_digest.specs.Digests.{Hash}
use Rattle.im_disk.specs.Disk.{Files}
use Rattle.im_octet.specs.Fields.{field2}
use Rattle.im_model.specs.declared.entries.Entry.{Entry}
use Rattle.im_format.specs.Damages.{index_of, slot_checks, slot_key_checks, slot_md_checks, slot_ref_checks, slots_checks, value_check}
use Rattle.im_format.specs.Reading.{Slot, entry_in, number2, slot_at, slot_of, slots_at, slots_end, value_at}
use Rattle.im_format.specs.Spans.{octets_at}
use Rattle.im_format.specs.declared.references.ValueRef.{ValueRef}
use Rattle.im_format.proofs.EntryLemmas.{HasReference, hval_place, ref_read}
use Rattle.im_format.proofs.FieldsBack.{IsSmall, field2-back, field4-back, field8-back, octet-back}
use Rattle.im_format.proofs.HeldEntries.{HoldsEntries, HoldsEntry, entries_end, entry_end}
use Rattle.im_format.proofs.HoldLemmas.{holds-at, holds-here, holds-same}
use Rattle.im_format.proofs.KeyLemmas.{AreApart, IsFresh, index-fresh, same-bytes}
use Rattle.im_format.proofs.MetadataLemmas.{AreAttributes, pass-attributes}
use Rattle.im_format.proofs.PassLemmas.{pass-left, pass-right}
use Rattle.im_format.proofs.LengthLemmas.{length-octets}
use Rattle.im_mtree.proofs.CheckLemmas.{AllHold}

-- the checks of an entry's metadata and key
record HeadPasses (log : List ℕ) (keys : List (List ℕ)) (slot : Slot) : Type 0 where
  pub md_size : slot.start + 2 ≤ length log
  pub md_within : slot.start + 2 + slot.md_len ≤ length log
  pub md_short : slot.md_len ≤ 2
  pub key_size : slot.start + 2 + slot.md_len + 2 ≤ length log
  pub key_within : slot.start + 2 + slot.md_len + 2 + slot.key_len ≤ length log
  pub key_given : 1 ≤ slot.key_len
  pub key_short : slot.key_len ≤ 1024
  pub fresh : IsFresh slot.key keys

head-passes : (log : List ℕ) (keys : List (List ℕ)) (slot : Slot) → AllHold (slot_md_checks log slot) → AllHold (slot_key_checks log keys slot) → HeadPasses log keys slot
head-passes log keys slot m k =
    let len_at : ℕ = slot.start + 2 + slot.md_len in
    record {
      md_size = leb-true (slot.start + 2) (length log) m.0;
      md_within = leb-true (slot.start + 2 + slot.md_len) (length log) m.1.1.0;
      md_short = leb-true slot.md_len 2 m.1.0;
      key_size = leb-true (len_at + 2) (length log) k.0;
      key_within = leb-true (len_at + 2 + slot.key_len) (length log) k.1.1.1.0;
      key_given = leb-true 1 slot.key_len k.1.0;
      key_short = leb-true slot.key_len 1024 k.1.1.0;
      fresh = index-fresh slot.key keys (eqb-true (index_of slot.key keys) (length keys) k.1.1.1.1.0);
    }

-- the checks of its reference
record RefPasses (image : Files) (id p : ℕ) (ref : ValueRef) : Type 0 where
  pub hval_within : p + 32 ≤ length (image 0)
  pub len_within : p + 32 + 4 ≤ length (image 0)
  pub short : ref.len ≤ 4096
  pub log_within : p + 36 + 1 ≤ length (image 0)
  pub few : ref.log ≤ 3
  pub at_within : p + 37 + 8 ≤ length (image 0)
  pub room : ref.at ≤ id * 2 ^ 22 - ref.len
  pub lies : ref.at + ref.len ≤ length (image (2 + ref.log))

ref-passes : (image : Files) (id : ℕ) (slot : Slot) → AllHold (slot_ref_checks image id slot) → RefPasses image id (slot.start + 4 + slot.md_len + slot.key_len) slot.ref
ref-passes image id slot r =
    let p : ℕ = slot.start + 4 + slot.md_len + slot.key_len in
    let ref : ValueRef = slot.ref in
    let n : ℕ = length (image 0) in
    record {
      hval_within = leb-true (p + 32) n r.0;
      len_within = leb-true (p + 32 + 4) n r.1.0;
      short = leb-true ref.len 4096 r.1.1.0;
      log_within = leb-true (p + 36 + 1) n r.1.1.1.0;
      few = leb-true ref.log 3 r.1.1.1.1.0;
      at_within = leb-true (p + 37 + 8) n r.1.1.1.1.1.0;
      room = leb-true ref.at (id * 2 ^ 22 - ref.len) r.1.1.1.1.1.1.0;
      lies = leb-true (ref.at + ref.len) (length (image (2 + ref.log))) r.1.1.1.1.1.1.1.0;
    }

-- what is read of an entry that passes
pub record SlotBack (hash : Hash) (image : Files) (id : ℕ) (keys : List (List ℕ)) (at : ℕ) (slot : Slot) : Type 0 where
  pub held : HoldsEntry hash image id at (entry_in image slot) slot.ref
  pub fresh : IsFresh slot.key keys
  pub ends : entry_end at (entry_in image slot) ≡ slot.end

reference-back : (image : Files) (id p : ℕ) → IsSmall (image 0) → RefPasses image id p (ref_read (image 0) p) → HasReference (image 0) p (ref_read (image 0) p)
reference-back image id p small h = record {
  hval = holds-here (image 0) p 32 h.hval_within;
  len = field4-back (image 0) (p + 32) small h.len_within;
  number = octet-back (image 0) (p + 36) h.log_within;
  place = field8-back (image 0) (p + 37) small h.at_within;
}

fields-back : (hash : Hash) (image : Files) (id : ℕ) (keys : List (List ℕ)) (at m k : ℕ) → IsSmall (image 0) → 1 ≤ id → m ≡ number2 (image 0) at → k ≡ number2 (image 0) (at + 2 + m)
    → AllHold (slot_checks image id keys (slot_of (image 0) at m k (at + 4 + m + k))) → (value_check hash image (slot_of (image 0) at m k (at + 4 + m + k))).0 ≡ true
    → SlotBack hash image id keys at (slot_of (image 0) at m k (at + 4 + m + k))
fields-back hash image id keys at m k small some is_m is_k pass value =
    let log : List ℕ = image 0 in
    let p : ℕ = at + 4 + m + k in
    let slot : Slot = slot_of log at m k p in
    let ref : ValueRef = ref_read log p in
    let rest : AllHold (slot_key_checks log keys slot ++ slot_ref_checks image id slot) = pass-right (slot_md_checks log slot) (slot_key_checks log keys slot ++ slot_ref_checks image id slot) pass in
    let md_pass : AllHold (slot_md_checks log slot) = pass-left (slot_md_checks log slot) (slot_key_checks log keys slot ++ slot_ref_checks image id slot) pass in
    let head : HeadPasses log keys slot = head-passes log keys slot md_pass (pass-left (slot_key_checks log keys slot) (slot_ref_checks image id slot) rest) in
    let refers : RefPasses image id p ref = ref-passes image id slot (pass-right (slot_key_checks log keys slot) (slot_ref_checks image id slot) rest) in
    let md : List ℕ = octets_at log (at + 2) m in
    let key : List ℕ = octets_at log (at + 4 + m) k in
    let got : List ℕ = value_at image ref in
    let md_within : at + 2 + m ≤ length log = head.md_within in
    let key_within : at + 2 + m + 2 + k ≤ length log = head.key_within in
    let key_size : at + 2 + m + 2 ≤ length log = head.key_size in
    let lies : ref.at + ref.len ≤ length (image (2 + ref.log)) = refers.lies in
    let room : ref.at ≤ id * 2 ^ 22 - ref.len = refers.room in
    let short : ref.len ≤ 4096 = refers.short in
    let md_short : m ≤ 2 = head.md_short in
    let key_given : 1 ≤ k = head.key_given in
    let key_short : k ≤ 1024 = head.key_short in
    let size_m : length md ≡ m = length-octets log (at + 2) m md_within in
    let size_k : length key ≡ k = length-octets log (at + 4 + m) k (omega arith) in
    let size_v : length got ≡ ref.len = length-octets (image (2 + ref.log)) ref.at ref.len lies in
    let attributes : AreAttributes md = pass-attributes (at + 2) md (omega arith) md_pass.1.1.1 in
    let place : p ≡ hval_place at (length md) (length key) = omega arith in
    record {
      held = record {
        is = record {
          deleted = attributes.deleted;
          non_indexable = attributes.non_indexable;
          md = attributes.is;
          key_given = omega arith;
          key_short = omega arith;
          value_short = omega arith;
        };
        refers = record {
          hval = sym (same-bytes (hash got) ref.hval value);
          len = sym size_v;
          log = refers.few;
          room = omega arith;
        };
        size = length-octets log p 32 refers.hval_within;
        has = record {
          md_len = holds-same (field2 (length md)) (ap field2 (sym is_m ∙ sym size_m)) (field2-back log at small head.md_size);
          md = holds-here log (at + 2) m md_within;
          key_len = holds-same (field2 (length key)) (ap field2 (sym is_k ∙ sym size_k)) (holds-at (at + 2 + length md) (omega arith) (field2-back log (at + 2 + m) small key_size));
          key = holds-at (at + 4 + length md) (omega arith) (holds-here log (at + 4 + m) k (omega arith));
          of = subst (λ q. HasReference log q ref) place (reference-back image id p small refers);
        };
        lies = record { within = lies };
        reads = record { reads = ap (λ n. octets_at (image (2 + ref.log)) ref.at n) size_v };
      };
      fresh = head.fresh;
      ends = omega arith;
    }

slot-back : (hash : Hash) (image : Files) (id : ℕ) (keys : List (List ℕ)) (at : ℕ) → IsSmall (image 0) → 1 ≤ id → AllHold (slot_checks image id keys (slot_at (image 0) at)) → (value_check hash image (slot_at (image 0) at)).0 ≡ true → SlotBack hash image id keys at (slot_at (image 0) at)
unfolding slot_at
slot-back hash image id keys at small some pass value =
    fields-back hash image id keys at (number2 (image 0) at) (number2 (image 0) (at + 2 + number2 (image 0) at)) small some refl refl pass value

-- what is read of entries that pass
pub record SlotsBack (hash : Hash) (image : Files) (id : ℕ) (keys : List (List ℕ)) (at count : ℕ) : Type 0 where
  pub entries : List Entry
  pub refs : List ValueRef
  pub are : entries ≡ map (entry_in image) (slots_at (image 0) at count)
  pub many : length entries ≡ count
  pub held : HoldsEntries hash image id at entries refs
  pub apart : AreApart keys entries
  pub ends : slots_end (image 0) at count ≡ entries_end at entries

pub slots-back : (hash : Hash) (image : Files) (id : ℕ) (keys : List (List ℕ)) (at count : ℕ) → IsSmall (image 0) → 1 ≤ id → AllHold (slots_checks hash image id keys at count) → SlotsBack hash image id keys at count
slots-back hash image id keys at zero small some pass = record { entries = []; refs = []; are = refl; many = refl; held = tt; apart = tt; ends = refl }
slots-back hash image id keys at (suc count) small some pass =
    let slot : Slot = slot_at (image 0) at in
    let entry : Entry = entry_in image slot in
    let checks = slots_checks hash image id (keys ++ slot.key ∷ []) slot.end count in
    let rest = pass-right (slot_checks image id keys slot) (value_check hash image slot ∷ checks) pass in
    let one : SlotBack hash image id keys at slot = slot-back hash image id keys at small some (pass-left (slot_checks image id keys slot) (value_check hash image slot ∷ checks) pass) rest.0 in
    let more : SlotsBack hash image id (keys ++ slot.key ∷ []) slot.end count = slots-back hash image id (keys ++ slot.key ∷ []) slot.end count small some rest.1 in
    record {
      entries = entry ∷ more.entries;
      refs = slot.ref ∷ more.refs;
      are = ap (λ es. entry ∷ es) more.are;
      many = ap suc more.many;
      held = (one.held, subst (λ p. HoldsEntries hash image id p more.entries more.refs) (sym one.ends) more.held);
      apart = (one.fresh, more.apart);
      ends = more.ends ∙ ap (λ p. entries_end p more.entries) (sym one.ends);
    }
