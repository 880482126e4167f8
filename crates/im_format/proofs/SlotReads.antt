-- An entry that stands is read back, and passes its checks.
use Rattle.std.proofs.Common.{◌≡◌, ◌<◌, ◌≤◌, ◌+◌, ◌-◌, ◌*◌, ◌^◌, ℕ, List, [], ◌∷◌, ◌++◌, length, map, get_or, refl, ap, subst, sym, ◌∙◌, arith, true}
use Rattle.std.proofs.lemmas.Bool.{le-leb, eq-eqb}
use Rattle.im_digest.specs.Digests.{Hash}
use Rattle.im_disk.specs.Disk.{Files}
use Rattle.im_model.specs.History.{IsEntry}
use Rattle.im_model.specs.declared.entries.Entry.{Entry}
use Rattle.im_octet.specs.Fields.{field2, field4, field8}
use Rattle.im_format.specs.Batches.{value_span}
use Rattle.im_format.specs.Damages.{slot_checks, slot_md_checks, slot_key_checks, slot_ref_checks, value_check, index_of, slots_checks}
use Rattle.im_format.specs.Reading.{Slot, slot_at, slot_of, slots_at, slots_end, entry_in, value_at, number2, number4, number8}
use Rattle.im_format.specs.Spans.{Reads, octets_at}
use Rattle.im_format.specs.declared.references.ValueRef.{ValueRef}
use Rattle.im_format.proofs.EntryLemmas.{HasEntry, HasReference, hval_place, ref_read}
use Rattle.im_format.proofs.FieldLemmas.{number2-held, number4-held, number8-held, octet-held}
use Rattle.im_format.proofs.HeldEntries.{HoldsEntry, HoldsEntries, entry_end, entries_end}
use Rattle.im_format.proofs.KeyLemmas.{IsFresh, AreApart, fresh-index}
use Rattle.im_format.proofs.MetadataLemmas.{attributes-short, attributes-pass}
use Rattle.im_format.proofs.PassLemmas.{pass-both}
use Rattle.im_octet.proofs.FieldLemmas.{length-field2, length-field4, length-field8}
use Rattle.im_octet.proofs.Common.{bytes-same}
use Rattle.im_mtree.proofs.CheckLemmas.{AllHold}

-- what is to be read of an entry at a place
abbrev pub slot_like : ℕ → Entry → ValueRef → Slot
slot_like at entry ref = record {
  start = at;
  md_len = length entry.md;
  md = entry.md;
  key_len = length entry.key;
  key = entry.key;
  ref = ref;
  end = entry_end at entry;
}

abbrev pub ref_of : List ℕ → ℕ → ℕ → ℕ → ValueRef
ref_of digest size number spot = record { hval = digest; len = size; log = number; at = spot }

ref-is : (log : List ℕ) (at : ℕ) (ref : ValueRef) → length ref.hval ≡ 32 → ref.len < 2 ^ 32 → ref.at < 2 ^ 64 → HasReference log at ref → ref_read log at ≡ ref
ref-is log at ref long len place h =
    let hval : octets_at log at 32 ≡ ref.hval = ap (λ n. octets_at log at n) (sym long) ∙ h.hval.is in
    let size : number4 log (at + 32) ≡ ref.len = number4-held log (at + 32) ref.len len h.len in
    let number = octet-held log (at + 36) ref.log h.number in
    let spot : number8 log (at + 37) ≡ ref.at = number8-held log (at + 37) ref.at place h.place in
    ap (λ x. ref_of x (number4 log (at + 32)) (get_or log (at + 36) 0) (number8 log (at + 37))) hval
    ∙ ap (λ x. ref_of ref.hval x (get_or log (at + 36) 0) (number8 log (at + 37))) size
    ∙ ap (λ x. ref_of ref.hval ref.len x (number8 log (at + 37))) number
    ∙ ap (λ x. ref_of ref.hval ref.len ref.log x) spot

-- the fields that were read are those of the entry
slot-fields : (log : List ℕ) (at : ℕ) (entry : Entry) (ref : ValueRef) → HasEntry log at entry ref → ref_read log (hval_place at (length entry.md) (length entry.key)) ≡ ref
    → slot_of log at (length entry.md) (length entry.key) (hval_place at (length entry.md) (length entry.key)) ≡ slot_like at entry ref
slot-fields log at entry ref h e =
    let md : octets_at log (at + 2) (length entry.md) ≡ entry.md = h.md.is in
    let key : octets_at log (at + 4 + length entry.md) (length entry.key) ≡ entry.key = h.key.is in
    cc

-- the slot that is read
pub slot-is : (log : List ℕ) (at : ℕ) (entry : Entry) (ref : ValueRef) → length entry.md < 2 ^ 16 → length entry.key < 2 ^ 16 → length ref.hval ≡ 32 → ref.len < 2 ^ 32 → ref.at < 2 ^ 64 → HasEntry log at entry ref → slot_at log at ≡ slot_like at entry ref
unfolding slot_at
slot-is log at entry ref m k long len place h =
    let md_len : number2 log at ≡ length entry.md = number2-held log at (length entry.md) m h.md_len in
    let key_len : number2 log (at + 2 + length entry.md) ≡ length entry.key = number2-held log (at + 2 + length entry.md) (length entry.key) k h.key_len in
    ap (λ x. slot_of log at x (number2 log (at + 2 + x)) (at + 4 + x + number2 log (at + 2 + x))) md_len
    ∙ ap (λ x. slot_of log at (length entry.md) x (at + 4 + length entry.md + x)) key_len
    ∙ slot-fields log at entry ref h (ref-is log (hval_place at (length entry.md) (length entry.key)) ref long len place h.of)

-- a value that stands is read
pub value-read : (image : Files) (value : List ℕ) (ref : ValueRef) → ref.len ≡ length value → Reads image (value_span value ref) → value_at image ref ≡ value
value-read image value ref e h = ap (λ n. octets_at (image (2 + ref.log)) ref.at n) e ∙ h.reads

-- the checks of an entry's metadata pass
md-passes : (log : List ℕ) (at : ℕ) (entry : Entry) (ref : ValueRef) → IsEntry entry → HasEntry log at entry ref → AllHold (slot_md_checks log (slot_like at entry ref))
md-passes log at entry ref is h =
    let two : at + length (field2 (length entry.md)) ≤ length log = h.md_len.within in
    let octets : at + 2 + length entry.md ≤ length log = h.md.within in
    let short : length entry.md ≤ 2 = attributes-short entry.md is.deleted is.non_indexable is.md in (
      le-leb (at + 2) (length log) (omega arith),
      (
        le-leb (length entry.md) 2 short,
        (
          le-leb (at + 2 + length entry.md) (length log) octets,
          attributes-pass (at + 2) entry.md is.deleted is.non_indexable is.md,
        ),
      ),
    )

key-passes : (log : List ℕ) (keys : List (List ℕ)) (at : ℕ) (entry : Entry) (ref : ValueRef) → IsEntry entry → IsFresh entry.key keys → HasEntry log at entry ref → AllHold (slot_key_checks log keys (slot_like at entry ref))
key-passes log keys at entry ref is fresh h =
    let two : at + 2 + length entry.md + length (field2 (length entry.key)) ≤ length log = h.key_len.within in
    let size = length-field2 (length entry.key) in
    let octets : at + 4 + length entry.md + length entry.key ≤ length log = h.key.within in (
      le-leb (at + 2 + length entry.md + 2) (length log) (omega arith),
      (
        le-leb 1 (length entry.key) is.key_given,
        (
          le-leb (length entry.key) 1024 is.key_short,
          (
            le-leb (at + 2 + length entry.md + 2 + length entry.key) (length log) (omega arith),
            (eq-eqb (index_of entry.key keys) (length keys) (fresh-index entry.key keys fresh), tt),
          ),
        ),
      ),
    )

ref-passes : (hash : Hash) (image : Files) (id at : ℕ) (entry : Entry) (ref : ValueRef) → HoldsEntry hash image id at entry ref → AllHold (slot_ref_checks image id (slot_like at entry ref))
ref-passes hash image id at entry ref h =
    let long : length ref.hval ≡ 32 = h.size in
    let p : ℕ = hval_place at (length entry.md) (length entry.key) in
    let log : List ℕ = image 0 in
    let hval : p + length ref.hval ≤ length log = h.has.of.hval.within in
    let size : p + 32 + length (field4 ref.len) ≤ length log = h.has.of.len.within in
    let number : p + 36 + 1 ≤ length log = h.has.of.number.within in
    let spot : p + 37 + length (field8 ref.at) ≤ length log = h.has.of.place.within in
    let four = length-field4 ref.len in
    let eight = length-field8 ref.at in
    let len : ref.len ≡ length entry.value = h.refers.len in
    let few : length entry.value ≤ 4096 = h.is.value_short in
    let room : ref.at + ref.len ≤ id * 2 ^ 22 = h.refers.room in (
      le-leb (p + 32) (length log) (omega arith),
      (
        le-leb (p + 32 + 4) (length log) (omega arith),
        (
          le-leb ref.len 4096 (omega arith),
          (
            le-leb (p + 36 + 1) (length log) number,
            (
              le-leb ref.log 3 h.refers.log,
              (
                le-leb (p + 37 + 8) (length log) (omega arith),
                (
                  le-leb ref.at (id * 2 ^ 22 - ref.len) (omega arith),
                  (le-leb (ref.at + ref.len) (length (image (2 + ref.log))) h.lies.within, tt),
                ),
              ),
            ),
          ),
        ),
      ),
    )

-- an entry that stands passes its checks
pub slot-passes : (hash : Hash) (image : Files) (id at : ℕ) (keys : List (List ℕ)) (entry : Entry) (ref : ValueRef) → IsFresh entry.key keys → HoldsEntry hash image id at entry ref → AllHold (slot_checks image id keys (slot_like at entry ref))
slot-passes hash image id at keys entry ref fresh h =
    let slot : Slot = slot_like at entry ref in
    pass-both (slot_md_checks (image 0) slot) (slot_key_checks (image 0) keys slot ++ slot_ref_checks image id slot)
    (md-passes (image 0) at entry ref h.is h.has)
    (pass-both (slot_key_checks (image 0) keys slot) (slot_ref_checks image id slot)
    (key-passes (image 0) keys at entry ref h.is fresh h.has)
    (ref-passes hash image id at entry ref h))

-- and its value does
pub value-passes : (hash : Hash) (image : Files) (id at : ℕ) (entry : Entry) (ref : ValueRef) → HoldsEntry hash image id at entry ref → (value_check hash image (slot_like at entry ref)).0 ≡ true
value-passes hash image id at entry ref h =
    bytes-same (hash (value_at image ref)) ref.hval (ap (λ v. hash v) (value-read image entry.value ref h.refers.len h.reads) ∙ sym h.refers.hval)

-- an entry with another value
abbrev entry_of : Entry → List ℕ → Entry
entry_of entry value = record { md = entry.md; key = entry.key; value = value }

-- entries that stand are read, and pass their checks
pub record EntriesRead (hash : Hash) (image : Files) (id : ℕ) (keys : List (List ℕ)) (at : ℕ) (entries : List Entry) (refs : List ValueRef) : Type 0 where
  pub are : map (entry_in image) (slots_at (image 0) at (length entries)) ≡ entries
  pub ends : slots_end (image 0) at (length entries) ≡ entries_end at entries
  pub pass : AllHold (slots_checks hash image id keys at (length entries))

-- an entry that stands is the slot that is read
pub held-slot : (hash : Hash) (image : Files) (id at : ℕ) (entry : Entry) (ref : ValueRef) → id ≤ 1048576 → HoldsEntry hash image id at entry ref → slot_at (image 0) at ≡ slot_like at entry ref
held-slot hash image id at entry ref few h =
    let short : length entry.md ≤ 2 = attributes-short entry.md h.is.deleted h.is.non_indexable h.is.md in
    let key : length entry.key ≤ 1024 = h.is.key_short in
    let len : ref.len ≡ length entry.value = h.refers.len in
    let value : length entry.value ≤ 4096 = h.is.value_short in
    let room : ref.at + ref.len ≤ id * 2 ^ 22 = h.refers.room in
    slot-is (image 0) at entry ref (omega arith) (omega arith) h.size (omega arith) (omega arith) h.has

pub entries-read : (hash : Hash) (image : Files) (id : ℕ) (keys : List (List ℕ)) (at : ℕ) (entries : List Entry) (refs : List ValueRef) → id ≤ 1048576 → AreApart keys entries → HoldsEntries hash image id at entries refs → EntriesRead hash image id keys at entries refs
entries-read hash image id keys at [] [] few apart h = record { are = refl; ends = refl; pass = tt }
entries-read hash image id keys at [] (ref ∷ refs) few apart h = absurd h
entries-read hash image id keys at (entry ∷ entries) [] few apart h = absurd h
entries-read hash image id keys at (entry ∷ entries) (ref ∷ refs) few apart h =
    let is : slot_at (image 0) at ≡ slot_like at entry ref = held-slot hash image id at entry ref few h.0 in
    let more = entries-read hash image id (keys ++ entry.key ∷ []) (entry_end at entry) entries refs few apart.1 h.1 in
    let n : ℕ = length entries in
    let slot : Slot = slot_like at entry ref in
    record {
      are = ap (λ (s : Slot). entry_in image s ∷ map (entry_in image) (slots_at (image 0) s.end n)) is
          ∙ ap (λ v. entry_of entry v ∷ map (entry_in image) (slots_at (image 0) (entry_end at entry) n)) (value-read image entry.value ref h.0.refers.len h.0.reads)
          ∙ ap (λ es. entry ∷ es) more.are;
      ends = ap (λ (s : Slot). slots_end (image 0) s.end n) is ∙ more.ends;
      pass = subst (λ (s : Slot). AllHold (slot_checks image id keys s ++ (value_check hash image s ∷ slots_checks hash image id (keys ++ s.key ∷ []) s.end n))) (sym is)
          (pass-both (slot_checks image id keys slot) (value_check hash image slot ∷ slots_checks hash image id (keys ++ entry.key ∷ []) (entry_end at entry) n)
          (slot-passes hash image id at keys entry ref apart.0 h.0)
          (value-passes hash image id at entry ref h.0, more.pass));
    }
