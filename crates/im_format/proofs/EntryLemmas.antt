-- Where the fields of an entry of a record stand.
use Rattle.std.proofs.Common.{◌≡◌, ◌+◌, ℕ, List, [], ◌∷◌, ◌++◌, length, arith, length-append}
use Rattle.im_octet.specs.Fields.{field2, field4, field8}
use Rattle.im_model.specs.declared.entries.Entry.{Entry}
use Rattle.im_format.specs.Records.{entry_octets, reference_octets}
use Rattle.im_format.specs.declared.references.ValueRef.{ValueRef}
use Rattle.im_format.proofs.HoldLemmas.{Holds, holds-left, holds-right, holds-both, holds-at}
use Rattle.im_octet.proofs.FieldLemmas.{length-field2, length-field4}
use Rattle.im_format.specs.Reading.{slot_of}

-- where the digest of an entry's value stands
abbrev pub hval_place : ℕ → ℕ → ℕ → ℕ
hval_place at m k = at + 4 + m + k

-- the reference that is read at a place
abbrev pub ref_read : List ℕ → ℕ → ValueRef
ref_read log hval_at = (slot_of log 0 0 0 hval_at).ref

-- the fields of a reference, each at its place
pub record HasReference (log : List ℕ) (at : ℕ) (ref : ValueRef) : Type 0 where
  pub hval : Holds log at ref.hval
  pub len : Holds log (at + 32) (field4 ref.len)
  pub number : Holds log (at + 36) (ref.log ∷ [])
  pub place : Holds log (at + 37) (field8 ref.at)

-- the fields of an entry, each at its place
pub record HasEntry (log : List ℕ) (at : ℕ) (entry : Entry) (ref : ValueRef) : Type 0 where
  pub md_len : Holds log at (field2 (length entry.md))
  pub md : Holds log (at + 2) entry.md
  pub key_len : Holds log (at + 2 + length entry.md) (field2 (length entry.key))
  pub key : Holds log (at + 4 + length entry.md) entry.key
  pub of : HasReference log (hval_place at (length entry.md) (length entry.key)) ref

-- the octets of a reference, split
pub reference-split : (log : List ℕ) (at : ℕ) (ref : ValueRef) → length ref.hval ≡ 32 → Holds log at (reference_octets ref) → HasReference log at ref
unfolding reference_octets
reference-split log at ref long h =
    let a : List ℕ = ref.hval ++ field4 ref.len in
    let b : List ℕ = a ++ (ref.log ∷ []) in
    let four = length-field4 ref.len in
    let long_a : length a ≡ 36 = omega (arith, length-append ref.hval (field4 ref.len)) in
    let long_b : length b ≡ 37 = omega (arith, length-append a (ref.log ∷ [])) in
    let hb = holds-left b (field8 ref.at) h in
    let ha = holds-left a (ref.log ∷ []) hb in
    record {
      hval = holds-left ref.hval (field4 ref.len) ha;
      len = holds-at (at + 32) (omega arith) (holds-right ref.hval (field4 ref.len) ha);
      number = holds-at (at + 36) (omega arith) (holds-right a (ref.log ∷ []) hb);
      place = holds-at (at + 37) (omega arith) (holds-right b (field8 ref.at) h);
    }

-- and put together
pub reference-joined : (log : List ℕ) (at : ℕ) (ref : ValueRef) → length ref.hval ≡ 32 → HasReference log at ref → Holds log at (reference_octets ref)
unfolding reference_octets
reference-joined log at ref long h =
    let a : List ℕ = ref.hval ++ field4 ref.len in
    let b : List ℕ = a ++ (ref.log ∷ []) in
    let four = length-field4 ref.len in
    let long_a : length a ≡ 36 = omega (arith, length-append ref.hval (field4 ref.len)) in
    let long_b : length b ≡ 37 = omega (arith, length-append a (ref.log ∷ [])) in
    let ha : Holds log at a = holds-both ref.hval (field4 ref.len) h.hval (holds-at (at + length ref.hval) (omega arith) h.len) in
    let hb : Holds log at b = holds-both a (ref.log ∷ []) ha (holds-at (at + length a) (omega arith) h.number) in
    holds-both b (field8 ref.at) hb (holds-at (at + length b) (omega arith) h.place)

-- the octets of an entry, split
pub entry-split : (log : List ℕ) (at : ℕ) (entry : Entry) (ref : ValueRef) → length ref.hval ≡ 32 → Holds log at (entry_octets entry ref) → HasEntry log at entry ref
unfolding entry_octets
entry-split log at entry ref long h =
    let m : List ℕ = field2 (length entry.md) in
    let k : List ℕ = field2 (length entry.key) in
    let r : List ℕ = reference_octets ref in
    let two_m = length-field2 (length entry.md) in
    let two_k = length-field2 (length entry.key) in
    let b : List ℕ = m ++ entry.md in
    let c : List ℕ = b ++ k in
    let d : List ℕ = c ++ entry.key in
    let long_b = length-append m entry.md in
    let long_c = length-append b k in
    let long_d = length-append c entry.key in
    let hd = holds-left d r h in
    let hc = holds-left c entry.key hd in
    let hb = holds-left b k hc in
    record {
      md_len = holds-left m entry.md hb;
      md = holds-at (at + 2) (omega arith) (holds-right m entry.md hb);
      key_len = holds-at (at + 2 + length entry.md) (omega arith) (holds-right b k hc);
      key = holds-at (at + 4 + length entry.md) (omega arith) (holds-right c entry.key hd);
      of = reference-split log (hval_place at (length entry.md) (length entry.key)) ref long (holds-at (hval_place at (length entry.md) (length entry.key)) (omega arith) (holds-right d r h));
    }

-- and put together
pub entry-joined : (log : List ℕ) (at : ℕ) (entry : Entry) (ref : ValueRef) → length ref.hval ≡ 32 → HasEntry log at entry ref → Holds log at (entry_octets entry ref)
unfolding entry_octets
entry-joined log at entry ref long h =
    let m : List ℕ = field2 (length entry.md) in
    let k : List ℕ = field2 (length entry.key) in
    let r : List ℕ = reference_octets ref in
    let two_m = length-field2 (length entry.md) in
    let two_k = length-field2 (length entry.key) in
    let b : List ℕ = m ++ entry.md in
    let c : List ℕ = b ++ k in
    let d : List ℕ = c ++ entry.key in
    let long_b = length-append m entry.md in
    let long_c = length-append b k in
    let long_d = length-append c entry.key in
    let hb : Holds log at b = holds-both m entry.md h.md_len (holds-at (at + length m) (omega arith) h.md) in
    let hc : Holds log at c = holds-both b k hb (holds-at (at + length b) (omega arith) h.key_len) in
    let hd : Holds log at d = holds-both c entry.key hc (holds-at (at + length c) (omega arith) h.key) in
    let hr : Holds log (at + length d) r = holds-at (at + length d) (omega arith) (reference-joined log (hval_place at (length entry.md) (length entry.key)) ref long h.of) in
    holds-both d r hd hr
