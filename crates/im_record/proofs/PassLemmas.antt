-- The octets of a record of a history pass the checks that they are read by.
use Rattle.std.proofs.Common.{◌≡◌, ◌≢◌, ◌<◌, ◌≤◌, ◌+◌, ◌-◌, ◌*◌, ◌^◌, ℕ, ℤ, suc, Bool, true, false, List, [], ◌∷◌, ◌++◌, length, map, arith, refl, sym, ◌∙◌, ap, subst, length-append, get_or, Ok, if◌then◌else◌}
use Rattle.std.specs.Prelude.{All, AllPairs, bytes_eq}
use Rattle.std.proofs.lemmas.Bool.{eq-eqb, le-leb, false_from_ne_true}
use Rattle.std.proofs.lemmas.List.Elements.{All-cons, All-tail}
use Rattle.std.proofs.lemmas.Slice.Eq.{bytes_eq-Decides}
use Rattle.im_digest.specs.Digests.{Hash}
use Rattle.im_disk.specs.Disk.{Files}
use Rattle.im_model.specs.Entries.{attributes, EntryFits}
use Rattle.im_model.specs.History.{IsEntry}
use Rattle.im_model.specs.declared.entries.Entry.{Entry}
use Rattle.im_mtree.specs.Checks.{first_fail}
use Rattle.im_format.specs.Batches.{entries_spans, value_span}
use Rattle.im_format.specs.Damages.{alh_checks, head_checks, index_of, md_checks, slot_checks, slot_key_checks, slot_md_checks, slot_ref_checks, slots_checks, value_check}
use Rattle.im_format.specs.Reading.{Slot, bl_at, count_at, entry_in, number8, slot_at, slots_at, slots_end, value_at}
use Rattle.im_format.specs.Records.{AreReferences, IsReference, entries_octets, entry_octets, head_octets, record_octets}
use Rattle.im_format.specs.Spans.{Reads, octets_at}
use Rattle.im_format.specs.Standing.{LiesIn}
use Rattle.im_format.specs.declared.records.Record.{Record}
use Rattle.im_format.specs.declared.references.ValueRef.{ValueRef}
use Rattle.im_record.specs.Back.{FitsRecord, FitsRef, HasAt, HasRecord, IsEntryOf, IsReadAs, IsSound, PassesChecks}
use Rattle.im_record.specs.Slots.{AreAttributes}
use Rattle.im_record.proofs.AtLemmas.{HasAt-front, HasAt-back, HasAt-moved, HasAt-within}
use Rattle.im_record.proofs.BackLemmas.{entry-back, record-back}
use Rattle.im_mtree.proofs.CheckLemmas.{all-hold, both-hold, none-fails}
use Rattle.im_record.proofs.NumberLemmas.{Put, put}
use Rattle.im_format.proofs.LengthLemmas.{length-attributes, length-entry, length-head}
use Rattle.im_octet.proofs.Common.{bytes-same}

-- the metadata of attributes
pub md-holds : (at : ℕ) (md : List ℕ) → AreAttributes md → first_fail (md_checks at md) ≡ Ok tt
md-holds at md (d, n, e) = subst (λ (xs : List ℕ). first_fail (md_checks at xs) ≡ Ok tt) (sym e)
    (elim d as (λ (b : Bool). first_fail (md_checks at (attributes b n)) ≡ Ok tt) [
      | true ↦ elim n as (λ (b : Bool). first_fail (md_checks at (attributes true b)) ≡ Ok tt) [ true ↦ refl | false ↦ refl ]
      | false ↦ elim n as (λ (b : Bool). first_fail (md_checks at (attributes false b)) ≡ Ok tt) [ true ↦ refl | false ↦ refl ]
    ])

-- has 2 octets at most
pub attributes-short : (md : List ℕ) → AreAttributes md → length md ≤ 2
attributes-short md (d, n, e) = subst (λ (xs : List ℕ). length xs ≤ 2) (sym e) (length-attributes d n)

-- an entry that is read of transaction id, whose fields are within the limits
pub record IsFineSlot (image : Files) (id : ℕ) (keys : List (List ℕ)) (s : Slot) : Type 0 where
  pub within : s.start + 49 + s.md_len + s.key_len ≤ length (image 0)
  pub md_short : s.md_len ≤ 2
  pub md : AreAttributes s.md
  pub key_given : 1 ≤ s.key_len
  pub key_short : s.key_len ≤ 1024
  pub fresh : index_of s.key keys ≡ length keys
  pub short : s.ref.len ≤ 4096
  pub log : s.ref.log ≤ 3
  pub room : s.ref.at + s.ref.len ≤ id * 2 ^ 22
  pub lies : s.ref.at + s.ref.len ≤ length (image (2 + s.ref.log))

slot-md-holds : (image : Files) (id : ℕ) (keys : List (List ℕ)) (s : Slot) → IsFineSlot image id keys s
    → first_fail (slot_md_checks (image 0) s) ≡ Ok tt
slot-md-holds image id keys s f =
    let w : s.start + 49 + s.md_len + s.key_len ≤ length (image 0) = f.within in
    none-fails (slot_md_checks (image 0) s) (
      le-leb (s.start + 2) (length (image 0)) (omega arith),
      (
        le-leb s.md_len 2 f.md_short,
        (
          le-leb (s.start + 2 + s.md_len) (length (image 0)) (omega arith),
          all-hold (md_checks (s.start + 2) s.md) (md-holds (s.start + 2) s.md f.md),
        ),
      ),
    )

slot-key-holds : (image : Files) (id : ℕ) (keys : List (List ℕ)) (s : Slot) → IsFineSlot image id keys s
    → first_fail (slot_key_checks (image 0) keys s) ≡ Ok tt
slot-key-holds image id keys s f =
    let w : s.start + 49 + s.md_len + s.key_len ≤ length (image 0) = f.within in
    none-fails (slot_key_checks (image 0) keys s) (
      le-leb (s.start + 2 + s.md_len + 2) (length (image 0)) (omega arith),
      (
        le-leb 1 s.key_len f.key_given,
        (
          le-leb s.key_len 1024 f.key_short,
          (
            le-leb (s.start + 2 + s.md_len + 2 + s.key_len) (length (image 0)) (omega arith),
            (eq-eqb (index_of s.key keys) (length keys) f.fresh, tt),
          ),
        ),
      ),
    )

slot-ref-holds : (image : Files) (id : ℕ) (keys : List (List ℕ)) (s : Slot) → IsFineSlot image id keys s
    → first_fail (slot_ref_checks image id s) ≡ Ok tt
slot-ref-holds image id keys s f =
    let w : s.start + 49 + s.md_len + s.key_len ≤ length (image 0) = f.within in
    let at : ℕ = s.start + 4 + s.md_len + s.key_len in
    let room : s.ref.at ≤ id * 2 ^ 22 - s.ref.len = omega (arith, f.room) in
    none-fails (slot_ref_checks image id s) (
      le-leb (at + 32) (length (image 0)) (omega arith),
      (
        le-leb (at + 32 + 4) (length (image 0)) (omega arith),
        (
          le-leb s.ref.len 4096 f.short,
          (
            le-leb (at + 36 + 1) (length (image 0)) (omega arith),
            (
              le-leb s.ref.log 3 f.log,
              (
                le-leb (at + 37 + 8) (length (image 0)) (omega arith),
                (
                  le-leb s.ref.at (id * 2 ^ 22 - s.ref.len) room,
                  (le-leb (s.ref.at + s.ref.len) (length (image (2 + s.ref.log))) f.lies, tt),
                ),
              ),
            ),
          ),
        ),
      ),
    )

-- it passes its checks
pub slot-holds : (image : Files) (id : ℕ) (keys : List (List ℕ)) (s : Slot) → IsFineSlot image id keys s
    → first_fail (slot_checks image id keys s) ≡ Ok tt
slot-holds image id keys s f =
    both-hold (slot_md_checks (image 0) s) (slot_key_checks (image 0) keys s ++ slot_ref_checks image id s) (slot-md-holds image id keys s f)
    (both-hold (slot_key_checks (image 0) keys s) (slot_ref_checks image id s) (slot-key-holds image id keys s f) (slot-ref-holds image id keys s f))

-- where an entry that is read begins
pub slot-start : (log : List ℕ) (at : ℕ) → (slot_at log at).start ≡ at
unfolding slot_at
slot-start log at = refl

-- an entry of a history
fine-slot : (hash : Hash) (image : Files) (id : ℕ) (keys : List (List ℕ)) (entry : Entry) (ref : ValueRef) (s : Slot) → IsEntryOf entry ref s
    → s.start + 49 + length entry.md + length entry.key ≤ length (image 0) → IsEntry entry → IsReference hash id entry.value ref
    → index_of entry.key keys ≡ length keys → LiesIn image ref → IsFineSlot image id keys s
fine-slot hash image id keys entry ref s is w e r fresh lies = record {
  within = omega (arith, is.md_len, is.key_len, w);
  md_short = omega (arith, is.md_len, attributes-short entry.md (e.deleted, e.non_indexable, e.md));
  md = (e.deleted, e.non_indexable, is.md ∙ e.md);
  key_given = omega (arith, is.key_len, e.key_given);
  key_short = omega (arith, is.key_len, e.key_short);
  fresh = subst (λ (k : List ℕ). index_of k keys ≡ length keys) (sym is.key) fresh;
  short = subst (λ (x : ValueRef). x.len ≤ 4096) (sym is.value) (omega (arith, r.len, e.value_short));
  log = subst (λ (x : ValueRef). x.log ≤ 3) (sym is.value) r.log;
  room = subst (λ (x : ValueRef). x.at + x.len ≤ id * 2 ^ 22) (sym is.value) r.room;
  lies = subst (λ (x : ValueRef). x.at + x.len ≤ length (image (2 + x.log))) (sym is.value) lies.within;
}

-- a value that is read, and its digest
pub value-read : (image : Files) (entry : Entry) (ref : ValueRef) → ref.len ≡ length entry.value → Reads image (value_span entry.value ref)
    → value_at image ref ≡ entry.value
value-read image entry ref e h = ap (octets_at (image (2 + ref.log)) ref.at) e ∙ h.reads

value-holds : (hash : Hash) (image : Files) (entry : Entry) (ref : ValueRef) (id : ℕ) (s : Slot) → IsEntryOf entry ref s → IsReference hash id entry.value ref
    → value_at image ref ≡ entry.value → (value_check hash image s).0 ≡ true
value-holds hash image entry ref id s is r v =
    subst (λ (x : ValueRef). bytes_eq (hash (value_at image x)) x.hval ≡ true) (sym is.value)
    (bytes-same (hash (value_at image ref)) ref.hval (ap hash v ∙ sym r.hval))

-- an entry of these fields
abbrev pub entry_with : List ℕ → List ℕ → List ℕ → Entry
entry_with md key value = record { md = md; key = key; value = value }

-- an entry that is read, with its value
entry-read : (image : Files) (entry : Entry) (ref : ValueRef) (s : Slot) → IsEntryOf entry ref s → value_at image ref ≡ entry.value
    → entry_in image s ≡ entry
entry-read image entry ref s is v =
    ap (λ (x : List ℕ). entry_with x s.key (value_at image s.ref)) is.md
    ∙ ap (λ (x : List ℕ). entry_with entry.md x (value_at image s.ref)) is.key
    ∙ ap (λ (x : ValueRef). entry_with entry.md entry.key (value_at image x)) is.value
    ∙ ap (λ (x : List ℕ). entry_with entry.md entry.key x) v

-- keys that aren't among some, behind which one more is put that is none of them
fresh-put : (keys : List (List ℕ)) (new : List ℕ) (entries : List Entry) → All (λ e. index_of e.key keys ≡ length keys) entries
    → All (λ e. new ≢ e.key) entries → All (λ e. index_of e.key (keys ++ new ∷ []) ≡ length (keys ++ new ∷ [])) entries
fresh-put keys new entries fresh other k d h =
    let key : List ℕ = (get_or entries k d).key in
    let p : Put key new keys = put key new keys in
    let apart : bytes_eq new key ≡ false = false_from_ne_true (bytes_eq new key) (λ t. other k d h ((bytes_eq-Decides new key).0 t)) in
    p.absent (fresh k d h) ∙ ap (λ (b : Bool). length keys + (if b then 0 else 1)) apart ∙ sym (length-append keys (new ∷ []))

-- entries that follow each other, with their values
pub entries-pass : (hash : Hash) (image : Files) (id : ℕ) (keys : List (List ℕ)) (at : ℕ) (entries : List Entry) (refs : List ValueRef)
    → All EntryFits entries → All FitsRef refs → HasAt (image 0) at (entries_octets entries refs)
    → All IsEntry entries → All (λ e. index_of e.key keys ≡ length keys) entries → AllPairs (λ a b. a.key ≢ b.key) entries
    → AreReferences hash id entries refs → All (Reads image) (entries_spans entries refs) → All (LiesIn image) refs
    → (first_fail (slots_checks hash image id keys at (length entries)) ≡ Ok tt)
    × (map (entry_in image) (slots_at (image 0) at (length entries)) ≡ entries)
    × (map (λ s. s.ref) (slots_at (image 0) at (length entries)) ≡ refs)
entries-pass hash image id keys at [] [] fits rfits h each fresh distinct are reads lie = (refl, refl, refl)
entries-pass hash image id keys at [] (ref ∷ refs) fits rfits h each fresh distinct are reads lie = absurd are
entries-pass hash image id keys at (entry ∷ entries) [] fits rfits h each fresh distinct are reads lie = absurd are
entries-pass hash image id keys at (entry ∷ entries) (ref ∷ refs) fits rfits h each fresh distinct are reads lie =
    let log : List ℕ = image 0 in
    let a : List ℕ = entry_octets entry ref in
    let b : List ℕ = entries_octets entries refs in
    let rhere : FitsRef ref = rfits 0 ref (omega arith) in
    let front : HasAt log at a = HasAt-front log at a b h in
    let one = entry-back log at entry ref (fits 0 entry (omega arith)) rhere front in
    let s : Slot = slot_at log at in
    let long : length a ≡ 49 + length entry.md + length entry.key = length-entry entry ref rhere.hval in
    let w : s.start + 49 + length entry.md + length entry.key ≤ length log =
    omega (arith, HasAt-within log at a front (omega (arith, long)), slot-start log at, long) in
    let fine : IsFineSlot image id keys s =
    fine-slot hash image id keys entry ref s one.0 w (each 0 entry (omega arith)) are.0 (fresh 0 entry (omega arith)) (lie 0 ref (omega arith)) in
    let v : value_at image ref ≡ entry.value = value-read image entry ref are.0.len (reads 0 (value_span entry.value ref) (omega arith)) in
    let rest = entries-pass hash image id (keys ++ s.key ∷ []) s.end entries refs (All-tail EntryFits entry entries fits) (All-tail FitsRef ref refs rfits)
    (HasAt-moved log _ s.end b (HasAt-back log at a b h) (sym one.1)) (All-tail IsEntry entry entries each)
    (subst (λ (k : List ℕ). All (λ e. index_of e.key (keys ++ k ∷ []) ≡ length (keys ++ k ∷ [])) entries) (sym one.0.key)
    (fresh-put keys entry.key entries (λ k d p. fresh (suc k) d (omega arith)) (λ k d p. distinct 0 (suc k) d (omega arith) (omega arith))))
    (λ i j d p q. distinct (suc i) (suc j) d (omega arith) (omega arith)) are.1
    (λ k d p. reads (suc k) d (omega arith)) (λ k d p. lie (suc k) d (omega arith)) in (
      both-hold (slot_checks image id keys s) (value_check hash image s ∷ slots_checks hash image id (keys ++ s.key ∷ []) s.end (length entries))
          (slot-holds image id keys s fine)
          (none-fails (value_check hash image s ∷ slots_checks hash image id (keys ++ s.key ∷ []) s.end (length entries))
          (value-holds hash image entry ref id s one.0 are.0 v, all-hold (slots_checks hash image id (keys ++ s.key ∷ []) s.end (length entries)) rest.0)),
      ap (λ (x : Entry). x ∷ map (entry_in image) (slots_at log s.end (length entries))) (entry-read image entry ref s one.0 v)
          ∙ ap (λ (xs : List Entry). entry ∷ xs) rest.1,
      ap (λ (x : ValueRef). x ∷ map (λ s. s.ref) (slots_at log s.end (length entries))) one.0.value
          ∙ ap (λ (xs : List ValueRef). ref ∷ xs) rest.2,
    )

-- an entry of a history fits its fields
fits-entry : (entry : Entry) → IsEntry entry → EntryFits entry
fits-entry entry e = record {
  md = omega (arith, attributes-short entry.md (e.deleted, e.non_indexable, e.md));
  key = omega (arith, e.key_short);
}

-- so do its references, one for each entry
fits-refs : (hash : Hash) (id : ℕ) (entries : List Entry) (refs : List ValueRef) → ((octets : List ℕ) → length (hash octets) ≡ 32) → id < 2 ^ 42
    → All IsEntry entries → AreReferences hash id entries refs → (length refs ≡ length entries) × All FitsRef refs
fits-refs hash id [] [] sizes few each are = (refl, λ k d h. absurd (omega arith))
fits-refs hash id [] (ref ∷ refs) sizes few each are = absurd are
fits-refs hash id (entry ∷ entries) [] sizes few each are = absurd are
fits-refs hash id (entry ∷ entries) (ref ∷ refs) sizes few each are =
    let e : IsEntry entry = each 0 entry (omega arith) in
    let r : IsReference hash id entry.value ref = are.0 in
    let rest = fits-refs hash id entries refs sizes few (All-tail IsEntry entry entries each) are.1 in
    let here : FitsRef ref = record {
      hval = ap length r.hval ∙ sizes entry.value;
      len = omega (arith, r.len, e.value_short);
      at = omega (arith, r.room);
    } in
    (omega (arith, rest.0), All-cons FitsRef ref refs here rest.1)

-- and the record of a transaction of a history
pub sound-fits : (hash : Hash) (id : ℕ) (r : Record) → ((octets : List ℕ) → length (hash octets) ≡ 32) → IsSound hash id r → FitsRecord id r
sound-fits hash id r sizes s =
    let refs = fits-refs hash id r.tx.entries r.refs sizes s.few s.tx.entries s.refs in
    record {
      number = omega (arith, s.few);
      ts = s.tx.timed;
      bl = omega (arith, s.tx.linked, s.few);
      count = omega (arith, s.tx.few);
      entries = λ k d h. fits-entry (get_or r.tx.entries k d) (s.tx.entries k d h);
      one_each = refs.0;
      refs = refs.1;
      alh = s.alh;
    }

-- the head of a record that is read
head-holds : (log : List ℕ) (at id least : ℕ) (r : Record) → IsReadAs log at id r → at + 28 ≤ length log → least ≤ r.tx.bl → r.tx.bl ≤ id - 1
    → 1 ≤ length r.tx.entries → length r.tx.entries ≤ 1024 → first_fail (head_checks log id least at) ≡ Ok tt
head-holds log at id least r is w grows linked some few =
    none-fails (head_checks log id least at) (
      le-leb (at + 8) (length log) (omega arith),
      (
        eq-eqb (number8 log at) id is.number,
        (
          le-leb (at + 8 + 8) (length log) (omega arith),
          (
            le-leb (at + 16 + 8) (length log) (omega arith),
            (
              le-leb least (bl_at log at) (omega (arith, is.bl, grows)),
              (
                le-leb (bl_at log at) (id - 1) (omega (arith, is.bl, linked)),
                (
                  le-leb (at + 24 + 4) (length log) (omega arith),
                  (
                    le-leb 1 (count_at log at) (omega (arith, is.count, some)),
                    (le-leb (count_at log at) 1024 (omega (arith, is.count, few)), tt),
                  ),
                ),
              ),
            ),
          ),
        ),
      ),
    )

-- a record of these fields
abbrev pub record_with : ℤ → List Entry → ℕ → List ValueRef → List ℕ → Record
record_with ts entries bl refs alh = record { tx = record { ts = ts; entries = entries; bl = bl }; refs = refs; alh = alh }

-- a record of a history passes its checks
pub record-passes : (hash : Hash) (image : Files) (id least at : ℕ) (r : Record) → ((octets : List ℕ) → length (hash octets) ≡ 32)
    → IsSound hash id r → least ≤ r.tx.bl → HasRecord image id at r → PassesChecks hash image id least at r
unfolding record_octets
record-passes hash image id least at r sizes s grows h =
    let log : List ℕ = image 0 in
    let fits : FitsRecord id r = sound-fits hash id r sizes s in
    let is : IsReadAs log at id r = record-back log at id r fits h.octets in
    let a : List ℕ = head_octets id r.tx in
    let b : List ℕ = entries_octets r.tx.entries r.refs in
    let la : length a ≡ 28 = length-head id r.tx in
    let ab : HasAt log at (a ++ b) = HasAt-front log at (a ++ b) r.alh h.octets in
    let body : HasAt log (at + 28) b = HasAt-moved log _ (at + 28) b (HasAt-back log at a b ab) (ap (λ k. at + k) la) in
    let whole : at + length (a ++ b ++ r.alh) ≤ length log = is.within in
    let long : length (a ++ b ++ r.alh) ≡ 28 + length b + 32 = omega (arith, length-append (a ++ b) r.alh, length-append a b, la, fits.alh) in
    let pass = entries-pass hash image id [] (at + 28) r.tx.entries r.refs fits.entries fits.refs body s.tx.entries
    (λ k d p. refl) s.tx.distinct s.refs h.values h.lie in
    let place : ℕ = slots_end log (at + 28) (count_at log at) in
    let end : place + 32 ≡ at + length (a ++ b ++ r.alh) = is.end in
    record {
      head = head-holds log at id least r is (omega arith) grows s.tx.linked s.tx.some s.tx.few;
      entries = subst (λ n. first_fail (slots_checks hash image id [] (at + 28) n) ≡ Ok tt) (sym is.count) pass.0;
      alh = none-fails (alh_checks log place r.alh)
          (le-leb (place + 32) (length log) (omega arith), (bytes-same (octets_at log place 32) r.alh is.alh, tt));
      reading =
          ap (λ (x : ℤ). record_with x (map (entry_in image) (slots_at log (at + 28) (count_at log at))) (bl_at log at)
          (map (λ s. s.ref) (slots_at log (at + 28) (count_at log at))) (octets_at log place 32)) is.ts
          ∙ ap (λ (n : ℕ). record_with r.tx.ts (map (entry_in image) (slots_at log (at + 28) n)) (bl_at log at)
          (map (λ s. s.ref) (slots_at log (at + 28) n)) (octets_at log place 32)) is.count
          ∙ ap (λ (xs : List Entry). record_with r.tx.ts xs (bl_at log at)
          (map (λ s. s.ref) (slots_at log (at + 28) (length r.tx.entries))) (octets_at log place 32)) pass.1
          ∙ ap (λ (xs : List ValueRef). record_with r.tx.ts r.tx.entries (bl_at log at) xs (octets_at log place 32)) pass.2
          ∙ ap (λ (n : ℕ). record_with r.tx.ts r.tx.entries n r.refs (octets_at log place 32)) is.bl
          ∙ ap (λ (xs : List ℕ). record_with r.tx.ts r.tx.entries r.tx.bl r.refs xs) is.alh;
      end = is.end;
    }
