-- The octets of a record are read as that record.
use Rattle.std.proofs.Common.{◌≡◌, ◌<◌, ◌+◌, ◌^◌, ℕ, FitsSigned, List, [], ◌∷◌, ◌++◌, length, arith, sym, ◌∙◌, ap, subst, length-append}
use Rattle.std.specs.Prelude.{All, slice_index_or}
use Rattle.std.specs.Int.{w64}
use Rattle.std.proofs.lemmas.List.Elements.{All-tail}
use Rattle.im_octet.specs.Fields.{field2, field4, field8, signed_field8}
use Rattle.im_model.specs.declared.entries.Entry.{Entry}
use Rattle.im_model.specs.declared.transactions.Transaction.{Transaction}
use Rattle.im_format.specs.Reading.{bl_at, count_at, number2, number4, number8, slot_at, slots_at, slots_end, ts_at}
use Rattle.im_format.specs.Records.{entries_octets, entry_octets, head_octets, record_octets, reference_octets}
use Rattle.im_format.specs.Spans.{octets_at}
use Rattle.im_format.specs.declared.records.Record.{Record}
use Rattle.im_format.specs.declared.references.ValueRef.{ValueRef}
use Rattle.im_model.specs.Entries.{EntryFits}
use Rattle.im_record.specs.Back.{AreEntriesOf, FitsRecord, FitsRef, HasAt, IsEntryOf, IsReadAs}
use Rattle.im_record.specs.Slots.{ref_at}
use Rattle.im_record.proofs.AtLemmas.{HasAt-front, HasAt-back, HasAt-moved, HasAt-within, number2-field, number4-field, number8-field, signed-field, octet-at}
use Rattle.im_octet.proofs.FieldLemmas.{length-field2, length-field4, length-field8, length-signed}
use Rattle.im_format.proofs.LengthLemmas.{length-head, length-reference}
use Rattle.im_format.proofs.SlotReads.{ref_of}

-- the numbers of a head
pub record IsHead (log : List ℕ) (at id : ℕ) (tx : Transaction) : Type 0 where
  pub number : number8 log at ≡ id
  pub ts : ts_at log at ≡ tx.ts
  pub bl : bl_at log at ≡ tx.bl
  pub count : count_at log at ≡ length tx.entries

pub head-back : (log : List ℕ) (at id : ℕ) (tx : Transaction) → id < 2 ^ 64 → FitsSigned w64 tx.ts → tx.bl < 2 ^ 64 → length tx.entries < 2 ^ 32
    → HasAt log at (head_octets id tx) → IsHead log at id tx
unfolding head_octets
head-back log at id tx p q r s h =
    let a : List ℕ = field8 id in
    let b : List ℕ = signed_field8 tx.ts in
    let c : List ℕ = field8 tx.bl in
    let d : List ℕ = field4 (length tx.entries) in
    let abc : HasAt log at (a ++ b ++ c) = HasAt-front log at (a ++ b ++ c) d h in
    let ab : HasAt log at (a ++ b) = HasAt-front log at (a ++ b) c abc in
    let la : length a ≡ 8 = length-field8 id in
    let lb : length (a ++ b) ≡ 16 = omega (arith, length-append a b, la, length-signed tx.ts) in
    let lc : length (a ++ b ++ c) ≡ 24 = omega (arith, length-append (a ++ b) c, lb, length-field8 tx.bl) in
    record {
      number = number8-field log at id p (HasAt-front log at a b ab);
      ts = signed-field log (at + 8) tx.ts q (HasAt-moved log _ _ b (HasAt-back log at a b ab) (ap (λ k. at + k) la));
      bl = number8-field log (at + 16) tx.bl r (HasAt-moved log _ _ c (HasAt-back log at (a ++ b) c abc) (ap (λ k. at + k) lb));
      count = number4-field log (at + 24) (length tx.entries) s (HasAt-moved log _ _ d (HasAt-back log at (a ++ b ++ c) d h) (ap (λ k. at + k) lc));
    }

-- a reference
pub ref-back : (log : List ℕ) (at : ℕ) (ref : ValueRef) → FitsRef ref → HasAt log at (reference_octets ref) → ref_at log at ≡ ref
unfolding reference_octets
ref-back log at ref fits h =
    let a : List ℕ = ref.hval in
    let b : List ℕ = field4 ref.len in
    let c : List ℕ = ref.log ∷ [] in
    let d : List ℕ = field8 ref.at in
    let abc : HasAt log at (a ++ b ++ c) = HasAt-front log at (a ++ b ++ c) d h in
    let ab : HasAt log at (a ++ b) = HasAt-front log at (a ++ b) c abc in
    let la : length a ≡ 32 = fits.hval in
    let lb : length (a ++ b) ≡ 36 = omega (arith, length-append a b, la, length-field4 ref.len) in
    let lc : length (a ++ b ++ c) ≡ 37 = omega (arith, length-append (a ++ b) c, lb) in
    let hval : octets_at log at 32 ≡ ref.hval = ap (octets_at log at) (sym la) ∙ (HasAt-front log at a b ab).has in
    let len : number4 log (at + 32) ≡ ref.len =
    number4-field log (at + 32) ref.len fits.len (HasAt-moved log _ _ b (HasAt-back log at a b ab) (ap (λ k. at + k) la)) in
    let number : slice_index_or log (at + 36) 0 ≡ ref.log =
    octet-at log (at + 36) ref.log (HasAt-moved log _ _ c (HasAt-back log at (a ++ b) c abc) (ap (λ k. at + k) lb)) in
    let place : number8 log (at + 37) ≡ ref.at =
    number8-field log (at + 37) ref.at fits.at (HasAt-moved log _ _ d (HasAt-back log at (a ++ b ++ c) d h) (ap (λ k. at + k) lc)) in
    ap (λ (x : List ℕ). ref_of x (number4 log (at + 32)) (slice_index_or log (at + 36) 0) (number8 log (at + 37))) hval
    ∙ ap (λ (x : ℕ). ref_of ref.hval x (slice_index_or log (at + 36) 0) (number8 log (at + 37))) len
    ∙ ap (λ (x : ℕ). ref_of ref.hval ref.len x (number8 log (at + 37))) number
    ∙ ap (λ (x : ℕ). ref_of ref.hval ref.len ref.log x) place

pub entry-back : (log : List ℕ) (at : ℕ) (entry : Entry) (ref : ValueRef) → EntryFits entry → FitsRef ref
    → HasAt log at (entry_octets entry ref)
    → IsEntryOf entry ref (slot_at log at) × ((slot_at log at).end ≡ at + length (entry_octets entry ref))
unfolding entry_octets slot_at
entry-back log at entry ref fits rfits h =
    let a : List ℕ = field2 (length entry.md) in
    let b : List ℕ = entry.md in
    let c : List ℕ = field2 (length entry.key) in
    let d : List ℕ = entry.key in
    let r : List ℕ = reference_octets ref in
    let abcd : HasAt log at (a ++ b ++ c ++ d) = HasAt-front log at (a ++ b ++ c ++ d) r h in
    let abc : HasAt log at (a ++ b ++ c) = HasAt-front log at (a ++ b ++ c) d abcd in
    let ab : HasAt log at (a ++ b) = HasAt-front log at (a ++ b) c abc in
    let la : length a ≡ 2 = length-field2 (length entry.md) in
    let md_len : number2 log at ≡ length b = number2-field log at (length b) fits.md (HasAt-front log at a b ab) in
    let lb : at + length (a ++ b) ≡ at + 2 + number2 log at = omega (arith, length-append a b, la, md_len) in
    let key_len : number2 log (at + 2 + number2 log at) ≡ length d =
    number2-field log (at + 2 + number2 log at) (length d) fits.key (HasAt-moved log _ _ c (HasAt-back log at (a ++ b) c abc) lb) in
    let lc : at + length (a ++ b ++ c) ≡ at + 4 + number2 log at = omega (arith, length-append (a ++ b) c, lb, length-field2 (length d)) in
    let ld : at + length (a ++ b ++ c ++ d) ≡ at + 4 + number2 log at + number2 log (at + 2 + number2 log at) =
    omega (arith, length-append (a ++ b ++ c) d, lc, key_len) in (
      record {
        md_len = md_len;
        md = ap (octets_at log (at + 2)) md_len ∙ (HasAt-moved log _ (at + 2) b (HasAt-back log at a b ab) (ap (λ k. at + k) la)).has;
        key_len = key_len;
        key = ap (octets_at log (at + 4 + number2 log at)) key_len ∙ (HasAt-moved log _ (at + 4 + number2 log at) d (HasAt-back log at (a ++ b ++ c) d abcd) lc).has;
        value = ref-back log _ ref rfits (HasAt-moved log _ _ r (HasAt-back log at (a ++ b ++ c ++ d) r h) ld);
      },
      omega (arith, length-append (a ++ b ++ c ++ d) r, length-reference ref rfits.hval, ld),
    )

-- entries, and where they end
pub entries-back : (log : List ℕ) (at : ℕ) (entries : List Entry) (refs : List ValueRef) → length refs ≡ length entries
    → All EntryFits entries → All FitsRef refs → HasAt log at (entries_octets entries refs)
    → AreEntriesOf entries refs (slots_at log at (length entries)) × (slots_end log at (length entries) ≡ at + length (entries_octets entries refs))
entries-back log at [] [] e fits rfits h = (tt, omega arith)
entries-back log at [] (ref ∷ refs) e fits rfits h = absurd (omega arith)
entries-back log at (entry ∷ entries) [] e fits rfits h = absurd (omega arith)
entries-back log at (entry ∷ entries) (ref ∷ refs) e fits rfits h =
    let a : List ℕ = entry_octets entry ref in
    let b : List ℕ = entries_octets entries refs in
    let here : EntryFits entry = fits 0 entry (omega arith) in
    let rhere : FitsRef ref = rfits 0 ref (omega arith) in
    let one = entry-back log at entry ref here rhere (HasAt-front log at a b h) in
    let end : ℕ = (slot_at log at).end in
    let rest = entries-back log end entries refs (omega arith) (All-tail EntryFits entry entries fits) (All-tail FitsRef ref refs rfits)
    (HasAt-moved log _ end b (HasAt-back log at a b h) (sym one.1)) in
    ((one.0, rest.0), omega (arith, rest.1, one.1, length-append a b))

-- a record
pub record-back : (log : List ℕ) (at id : ℕ) (r : Record) → FitsRecord id r → HasAt log at (record_octets id r) → IsReadAs log at id r
unfolding record_octets
record-back log at id r fits h =
    let a : List ℕ = head_octets id r.tx in
    let b : List ℕ = entries_octets r.tx.entries r.refs in
    let la : length a ≡ 28 = length-head id r.tx in
    let ab : HasAt log at (a ++ b) = HasAt-front log at (a ++ b) r.alh h in
    let head : IsHead log at id r.tx =
    head-back log at id r.tx fits.number fits.ts fits.bl fits.count (HasAt-front log at a b ab) in
    let back = entries-back log (at + 28) r.tx.entries r.refs fits.one_each fits.entries fits.refs
    (HasAt-moved log _ (at + 28) b (HasAt-back log at a b ab) (ap (λ k. at + k) la)) in
    let last : slots_end log (at + 28) (count_at log at) ≡ at + 28 + length b =
    ap (slots_end log (at + 28)) head.count ∙ back.1 in
    let place : at + length (a ++ b) ≡ slots_end log (at + 28) (count_at log at) = omega (arith, last, length-append a b, la) in
    record {
      number = head.number;
      ts = head.ts;
      bl = head.bl;
      count = head.count;
      entries = subst (λ n. AreEntriesOf r.tx.entries r.refs (slots_at log (at + 28) n)) (sym head.count) back.0;
      alh = ap (octets_at log (slots_end log (at + 28) (count_at log at))) (sym fits.alh)
          ∙ (HasAt-moved log _ _ r.alh (HasAt-back log at (a ++ b) r.alh h) place).has;
      end = omega (arith, place, length-append (a ++ b) r.alh, fits.alh);
      within = HasAt-within log at (a ++ b ++ r.alh) h (omega (arith, length-append (a ++ b) r.alh, fits.alh));
    }
