-- How long the octets of the logs are.
use Rattle.std.proofs.Common.{◌≡◌, ◌≤◌, ◌+◌, ℕ, Bool, true, false, List, [], ◌∷◌, ◌++◌, length, drop, arith, length-append}
use Rattle.std.proofs.lemmas.List.{length-drop, length-take-le}
use Rattle.im_octet.specs.Fields.{field2, field4, field8, signed_field8}
use Rattle.im_octet.proofs.FieldLemmas.{length-field2, length-field4, length-field8, length-signed}
use Rattle.im_model.specs.Entries.{attributes}
use Rattle.im_model.specs.declared.entries.Entry.{Entry}
use Rattle.im_model.specs.declared.transactions.Transaction.{Transaction}
use Rattle.im_format.specs.Batches.{batch_fields, batch_octets}
use Rattle.im_format.specs.Records.{entries_octets, entry_octets, head_octets, record_octets, reference_octets}
use Rattle.im_format.specs.Spans.{octets_at}
use Rattle.im_format.specs.declared.records.Record.{Record}
use Rattle.im_format.specs.declared.references.ValueRef.{ValueRef}

-- octets within a file are as many as were asked
pub length-octets : (log : List ℕ) (at n : ℕ) → at + n ≤ length log → length (octets_at log at n) ≡ n
length-octets log at n h = length-take-le n (drop at log) (omega (arith, length-drop at log))

-- there are two attributes at most
pub length-attributes : (deleted non_indexable : Bool) → length (attributes deleted non_indexable) ≤ 2
length-attributes true true = omega arith
length-attributes true false = omega arith
length-attributes false true = omega arith
length-attributes false false = omega arith

pub length-reference : (ref : ValueRef) → length ref.hval ≡ 32 → length (reference_octets ref) ≡ 45
unfolding reference_octets
length-reference ref long =
    let a : List ℕ = ref.hval ++ field4 ref.len in
    let b : List ℕ = a ++ (ref.log ∷ []) in
    omega (arith, long, length-field4 ref.len, length-field8 ref.at, length-append ref.hval (field4 ref.len), length-append a (ref.log ∷ []), length-append b (field8 ref.at))

pub length-entry : (entry : Entry) (ref : ValueRef) → length ref.hval ≡ 32 → length (entry_octets entry ref) ≡ 49 + length entry.md + length entry.key
unfolding entry_octets
length-entry entry ref long =
    let m : List ℕ = field2 (length entry.md) in
    let k : List ℕ = field2 (length entry.key) in
    let r : List ℕ = reference_octets ref in
    omega (arith, length-field2 (length entry.md), length-field2 (length entry.key), length-reference ref long, length-append m entry.md, length-append (m ++ entry.md) k, length-append (m ++ entry.md ++ k) entry.key, length-append (m ++ entry.md ++ k ++ entry.key) r)

pub length-head : (id : ℕ) (tx : Transaction) → length (head_octets id tx) ≡ 28
unfolding head_octets
length-head id tx =
    let a : List ℕ = field8 id in
    let b : List ℕ = a ++ signed_field8 tx.ts in
    let c : List ℕ = b ++ field8 tx.bl in
    omega (arith, length-field8 id, length-signed tx.ts, length-field8 tx.bl, length-field4 (length tx.entries), length-append a (signed_field8 tx.ts), length-append b (field8 tx.bl), length-append c (field4 (length tx.entries)))

pub length-record : (id : ℕ) (rec : Record) → length (record_octets id rec) ≡ 28 + length (entries_octets rec.tx.entries rec.refs) + length rec.alh
unfolding record_octets
length-record id rec =
    let a : List ℕ = head_octets id rec.tx in
    let b : List ℕ = entries_octets rec.tx.entries rec.refs in
    omega (arith, length-head id rec.tx, length-append a b, length-append (a ++ b) rec.alh)

-- the fields of a batch
pub length-fields : (first count end : ℕ) → length (batch_fields first count end) ≡ 24
unfolding batch_fields
length-fields first count end =
    let a : List ℕ = field8 first in
    let b : List ℕ = field8 count in
    omega (arith, length-field8 first, length-field8 count, length-field8 end, length-append a b, length-append (a ++ b) (field8 end))

-- and the next gate behind them
pub length-batch : (first count end : ℕ) → length (batch_octets first count end) ≡ 25
unfolding batch_octets
length-batch first count end =
    omega (arith, length-fields first count end, length-append (batch_fields first count end) (0 ∷ []))
