-- A value of durable batches is what its reference shows.
use Rattle.std.proofs.Common.{◌≡◌, ℕ, suc, zero, ◌+◌, List, [], ◌∷◌, ◌++◌, length, take, drop, refl, sym, ◌∙◌, ap, subst, arith, inl, inr, append_assoc}
use Rattle.std.proofs.lemmas.Bool.{le-leb}
use Rattle.std.proofs.lemmas.List.Elements.{All-nil, All-head, All-tail, All-append}
use Rattle.std.specs.Prelude.{All, Option, Some, None, IfErr, IfOk, IfSome, IsErrOf, IsSome, Result, Ok, Err, slice_get, if◌then◌else◌}
use Rattle.im_digest.specs.Digests.{Hash}
use Rattle.im_disk.specs.Disk.{Files, Told, seen}
use Rattle.im_model.specs.declared.entries.Entry.{Entry}
use Rattle.im_model.specs.declared.transactions.Transaction.{Transaction}
use Rattle.im_disk.proofs.Leaving.{if_told}
use Rattle.im_format.specs.Batches.{batch_fields, batch_spans, entries_spans, gate_of, joined, spans_from, spans_of, value_span, values_spans}
use Rattle.im_format.specs.Reading.{value_at}
use Rattle.im_format.specs.Records.{AreRecords, AreReferences, IsReference, records_octets}
use Rattle.im_format.specs.Spans.{Reads, octet_span, octets_at}
use Rattle.im_format.specs.declared.records.Record.{Record}
use Rattle.im_format.specs.declared.references.ValueRef.{ValueRef}
use Rattle.im_format.specs.declared.spans.Span.{Span}
use Rattle.im_journal.specs.Holding.{IsResting}
use Rattle.im_journal.specs.Kept.{IsAtStep, Kept}
use Rattle.im_journal.specs.Phases.{IsGated, IsSealed, IsStaging}
use Rattle.im_journal.specs.Values.{HasValue, HoldsBatches}
use Rattle.im_journal.specs.Pieces.{end_of}
use Rattle.im_journal.specs.declared.batches.Step.{Step}
use Rattle.im_journal.specs.declared.batches.Step.TheVariants.{Idle, Staging, Staged, Sealed, Gated}
use Rattle.im_vlog.specs.Showing.{IsCorrupt, shown}
use Rattle.im_vlog.specs.declared.showing.ValueError.{ValueError}
use Rattle.im_vlog.specs.declared.showing.ValueError.TheVariants.{Corrupt}
use Rattle.im_octet.proofs.Common.{all-left, all-right}

values_both : (a b : List Record) → values_spans (a ++ b) ≡ values_spans a ++ values_spans b
values_both [] b = refl
values_both (r ∷ a) b =
    ap (λ (l : List Span). entries_spans r.tx.entries r.refs ++ l) (values_both a b) ∙ sym (append_assoc (entries_spans r.tx.entries r.refs) (values_spans a) (values_spans b))

-- the values of batches are among what stands of them
batches_values : (image : Files) (gate id end : ℕ) (batches : List (List Record)) → All (Reads image) (spans_from gate id end batches) → All (Reads image) (values_spans (joined batches))
batches_values image gate id end [] reads = All-nil (Reads image)
batches_values image gate id end (batch ∷ batches) reads =
    let R = Reads image in
    let end2 = end + length (records_octets id batch) in
    let first = batch_spans gate id end batch in
    let rest = spans_from (gate + 25) (id + length batch) end2 batches in
    let s1 : Span = record { file = 1; at = gate + 1; octets = batch_fields id (length batch) end2 } in
    let s0 : Span = record { file = 0; at = end; octets = records_octets id batch } in
    let values = All-tail R s0 (values_spans batch) (All-tail R s1 (s0 ∷ values_spans batch) (All-tail R (octet_span 1 gate 1) (s1 ∷ s0 ∷ values_spans batch) (all-left R first rest reads))) in
    subst (All R) (sym (values_both batch (joined batches)))
    (All-append R (values_spans batch) (values_spans (joined batches)) values (batches_values image (gate + 25) (id + length batch) end2 batches (all-right R first rest reads)))

-- one of these records
record_at : (hash : Hash) (history : List Transaction) (image : Files) (id : ℕ) (rs : List Record) (n : ℕ) (r : Record) → slice_get rs n ≡ Some r
    → AreRecords hash history id rs → All (Reads image) (values_spans rs) → AreReferences hash (id + n) r.tx.entries r.refs × All (Reads image) (entries_spans r.tx.entries r.refs)
record_at hash history image id [] n r is are reads = absurd (none_isnt r is)
  where
    none_isnt : (x : Record) → None ≡ Some x → ⊥
    none_isnt x e = cc
record_at hash history image id (x ∷ rs) zero r is are reads =
    let same : x ≡ r = cc in
    subst (λ (y : Record). AreReferences hash (id + 0) y.tx.entries y.refs × All (Reads image) (entries_spans y.tx.entries y.refs)) same (
      subst (λ (k : ℕ). AreReferences hash k x.tx.entries x.refs) (sym_zero id) are.0.refs,
      all-left (Reads image) (entries_spans x.tx.entries x.refs) (values_spans rs) reads,
    )
  where
    sym_zero : (k : ℕ) → k ≡ k + 0
    sym_zero k = omega arith
record_at hash history image id (x ∷ rs) (suc n) r is are reads =
    let rest = record_at hash history image (id + 1) rs n r is are.1 (all-right (Reads image) (entries_spans x.tx.entries x.refs) (values_spans rs) reads) in
    (subst (λ (k : ℕ). AreReferences hash k r.tx.entries r.refs) (omega arith) rest.0, rest.1)

-- one of these entries, with its reference
entry_at : (hash : Hash) (image : Files) (id : ℕ) (es : List Entry) (refs : List ValueRef) (i : ℕ) (e : Entry) (ref : ValueRef) → slice_get es i ≡ Some e → slice_get refs i ≡ Some ref
    → AreReferences hash id es refs → All (Reads image) (entries_spans es refs) → IsReference hash id e.value ref × Reads image (value_span e.value ref)
entry_at hash image id [] refs i e ref is ref_is are reads = absurd (none_isnt e is)
  where
    none_isnt : (x : Entry) → None ≡ Some x → ⊥
    none_isnt x p = cc
entry_at hash image id (x ∷ es) [] i e ref is ref_is are reads = absurd are
entry_at hash image id (x ∷ es) (y ∷ refs) zero e ref is ref_is are reads =
    let same : x ≡ e = cc in
    let ref_same : y ≡ ref = cc in
    subst (λ (v : Entry). IsReference hash id v.value ref × Reads image (value_span v.value ref)) same
    (subst (λ (k : ValueRef). IsReference hash id x.value k × Reads image (value_span x.value k)) ref_same
    (are.0, All-head (Reads image) (value_span x.value y) (entries_spans es refs) reads))
entry_at hash image id (x ∷ es) (y ∷ refs) (suc i) e ref is ref_is are reads =
    entry_at hash image id es refs i e ref is ref_is are.1 (All-tail (Reads image) (value_span x.value y) (entries_spans es refs) reads)

-- a value that stands where its reference says is what the reference shows
shown_is : (hash : Hash) (id : ℕ) (value : List ℕ) (ref : ValueRef) (image : Files) → IsReference hash id value ref → Reads image (value_span value ref) → shown image ref ≡ value
shown_is hash id value ref image is there =
    ap (λ t. if t then value_at image ref else []) (le-leb ref.log 3 is.log)
    ∙ ap (λ (n : ℕ). octets_at (image (2 + ref.log)) ref.at n) is.len
    ∙ there.reads

-- what a reference shows, and the digest that it has
pub record Shows (hash : Hash) (image : Files) (value : List ℕ) (ref : ValueRef) : Type 0 where
  pub shown_as : shown image ref ≡ value
  pub hval : ref.hval ≡ hash value

value_shows : (hash : Hash) (history : List Transaction) (image : Files) (batches : List (List Record)) (value : List ℕ) (ref : ValueRef) → AreRecords hash history 1 (joined batches)
    → All (Reads image) (spans_of batches) → HasValue (joined batches) value ref → Shows hash image value ref
value_shows hash history image batches value ref are reads has =
    let holder = record_at hash history image 1 (joined batches) has.number has.holder has.holder_is are (batches_values image 0 1 0 batches reads) in
    let entry = entry_at hash image (1 + has.number) has.holder.tx.entries has.holder.refs has.place has.entry ref has.entry_is has.reference_is holder.0 holder.1 in
    subst (λ (v : List ℕ). Shows hash image v ref) has.value_is
    (record { shown_as = shown_is hash (1 + has.number) has.entry.value ref image entry.0 entry.1; hval = entry.0.hval })

-- what stood before a batch reads at each step of it
spans_at : (s : Step) (o : Option Told) (ends : ℕ → ℕ) (spans : List Span) (gate : ℕ) (pieces : List Span) (written : ℕ) → IsAtStep s o ends spans gate pieces written → IfSome o (λ t. All (Reads (seen t)) spans)
spans_at Idle o ends spans gate pieces written at = absurd at
spans_at Staging o ends spans gate pieces written at =
    if_told (IsStaging ends spans gate (take written pieces) (drop written pieces)) (λ t. All (Reads (seen t)) spans) (λ t h. all-left (Reads (seen t)) spans (take written pieces) h.here.reads) o at
spans_at Staged o ends spans gate pieces written at =
    if_told (IsStaging ends spans gate pieces []) (λ t. All (Reads (seen t)) spans) (λ t h. all-left (Reads (seen t)) spans pieces h.here.reads) o at
spans_at Sealed o ends spans gate pieces written at =
    if_told (IsSealed ends spans gate pieces) (λ t. All (Reads (seen t)) spans) (λ t h. all-left (Reads (seen t)) spans pieces h.here.reads) o at
spans_at Gated o ends spans gate pieces written at =
    if_told (IsGated ends spans gate pieces) (λ t. All (Reads (seen t)) spans) (λ t h. all-left (Reads (seen t)) spans pieces h.here.reads) o at

-- a value of durable batches is what its reference shows, where the disk tells
pub holds_shows : {D : Type 0} (told : D → Option Told) (hash : Hash) (history : List Transaction) (batches : List (List Record)) (k : Kept D) (value : List ℕ) (ref : ValueRef)
    → HoldsBatches told hash history batches k → HasValue (joined batches) value ref → IfSome (told k.disk) (λ t. Shows hash (seen t) value ref)
holds_shows told hash history batches k value ref (inl rest) has =
    if_told (IsResting batches k.ends) (λ t. Shows hash (seen t) value ref) (λ t h. value_shows hash history (seen t) batches value ref rest.first.records_are h.here.reads has) (told k.disk) rest.resting
holds_shows told hash history batches k value ref (inr (inl mid)) has =
    if_told (λ t. All (Reads (seen t)) (spans_of batches)) (λ t. Shows hash (seen t) value ref) (λ t reads. value_shows hash history (seen t) batches value ref mid.1.first.records_are reads has) (told k.disk)
    (spans_at k.batch.step (told k.disk) (end_of k.ends) (spans_of batches) (gate_of (length batches)) k.batch.pieces k.batch.written mid.1.at)
holds_shows told hash history batches k value ref (inr (inr held)) has =
    if_told (λ t. All (Reads (seen t)) (spans_of batches)) (λ t. Shows hash (seen t) value ref) (λ t reads. value_shows hash history (seen t) batches value ref held.first.records_are reads has) (told k.disk) held.reads

-- octets that were read are the value
pub placed_read : {X E : Type 0} (items : X → List ℕ) (result : Result X E) (o : Option Told) (hash : Hash) (value : List ℕ) (ref : ValueRef) → IsSome o → IfSome o (λ t. Shows hash (seen t) value ref)
    → IfOk result (λ x. IfSome o (λ t. items x ≡ shown (seen t) ref)) → IfOk result (λ x. items x ≡ value)
placed_read items (Err e) o hash value ref some shows read = tt
placed_read items (Ok x) None hash value ref some shows read = absurd (let none : ⊥ = cc in none)
placed_read items (Ok x) (Some t) hash value ref some shows read = read ∙ shows.shown_as

-- and no answer is that they differ
pub sound_read : {X : Type 0} (result : Result X ValueError) (o : Option Told) (hash : Hash) (value : List ℕ) (ref : ValueRef) (want got : List ℕ) → IsSome o → IfSome o (λ t. Shows hash (seen t) value ref)
    → IfErr result (λ e. IsCorrupt hash o ref e) → IsErrOf result (Corrupt want got) → ⊥
sound_read (Ok x) o hash value ref want got some shows corrupt is = cc
sound_read (Err e) None hash value ref want got some shows corrupt is = cc
sound_read (Err e) (Some t) hash value ref want got some shows corrupt is =
    let same : e ≡ Corrupt want got = cc in
    let why = subst (IsCorrupt hash (Some t) ref) same corrupt in
    why.1 (why.2.1 ∙ ap hash (why.2.3 ∙ shows.shown_as) ∙ sym shows.hval ∙ sym why.0)
