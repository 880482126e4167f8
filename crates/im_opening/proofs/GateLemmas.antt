-- What a write of the gate behind the batches leaves standing.
use Rattle.std.proofs.Common.{◌≡◌, ℕ, suc, zero, ◌+◌, ◌*◌, ◌<◌, ◌≤◌, ◌≢◌, List, [], ◌∷◌, length, get_or, get_or-take, take, drop, drop-cons, ap, sym, ◌∙◌, subst, arith, inl, inr, All}
use Rattle.std.proofs.lemmas.List.Elements.{All-append, All-cons, All-nil, All-weaker}
use Rattle.im_digest.specs.Digests.{Hash}
use Rattle.im_disk.specs.Disk.{Files, TornFile}
use Rattle.im_format.specs.Batches.{Counts, batch_fields, batch_spans, entries_spans, gate_of, joined, spans_from, spans_of, value_span, values_spans}
use Rattle.im_format.specs.Places.{refs_of}
use Rattle.im_format.specs.Records.{records_octets}
use Rattle.im_format.specs.Spans.{Misses, octet_span}
use Rattle.im_format.specs.Standing.{LiesIn, Stands}
use Rattle.im_format.specs.declared.records.Record.{Record}
use Rattle.im_format.specs.declared.references.ValueRef.{ValueRef}
use Rattle.im_format.specs.declared.spans.Span.{Span}
use Rattle.im_model.specs.declared.entries.Entry.{Entry}
use Rattle.im_model.specs.declared.transactions.Transaction.{Transaction}
use Rattle.im_alog.proofs.Torn.{keeps_all, same_all}
use Rattle.im_clog.specs.Marks.{IsUncounted}
use Rattle.im_clog.specs.declared.marks.Uncounted.{Uncounted}
use Rattle.im_clog.specs.declared.marks.Uncounted.TheVariants.{Missing, Closed, Short}
use Rattle.im_format.specs.Reading.{counts, number_at, records_end}
use Rattle.im_opening.specs.Parts.{batches_from, batches_in, records_in}
use Rattle.im_format.proofs.HeldBatches.{true-counts}
use Rattle.std.proofs.lemmas.Bool.{cases_Bool, cases_lt}
use Rattle.std.proofs.Common.{if◌then◌else◌}
use Rattle.im_opening.specs.Cut.{IsCutOff, IsShut}
use Rattle.im_format.proofs.LengthLemmas.{length-fields}

module _ (gate : ℕ) where
  M : Span → Type 0
  M s = Misses 1 gate 1 s

  elsewhere : (s : Span) → s.file ≢ 1 → Misses 1 gate 1 s
  elsewhere s other = record { apart = λ e. absurd (other e) }

  entries-miss : (entries : List Entry) (refs : List ValueRef) → All (Misses 1 gate 1) (entries_spans entries refs)
  entries-miss [] refs = All-nil (Misses 1 gate 1)
  entries-miss (e ∷ entries) [] = All-nil (Misses 1 gate 1)
  entries-miss (e ∷ entries) (r ∷ refs) =
      All-cons (Misses 1 gate 1) (value_span e.value r) (entries_spans entries refs)
      (elsewhere (value_span e.value r) (λ same. omega (arith, same))) (entries-miss entries refs)

  values-miss : (records : List Record) → All (Misses 1 gate 1) (values_spans records)
  values-miss [] = All-nil (Misses 1 gate 1)
  values-miss (r ∷ records) =
      All-append (Misses 1 gate 1) (entries_spans r.tx.entries r.refs) (values_spans records) (entries-miss r.tx.entries r.refs) (values-miss records)

  batch-misses : (g id end : ℕ) (batch : List Record) → g + 25 ≤ gate → All (Misses 1 gate 1) (batch_spans g id end batch)
  batch-misses g id end batch le =
      let octets = records_octets id batch in
      let fields = batch_fields id (length batch) (end + length octets) in
      let opened : Span = octet_span 1 g 1 in
      let of_fields : Span = record { file = 1; at = g + 1; octets = fields } in
      let of_records : Span = record { file = 0; at = end; octets = octets } in
      All-cons (Misses 1 gate 1) opened (of_fields ∷ of_records ∷ values_spans batch) (record { apart = λ e. inl (omega (arith, le)) })
      (All-cons (Misses 1 gate 1) of_fields (of_records ∷ values_spans batch)
      (record { apart = λ e. inl (omega (arith, le, length-fields id (length batch) (end + length octets))) })
      (All-cons (Misses 1 gate 1) of_records (values_spans batch) (elsewhere of_records (λ same. omega (arith, same))) (values-miss batch)))

  pub spans-miss : (g id end : ℕ) (batches : List (List Record)) → g + 25 * length batches ≤ gate → All (Misses 1 gate 1) (spans_from g id end batches)
  spans-miss g id end [] le = All-nil (Misses 1 gate 1)
  spans-miss g id end (batch ∷ batches) le =
      All-append (Misses 1 gate 1) (batch_spans g id end batch)
      (spans_from (g + 25) (id + length batch) (end + length (records_octets id batch)) batches)
      (batch-misses g id end batch (omega arith))
      (spans-miss (g + 25) (id + length batch) (end + length (records_octets id batch)) batches (omega arith))

-- a torn write of the gate leaves what is cut short so
pub cut-kept : (hash : Hash) (history : List Transaction) (gate : ℕ) (old new : Files) → TornFile 1 gate 1 old new → IsCutOff hash history gate old → IsCutOff hash history gate new
cut-kept hash history gate old new torn cut =
    let s = cut.stands in
    let there = s.there in
    let at : gate ≡ 25 * length s.batches = cut.gate_is in
    let longer : length (old 1) ≤ length (new 1) = torn.torn.no_shorter in
    let short : length (old 1) ≤ gate + 25 = cut.short in
    let ends : length (new 1) ≤ gate + 25 = omega (arith, torn.torn.no_longer, short) in
    let same : (i : ℕ) → i < gate → get_or (new 1) i 0 ≡ get_or (old 1) i 0 =
    λ i lt. (sym (get_or-take gate (new 1) i 0 lt) ∙ ap (λ (l : List ℕ). get_or l i 0) torn.torn.before ∙ get_or-take gate (old 1) i 0 lt)
    in
    record {
      stands = record {
        batches = s.batches;
        there = record {
          counted = λ b lt.
              let was : Counts (old 1) (gate_of b) = there.counted b lt in
              let whole : 25 * b + 25 < length (old 1) = was.whole in
              record { opened = same (25 * b) (omega (arith, lt, at)) ∙ was.opened; whole = omega (arith, whole, longer) };
          last = λ counts. (let whole : 25 * length s.batches + 25 < length (new 1) = counts.whole in omega (arith, whole, ends, at));
          filled = there.filled;
          reads =
              keeps_all 1 gate 1 old new (spans_of s.batches) torn (spans-miss gate 0 1 0 s.batches (omega (arith, at))) there.reads;
          lie = All-weaker (LiesIn old) (LiesIn new)
              (λ ref l.
              let one : 2 + ref.log ≢ 1 = λ e. omega (arith, e) in
              record { within = subst (λ (f : List ℕ). ref.at + ref.len ≤ length f) (sym (torn.others (2 + ref.log) one)) l.within })
              (refs_of (joined s.batches)) there.lie;
        };
        transactions_are = s.transactions_are;
        history_is = s.history_is;
        records_are = s.records_are;
      };
      gate_is = cut.gate_is;
      short = ends;
    }

-- the same octets are a torn write too
pub same-torn : (file at n : ℕ) (old new : Files) → ((k : ℕ) → new k ≡ old k) → TornFile file at n old new
same-torn file at n old new same =
    let size : length (new file) ≡ length (old file) = ap length (same file) in
    record {
      torn = record {
        before = ap (λ (l : List ℕ). take at l) (same file);
        after = ap (λ (l : List ℕ). drop (at + n) l) (same file);
        no_shorter = omega (arith, size);
        no_longer = omega (arith, size);
      };
      others = λ k other. same k;
    }

-- an image of the same octets stands for the same history
pub stands-same : (hash : Hash) (history : List Transaction) (old new : Files) → ((k : ℕ) → new k ≡ old k) → Stands hash old history → Stands hash new history
stands-same hash history old new same s =
    let there = s.there in
    let C : ℕ → List ℕ → Type 0 = λ gate l. Counts l gate in
    record {
      batches = s.batches;
      there = record {
        counted = λ b lt. subst (C (gate_of b)) (sym (same 1)) (there.counted b lt);
        last = λ counts. there.last (subst (C (gate_of (length s.batches))) (same 1) counts);
        filled = there.filled;
        reads = same_all old new same (spans_of s.batches) there.reads;
        lie = All-weaker (LiesIn old) (LiesIn new)
            (λ ref l. record { within = subst (λ (f : List ℕ). ref.at + ref.len ≤ length f) (sym (same (2 + ref.log))) l.within })
            (refs_of (joined s.batches)) there.lie;
      };
      transactions_are = s.transactions_are;
      history_is = s.history_is;
      records_are = s.records_are;
    }

-- the first of some gates counts, and so do the others
count-step : (image : Files) (gate n b : ℕ) → Counts (image 1) gate → b < n + 1 → ((k : ℕ) → k < n → Counts (image 1) (gate + 25 + 25 * k)) → Counts (image 1) (gate + 25 * b)
count-step image gate n zero here lt more =
    let same : gate ≡ gate + 25 * 0 = omega arith in
    let P : ℕ → Type 0 = λ k. Counts (image 1) k in
    subst P same here
count-step image gate n (suc b) here lt more =
    let same : gate + 25 + 25 * b ≡ gate + 25 * suc b = omega arith in
    let P : ℕ → Type 0 = λ k. Counts (image 1) k in
    subst P same (more b (omega (arith, lt)))

-- each of the batches that are read counts
all-count : (image : Files) (most gate at b : ℕ) → b < length (batches_from image most gate at) → Counts (image 1) (gate + 25 * b)
all-count image zero gate at b lt = absurd (omega (arith, lt))
all-count image (suc most) gate at b lt = elim (cases_Bool (counts (image 1) gate)) [
  | inl open_is ↦ (
      let n = number_at (image 1) gate in
      let rest = batches_from image most (gate + 25) (records_end image at n) in
      let is : batches_from image (suc most) gate at ≡ records_in image at n ∷ rest = ap (λ t. if t then records_in image at n ∷ rest else []) open_is in
      count-step image gate (length rest) b (true-counts (image 1) gate open_is) (omega (arith, lt, ap length is))
      (λ k le. all-count image most (gate + 25) (records_end image at n) k le))
  | inr shut ↦ (
      let n = number_at (image 1) gate in
      let rest = batches_from image most (gate + 25) (records_end image at n) in
      let is : batches_from image (suc most) gate at ≡ [] = ap (λ t. if t then records_in image at n ∷ rest else []) shut in
      absurd (omega (arith, lt, ap length is)))
]

-- so an image that stands has as many batches as are read, where none counts behind these
pub batches-same : (hash : Hash) (history : List Transaction) (image : Files) (n : ℕ) (s : Stands hash image history)
    → n ≡ length (batches_in image) → (Counts (image 1) (gate_of n) → ⊥) → n ≡ length s.batches
batches-same hash history image n s is none = elim (cases_lt n (length s.batches)) [
  | inl less ↦ absurd (none (s.there.counted n less))
  | inr ge ↦ elim (cases_lt (length s.batches) n) [
    | inl more ↦ (
        let same : 0 + 25 * length s.batches ≡ gate_of (length s.batches) = omega arith in
        let P : ℕ → Type 0 = λ k. Counts (image 1) k in
        absurd (s.there.last (subst P same (all-count image (length (image 1)) 0 0 (length s.batches) (omega (arith, more, is))))))
    | inr le ↦ omega (arith, ge, le)
  ]
]

-- nothing counts at a gate where a reason is told
pub lacks-none : (log : List ℕ) (gate : ℕ) (reason : Uncounted) → IsUncounted log gate reason → Counts log gate → ⊥
lacks-none log gate Missing h counts = omega (arith, h, counts.whole)
lacks-none log gate (Closed octet) h counts = h.2 (h.1 ∙ counts.opened)
lacks-none log gate (Short len) h counts = omega (arith, h.2, counts.whole)

-- a closed gate that was read
pub shut-read : (image : Files) (gate octet : ℕ) → IsUncounted (image 1) gate (Closed octet) → IsShut image gate
shut-read image gate octet h =
    let log = image 1 in
    let here : drop gate log ≡ get_or log gate 0 ∷ drop (suc gate) log = drop-cons log gate 0 h.0 in
    record {
      octet = octet;
      closed = h.2;
      reads = record { reads = ap (λ (l : List ℕ). take 1 l) here ∙ ap (λ (o : ℕ). o ∷ []) (sym h.1) };
    }
