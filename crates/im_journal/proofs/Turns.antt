-- The beginning and the end of a batch, and what an image with a closed gate stands for.
use Rattle.std.proofs.Common.{◌≡◌, ℕ, suc, zero, ◌+◌, ◌*◌, ◌^◌, ◌≤◌, ◌<◌, List, [], ◌∷◌, ◌++◌, length, get_or, map, take, drop, refl, sym, ◌∙◌, ap, subst, arith, inl}
use Rattle.std.proofs.lemmas.List.{append-nil, map-append}
use Rattle.std.proofs.lemmas.List.Elements.{All-weaker, All-head, All-nil, All-cons, All-append}
use Rattle.std.proofs.Math.Seq.{take-add}
use Rattle.std.specs.Prelude.{All}
use Rattle.im_digest.specs.Digests.{Hash}
use Rattle.im_disk.specs.Disk.{Files, Told, seen}
use Rattle.im_model.specs.declared.transactions.Transaction.{Transaction}
use Rattle.im_model.proofs.HistoryLemmas.{IsHistory-take}
use Rattle.im_format.specs.Batches.{batch_fields, batch_spans, gate_of, joined, spans_from, spans_of, values_spans}
use Rattle.im_format.specs.Places.{log_end, refs_of}
use Rattle.im_format.specs.Records.{AreRecords, records_octets}
use Rattle.im_format.specs.Spans.{Misses, Reads, octet_span}
use Rattle.im_format.specs.Standing.{LiesIn, Stands}
use Rattle.im_format.specs.declared.records.Record.{Record}
use Rattle.im_format.specs.declared.spans.Span.{Span}
use Rattle.im_journal.specs.Holding.{AreFirst, AreNext, IsResting, ends_of}
use Rattle.im_journal.specs.Phases.{AreClear, IsDone, IsSafe, IsStaging}
use Rattle.im_journal.specs.Pieces.{end_of, pieces_of}
use Rattle.im_journal.proofs.Calls.{closed_long}
use Rattle.im_journal.proofs.Clear.{EndsIn, IsBelow, all_pieces, pieces_clear, spans_below}
use Rattle.im_journal.proofs.Limits.{durable_few, first_number}
use Rattle.im_journal.proofs.Placing.{IsIn, records_in, refs_below}
use Rattle.im_journal.proofs.Prefixes.{joined_more, records_both, records_front}
use Rattle.im_journal.proofs.Whole.{batch_safe}
use Rattle.im_octet.proofs.Common.{all-right}

module _ (hash : Hash) (history : List Transaction) (batches : List (List Record)) (durable : ℕ) (first : AreFirst hash history batches durable (ends_of batches)) where
  all_in : All (IsIn (1048576 * 2 ^ 22)) (refs_of (joined batches))
  all_in = records_in hash history 1 1048576 (joined batches) first.records_are (omega (arith, first_number hash history batches durable (ends_of batches) first, durable_few hash history batches durable (ends_of batches) first))

  -- a value log's end is what the ends say
  log_is : (v : ℕ) → v < 4 → log_end v (refs_of (joined batches)) ≤ end_of (ends_of batches) (2 + v)
  log_is zero few = omega arith
  log_is (suc zero) few = omega arith
  log_is (suc (suc zero)) few = omega arith
  log_is (suc (suc (suc zero))) few = omega arith
  log_is (suc (suc (suc (suc v)))) few = absurd (omega (arith, few))

  -- a value's end is at most its log's end
  values_end : All (EndsIn (end_of (ends_of batches))) (refs_of (joined batches))
  values_end = refs_below (1048576 * 2 ^ 22) (λ v. end_of (ends_of batches) (2 + v)) (refs_of (joined batches)) all_in log_is

  -- what stands lies below the ends
  pub all_below : All (IsBelow (end_of (ends_of batches))) (spans_of batches)
  all_below = spans_below hash history (end_of (ends_of batches)) 0 1 0 batches first.records_are (omega arith) (omega arith) values_end

  -- a batch begins
  pub begins : (rs : List Record) (t : Told) → IsResting batches (ends_of batches) t
      → IsStaging (end_of (ends_of batches)) (spans_of batches) (gate_of (length batches)) [] (pieces_of (ends_of batches) (durable + 1) rs) t
  begins rs t resting =
      let ends = ends_of batches in
      let spans = spans_of batches in
      let gate = gate_of (length batches) in
      let none : spans ≡ spans ++ [] = sym (append-nil spans) in
      let long : (k : ℕ) → end_of ends k ≤ length (seen t k) = resting.here.long.long in
      record {
        safe = resting.safe;
        here = subst (λ (l : List Span). IsSafe (end_of ends) l gate (seen t)) none resting.here;
        outside = subst (All (Misses 1 gate 1)) none (All-weaker (IsBelow (end_of ends)) (Misses 1 gate 1) (λ s b. record { apart = λ one. inl (omega (arith, b.below, ap (end_of ends) one)) }) spans all_below);
        clear = subst (λ (l : List Span). AreClear l gate (pieces_of ends (durable + 1) rs)) none (pieces_clear ends (durable + 1) rs spans gate all_below refl);
        within = all_pieces ends (durable + 1) rs (λ p. p.at ≤ length (seen t p.file))
            (λ number octets two six. long number)
            (long 0)
            (omega (arith, closed_long (seen t) gate resting.here.closed));
      }

  -- a batch more is durable
  pub first_more : (rs : List Record) → AreNext hash history batches durable rs → AreFirst hash history (batches ++ rs ∷ []) (durable + length rs) (ends_of (batches ++ rs ∷ []))
  first_more rs next =
      let number = first_number hash history batches durable (ends_of batches) first in
      let tx : Record → Transaction = λ r. r.tx in
      record {
        digests = first.digests;
        history_is = first.history_is;
        placed = next.placed;
        transactions_are = ap (map tx) (joined_more batches rs) ∙ map-append tx (joined batches) rs ∙ ap (λ (l : List Transaction). l ++ map tx rs) first.transactions_are
            ∙ ap (λ (l : List Transaction). take durable history ++ l) next.transactions_are ∙ sym (take-add durable (length rs) history);
        records_are = subst (λ (l : List Record). AreRecords hash history 1 l) (sym (joined_more batches rs)) (records_both hash history 1 (joined batches) rs first.records_are (subst (λ (k : ℕ). AreRecords hash history k rs) (omega (arith, number)) next.records_are));
        filled = All-append (λ (batch : List Record). 1 ≤ length batch) batches (rs ∷ []) first.filled (All-cons (λ (batch : List Record). 1 ≤ length batch) rs [] next.some (All-nil (λ (batch : List Record). 1 ≤ length batch)));
        ends_are = refl;
      }

  pub rests : (rs : List Record) (t : Told) → AreNext hash history batches durable rs
      → IsDone (end_of (ends_of batches)) (spans_of batches) (gate_of (length batches)) (pieces_of (ends_of batches) (durable + 1) rs) t → IsResting (batches ++ rs ∷ []) (ends_of (batches ++ rs ∷ [])) t
  rests rs t next done = record {
    safe = λ image now. batch_safe hash history batches durable rs first next image (done.opened image now);
    here = batch_safe hash history batches durable rs first next (seen t) done.here;
  }

-- the gate of each batch is open
opened_at : (image : Files) (gate id end : ℕ) (batches : List (List Record)) → All (Reads image) (spans_from gate id end batches) → (b : ℕ) → b < length batches → Reads image (octet_span 1 (gate + 25 * b) 1)
opened_at image gate id end [] reads b lt = absurd (omega (arith, lt))
opened_at image gate id end (batch ∷ batches) reads zero lt =
    let end2 = end + length (records_octets id batch) in
    let b1 : Span = record { file = 1; at = gate + 1; octets = batch_fields id (length batch) end2 } in
    let s0 : Span = record { file = 0; at = end; octets = records_octets id batch } in
    subst (λ (k : ℕ). Reads image (octet_span 1 k 1)) (omega arith)
    (All-head (Reads image) (octet_span 1 gate 1) (b1 ∷ s0 ∷ (values_spans batch ++ spans_from (gate + 25) (id + length batch) end2 batches)) reads)
opened_at image gate id end (batch ∷ batches) reads (suc b) lt =
    let end2 = end + length (records_octets id batch) in
    subst (λ (k : ℕ). Reads image (octet_span 1 k 1)) (omega arith)
    (opened_at image (gate + 25) (id + length batch) end2 batches
    (all-right (Reads image) (batch_spans gate id end batch) (spans_from (gate + 25) (id + length batch) end2 batches) reads) b (omega (arith, lt)))

-- the octet that reads at a place
octet_is : (l : List ℕ) (place octet : ℕ) → take 1 (drop place l) ≡ octet ∷ [] → get_or l place 0 ≡ octet
octet_is [] zero octet e = absurd (omega (arith, ap length e))
octet_is [] (suc place) octet e = absurd (omega (arith, ap length e))
octet_is (x ∷ l) zero octet e = ap (λ (k : List ℕ). get_or k 0 0) e
octet_is (x ∷ l) (suc place) octet e = octet_is l place octet e

-- an image with these batches and a closed gate behind them stands for their transactions
pub stands : (hash : Hash) (history : List Transaction) (batches : List (List Record)) (durable : ℕ) → AreFirst hash history batches durable (ends_of batches)
    → (image : Files) → IsSafe (end_of (ends_of batches)) (spans_of batches) (gate_of (length batches)) image → Stands hash image (take durable history)
stands hash history batches durable first image safe =
    let gate = gate_of (length batches) in
    let there = closed_long image gate safe.closed in
    let number = first_number hash history batches durable (ends_of batches) first in
    record {
      batches = batches;
      there = record {
        counted = λ b lt.
            let opened = opened_at image 0 1 0 batches safe.reads b lt in
            record {
              opened = subst (λ (k : ℕ). get_or (image 1) k 0 ≡ 1) (omega arith) (octet_is (image 1) (0 + 25 * b) 1 opened.reads);
              whole = omega (arith, lt, there);
            };
        last = λ counts. safe.closed.shut (sym (octet_is (image 1) gate safe.closed.octet safe.closed.reads.reads) ∙ counts.opened);
        filled = first.filled;
        reads = safe.reads;
        lie = All-weaker (EndsIn (end_of (ends_of batches))) (LiesIn image) (λ ref le. record { within = omega (arith, le, safe.long.long (2 + ref.log)) }) (refs_of (joined batches)) (values_end hash history batches durable first);
      };
      transactions_are = first.transactions_are;
      history_is = IsHistory-take history durable first.history_is;
      records_are = records_front hash history durable 1 (joined batches) (omega arith) (omega (arith, number)) first.records_are;
    }

-- with these very batches
pub stands_batches : (hash : Hash) (history : List Transaction) (batches : List (List Record)) (durable : ℕ) (first : AreFirst hash history batches durable (ends_of batches))
    → (image : Files) (safe : IsSafe (end_of (ends_of batches)) (spans_of batches) (gate_of (length batches)) image) → (stands hash history batches durable first image safe).batches ≡ batches
unfolding stands
stands_batches hash history batches durable first image safe = refl
