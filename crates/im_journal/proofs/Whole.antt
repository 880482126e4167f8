-- The pieces of a batch and an open gate make a batch that counts.
use Rattle.std.proofs.Common.{◌≡◌, ℕ, suc, zero, ◌+◌, ◌*◌, ◌≤◌, ◌<◌, List, [], ◌∷◌, ◌++◌, length, refl, sym, ◌∙◌, ap, subst, arith, append_assoc, length-append, ne_eqb}
use Rattle.std.proofs.lemmas.List.{append-nil}
use Rattle.std.proofs.lemmas.List.Elements.{All-cons, All-head, All-tail, All-append}
use Rattle.std.specs.Prelude.{All, if◌then◌else◌}
use Rattle.im_digest.specs.Digests.{Hash}
use Rattle.im_disk.specs.Disk.{Files}
use Rattle.im_model.specs.declared.transactions.Transaction.{Transaction}
use Rattle.im_disk.proofs.Tearing.{decide_same}
use Rattle.im_format.specs.Batches.{batch_fields, batch_octets, batch_spans, gate_of, joined, spans_from, spans_of, values_spans}
use Rattle.im_format.specs.Places.{log_end, log_values, refs_of}
use Rattle.im_format.specs.Records.{records_octets}
use Rattle.im_format.specs.Spans.{Reads, octet_span}
use Rattle.im_format.specs.declared.records.Record.{Record}
use Rattle.im_format.specs.declared.spans.Span.{Span}
use Rattle.im_journal.specs.Holding.{AreFirst, AreNext, ends_of}
use Rattle.im_journal.specs.Phases.{IsClosed, ReachesEnds, HasOpenGate, IsSafe}
use Rattle.im_journal.specs.Pieces.{end_of, ends_after, log_pieces, pieces_of, value_piece, value_pieces}
use Rattle.im_journal.specs.declared.ends.Ends.{Ends}
use Rattle.im_journal.proofs.Calls.{closed_long}
use Rattle.im_journal.proofs.Limits.{first_number}
use Rattle.im_journal.proofs.Parts.{back_reads, front_reads, none_reads, reads_at, reads_long}
use Rattle.im_journal.proofs.Placing.{records_end, values_read}
use Rattle.im_journal.proofs.Prefixes.{joined_more, octets_more, refs_more}
use Rattle.im_format.proofs.LengthLemmas.{length-fields}
use Rattle.im_octet.proofs.Common.{all-left, all-right}

same_batch : (g g2 i i2 e e2 : ℕ) (batch : List Record) → g ≡ g2 → i ≡ i2 → e ≡ e2 → batch_spans g i e batch ≡ batch_spans g2 i2 e2 batch
same_batch g g2 i i2 e e2 batch p q r =
    ap (λ (x : ℕ). batch_spans x i e batch) p ∙ ap (λ (x : ℕ). batch_spans g2 x e batch) q ∙ ap (λ (x : ℕ). batch_spans g2 i2 x batch) r

-- the spans of one batch more
pub spans_more : (gate id end : ℕ) (batches : List (List Record)) (batch : List Record)
    → spans_from gate id end (batches ++ batch ∷ []) ≡ spans_from gate id end batches ++ batch_spans (gate + 25 * length batches) (id + length (joined batches)) (end + length (records_octets id (joined batches))) batch
spans_more gate id end [] batch =
    append-nil (batch_spans gate id end batch) ∙ same_batch gate (gate + 0) id (id + 0) end (end + 0) batch (omega arith) (omega arith) (omega arith)
spans_more gate id end (b ∷ bs) batch =
    let first = batch_spans gate id end b in
    let id2 = id + length b in
    let end2 = end + length (records_octets id b) in
    let last = batch_spans (gate + 25 + 25 * length bs) (id2 + length (joined bs)) (end2 + length (records_octets id2 (joined bs))) batch in
    ap (λ (l : List Span). first ++ l) (spans_more (gate + 25) id2 end2 bs batch)
    ∙ sym (append_assoc first (spans_from (gate + 25) id2 end2 bs) last)
    ∙ ap (λ (l : List Span). (first ++ spans_from (gate + 25) id2 end2 bs) ++ l)
    (same_batch (gate + 25 + 25 * length bs) (gate + 25 * suc (length bs)) (id2 + length (joined bs)) (id + length (b ++ joined bs))
    (end2 + length (records_octets id2 (joined bs))) (end + length (records_octets id (b ++ joined bs))) batch
    (omega arith) (omega (arith, length-append b (joined bs))) (omega (arith, ap length (octets_more id b (joined bs)), length-append (records_octets id b) (records_octets id2 (joined bs)))))

pub staged_octets : (id count end : ℕ) → batch_octets id count end ≡ batch_fields id count end ++ (0 ∷ [])
unfolding batch_octets
staged_octets id count end = refl

piece_reads : (image : Files) (number place : ℕ) (octets : List ℕ) → All (Reads image) (value_piece number place octets) → reads_at image number place octets
piece_reads image number place octets h = decide_same (length octets) 0
    (λ none. none_reads image number place octets none)
    (λ some. All-head (Reads image) (record { file = number; at = place; octets = octets }) [] (subst (λ t. All (Reads image) (if t then [] else record { file = number; at = place; octets = octets } ∷ [])) (ne_eqb (length octets) 0 some) h))

same_ends : (x y : Ends) → x.records ≡ y.records → x.commits ≡ y.commits → x.values ≡ y.values → x ≡ y
same_ends x y records commits values =
    let one : ℕ → Ends = λ n. record x { records = n } in
    let two : ℕ → Ends = λ n. record x { records = y.records; commits = n } in
    let three : List ℕ → Ends = λ l. record y { values = l } in
    ap one records ∙ ap two commits ∙ ap three values

module _ (hash : Hash) (history : List Transaction) (batches : List (List Record)) (durable : ℕ) (rs : List Record) (first : AreFirst hash history batches durable (ends_of batches)) (next : AreNext hash history batches durable rs) where
  abbrev ends : Ends
  ends = ends_of batches

  abbrev before : ℕ → ℕ
  before v = log_end v (refs_of (joined batches))

  abbrev id : ℕ
  id = durable + 1

  abbrev octets : List ℕ
  octets = records_octets (durable + 1) rs

  abbrev vp : ℕ → List Span
  vp v = value_piece (2 + v) (before v) (log_values v rs)

  log_reads : (image : Files) → All (Reads image) (value_pieces (ends_of batches) rs) → (v : ℕ) → v < 4 → reads_at image (2 + v) (log_end v (refs_of (joined batches))) (log_values v rs)
  log_reads image h zero few =
      piece_reads image 2 (before 0) (log_values 0 rs) (all-left (Reads image) (vp 0) (vp 1) (all-left (Reads image) (vp 0 ++ vp 1) (vp 2) (all-left (Reads image) (vp 0 ++ vp 1 ++ vp 2) (vp 3) h)))
  log_reads image h (suc zero) few =
      piece_reads image 3 (before 1) (log_values 1 rs) (all-right (Reads image) (vp 0) (vp 1) (all-left (Reads image) (vp 0 ++ vp 1) (vp 2) (all-left (Reads image) (vp 0 ++ vp 1 ++ vp 2) (vp 3) h)))
  log_reads image h (suc (suc zero)) few =
      piece_reads image 4 (before 2) (log_values 2 rs) (all-right (Reads image) (vp 0 ++ vp 1) (vp 2) (all-left (Reads image) (vp 0 ++ vp 1 ++ vp 2) (vp 3) h))
  log_reads image h (suc (suc (suc zero))) few =
      piece_reads image 5 (before 3) (log_values 3 rs) (all-right (Reads image) (vp 0 ++ vp 1 ++ vp 2) (vp 3) h)
  log_reads image h (suc (suc (suc (suc v)))) few = absurd (omega (arith, few))

  values_of : (image : Files) → All (Reads image) (pieces_of (ends_of batches) (durable + 1) rs) → (v : ℕ) → v < 4 → reads_at image (2 + v) (log_end v (refs_of (joined batches))) (log_values v rs)
  values_of image h = log_reads image (all-left (Reads image) (value_pieces ends rs) (log_pieces ends id rs) h)

  abbrev s0 : Span
  s0 = record { file = 0; at = length (records_octets 1 (joined batches)); octets = records_octets (durable + 1) rs }

  abbrev s1 : Span
  s1 = record { file = 1; at = gate_of (length batches) + 1; octets = batch_octets (durable + 1) (length rs) (length (records_octets 1 (joined batches)) + length (records_octets (durable + 1) rs)) }

  logs_read : (image : Files) → All (Reads image) (pieces_of (ends_of batches) (durable + 1) rs) → All (Reads image) (s0 ∷ s1 ∷ [])
  logs_read image h = all-right (Reads image) (value_pieces ends rs) (s0 ∷ s1 ∷ []) h

  records_read : (image : Files) → All (Reads image) (pieces_of (ends_of batches) (durable + 1) rs) → Reads image s0
  records_read image h = All-head (Reads image) s0 (s1 ∷ []) (logs_read image h)

  abbrev fields : List ℕ
  fields = batch_fields (durable + 1) (length rs) (length (records_octets 1 (joined batches)) + length (records_octets (durable + 1) rs))

  staged_read : (image : Files) → All (Reads image) (pieces_of (ends_of batches) (durable + 1) rs) → reads_at image 1 (gate_of (length batches) + 1) (fields ++ (0 ∷ []))
  staged_read image h =
      subst (λ (l : List ℕ). reads_at image 1 (gate_of (length batches) + 1) l) (staged_octets id (length rs) (length (records_octets 1 (joined batches)) + length octets))
      (All-head (Reads image) s1 [] (All-tail (Reads image) s0 (s1 ∷ []) (logs_read image h)))

  -- the next gate is closed
  next_closed : (image : Files) → All (Reads image) (pieces_of (ends_of batches) (durable + 1) rs) → IsClosed image (gate_of (length batches) + 25)
  next_closed image h = record {
    octet = 0;
    shut = λ e. omega (arith, e);
    reads = subst (λ (k : ℕ). reads_at image 1 k (0 ∷ [])) (omega (arith, length-fields id (length rs) (length (records_octets 1 (joined batches)) + length octets)))
        (back_reads image 1 (gate_of (length batches) + 1) fields (0 ∷ []) (staged_read image h));
  }

  batch_reads : (image : Files) → All (Reads image) (pieces_of (ends_of batches) (durable + 1) rs) → Reads image (octet_span 1 (gate_of (length batches)) 1)
      → All (Reads image) (batch_spans (gate_of (length batches)) (durable + 1) (length (records_octets 1 (joined batches))) rs)
  batch_reads image h open_gate =
      let R = Reads image in
      let gate = gate_of (length batches) in
      let b1 : Span = record { file = 1; at = gate + 1; octets = fields } in
      let front = front_reads image 1 (gate + 1) fields (0 ∷ []) (staged_read image h) in
      let values = values_read image hash history next.logs id (refs_of (joined batches)) rs next.put next.records_are (values_of image h) in
      All-cons R (octet_span 1 gate 1) (b1 ∷ s0 ∷ values_spans rs) open_gate (All-cons R b1 (s0 ∷ values_spans rs) front (All-cons R s0 (values_spans rs) (records_read image h) values))

  -- the ends are those of one batch more
  pub ends_more : ends_after (ends_of batches) (durable + 1) rs ≡ ends_of (batches ++ rs ∷ [])
  ends_more =
      let number = first_number hash history batches durable (ends_of batches) first in
      let all = joined_more batches rs in
      let log : length (records_octets 1 (joined batches)) + length (records_octets (durable + 1) rs) ≡ length (records_octets 1 (joined (batches ++ rs ∷ []))) =
      omega (
        arith,
        ap (λ (l : List Record). length (records_octets 1 l)) all,
        ap length (octets_more 1 (joined batches) rs),
        length-append (records_octets 1 (joined batches)) (records_octets (1 + length (joined batches)) rs),
        ap (λ (k : ℕ). length (records_octets (k + 1) rs)) number,
        ap (λ (k : ℕ). length (records_octets k rs)) one_more,
      ) in
      let gate : gate_of (length batches) + 25 ≡ gate_of (length (batches ++ rs ∷ [])) = omega (arith, length-append batches (rs ∷ [])) in
      same_ends (ends_after (ends_of batches) (durable + 1) rs) (ends_of (batches ++ rs ∷ [])) log gate
      (four (before 0 + length (log_values 0 rs)) _ (before 1 + length (log_values 1 rs)) _ (before 2 + length (log_values 2 rs)) _ (before 3 + length (log_values 3 rs)) _
      (value 0) (value 1) (value 2) (value 3))
    where
      one_more : 1 + length (joined batches) ≡ length (joined batches) + 1
      one_more = omega arith

      value : (v : ℕ) → log_end v (refs_of (joined batches)) + length (log_values v rs) ≡ log_end v (refs_of (joined (batches ++ rs ∷ [])))
      value v = sym (records_end hash history next.logs id v (refs_of (joined batches)) rs next.put next.records_are) ∙ ap (log_end v) (sym (ap refs_of (joined_more batches rs) ∙ refs_more (joined batches) rs))

      four : (a a2 b b2 c c2 d d2 : ℕ) → a ≡ a2 → b ≡ b2 → c ≡ c2 → d ≡ d2 → a ∷ b ∷ c ∷ d ∷ [] ≡ a2 ∷ b2 ∷ c2 ∷ d2 ∷ []
      four a a2 b b2 c c2 d d2 p q r s = cc

  -- no file is shorter than its end behind the batch
  long_after : (image : Files) → ReachesEnds (end_of (ends_of batches)) image → All (Reads image) (pieces_of (ends_of batches) (durable + 1) rs) → (k : ℕ) → end_of (ends_after (ends_of batches) (durable + 1) rs) k ≤ length (image k)
  long_after image long h zero = reads_long image 0 (length (records_octets 1 (joined batches))) octets (records_read image h) (long.long 0)
  long_after image long h (suc zero) = omega (arith, closed_long image (gate_of (length batches) + 25) (next_closed image h))
  long_after image long h (suc (suc zero)) = reads_long image 2 (before 0) (log_values 0 rs) (values_of image h 0 (omega arith)) (long.long 2)
  long_after image long h (suc (suc (suc zero))) = reads_long image 3 (before 1) (log_values 1 rs) (values_of image h 1 (omega arith)) (long.long 3)
  long_after image long h (suc (suc (suc (suc zero)))) = reads_long image 4 (before 2) (log_values 2 rs) (values_of image h 2 (omega arith)) (long.long 4)
  long_after image long h (suc (suc (suc (suc (suc zero))))) = reads_long image 5 (before 3) (log_values 3 rs) (values_of image h 3 (omega arith)) (long.long 5)
  long_after image long h (suc (suc (suc (suc (suc (suc k)))))) = omega arith

  pub batch_safe : (image : Files) → HasOpenGate (end_of (ends_of batches)) (spans_of batches ++ pieces_of (ends_of batches) (durable + 1) rs) (gate_of (length batches)) image
      → IsSafe (end_of (ends_of (batches ++ rs ∷ []))) (spans_of (batches ++ rs ∷ [])) (gate_of (length (batches ++ rs ∷ []))) image
  batch_safe image opened =
      let R = Reads image in
      let pieces = pieces_of ends id rs in
      let old = all-left R (spans_of batches) pieces opened.reads in
      let new = all-right R (spans_of batches) pieces opened.reads in
      let number = first_number hash history batches durable (ends_of batches) first in
      let last = batch_spans (0 + 25 * length batches) (1 + length (joined batches)) (0 + length (records_octets 1 (joined batches))) rs in
      let same : batch_spans (gate_of (length batches)) (durable + 1) (length (records_octets 1 (joined batches))) rs ≡ last =
      same_batch (gate_of (length batches)) (0 + 25 * length batches) (durable + 1) (1 + length (joined batches)) (length (records_octets 1 (joined batches))) (0 + length (records_octets 1 (joined batches))) rs
      (omega arith) (omega (arith, number)) (omega arith) in
      record {
        reads = subst (All R) (sym (spans_more 0 1 0 batches rs)) (All-append R (spans_of batches) last old (subst (All R) same (batch_reads image new opened.opened)));
        long = record { long = subst (λ (e : Ends). (k : ℕ) → end_of e k ≤ length (image k)) ends_more (long_after image opened.long new) };
        closed = subst (IsClosed image) (omega (arith, length-append batches (rs ∷ []))) (next_closed image new);
      }
