-- The pieces of a batch lie outside of what stands, and of each other.
use Rattle.std.proofs.Common.{◌≡◌, ◌≢◌, ℕ, ◌+◌, ◌*◌, ◌≤◌, ◌<◌, List, [], ◌∷◌, ◌++◌, length, sym, ◌∙◌, ap, subst, arith, append_assoc, length-append, inl, eq-eqb, ne_eqb}
use Rattle.std.proofs.lemmas.List.Elements.{All-nil, All-cons, All-head, All-tail, All-append, All-weaker, All-push}
use Rattle.std.specs.Prelude.{All, if◌then◌else◌}
use Rattle.im_digest.specs.Digests.{Hash}
use Rattle.im_model.specs.declared.entries.Entry.{Entry}
use Rattle.im_model.specs.declared.transactions.Transaction.{Transaction}
use Rattle.im_disk.proofs.Tearing.{decide_same}
use Rattle.im_format.specs.Batches.{batch_fields, batch_octets, batch_spans, entries_spans, joined, spans_from, value_span, values_spans}
use Rattle.im_format.specs.Places.{log_values, refs_of}
use Rattle.im_format.specs.Records.{AreRecords, AreReferences, records_octets}
use Rattle.im_format.specs.Spans.{Misses, octet_span}
use Rattle.im_format.specs.declared.records.Record.{Record}
use Rattle.im_format.specs.declared.references.ValueRef.{ValueRef}
use Rattle.im_format.specs.declared.spans.Span.{Span}
use Rattle.im_alog.proofs.Torn.{all_both}
use Rattle.im_journal.specs.Phases.{AreClear, IsClear}
use Rattle.im_journal.specs.Pieces.{end_of, log_pieces, pieces_of, value_piece}
use Rattle.im_journal.specs.declared.ends.Ends.{Ends}
use Rattle.im_journal.proofs.Prefixes.{octets_more, refs_more}
use Rattle.im_format.proofs.LengthLemmas.{length-fields}
use Rattle.im_octet.proofs.Common.{all-left, all-right}

-- the span lies below the end of its file
pub record IsBelow (ends : ℕ → ℕ) (s : Span) : Type 0 where
  pub below : s.at + length s.octets ≤ ends s.file

abbrev AreDifferent : List Span → Type 0
AreDifferent [] = Unit {0}
AreDifferent (p ∷ ps) = All (λ q. q.file ≢ p.file) ps × AreDifferent ps

-- pieces for different files, each clear of the spans
clear_apart : (spans : List Span) (gate : ℕ) (ps : List Span) → All (IsClear spans gate) ps → AreDifferent ps → AreClear spans gate ps
clear_apart spans gate [] clear different = tt
clear_apart spans gate (p ∷ ps) clear different = (
  All-head (IsClear spans gate) p ps clear,
  clear_apart (spans ++ p ∷ []) gate ps
      (all_both (IsClear spans gate) (λ q. q.file ≢ p.file) (IsClear (spans ++ p ∷ []) gate)
      (λ q c other. record {
        misses = All-push (Misses q.file q.at (length q.octets)) spans p c.misses (record { apart = λ same. absurd (other (sym same)) });
        behind = c.behind;
      }) ps (All-tail (IsClear spans gate) p ps clear) different.0)
      different.1,
)

-- a piece at or behind the end of its file
clear_behind : (spans : List Span) (ends : ℕ → ℕ) (gate : ℕ) (p : Span) → All (IsBelow ends) spans → ends p.file ≤ p.at → (p.file ≡ 1 → gate + 1 ≤ p.at) → IsClear spans gate p
clear_behind spans ends gate p below le behind = record {
  misses = All-weaker (IsBelow ends) (Misses p.file p.at (length p.octets)) (λ s b. record { apart = λ same. inl (omega (arith, b.below, le, ap ends same)) }) spans below;
  behind = behind;
}

-- a piece for a value log, before others
all_with_piece : (P : Span → Type 0) (number place : ℕ) (octets : List ℕ) (rest : List Span) → P (record { file = number; at = place; octets = octets }) → All P rest → All P (value_piece number place octets ++ rest)
all_with_piece P number place octets rest h all = decide_same (length octets) 0
    (λ none. subst (λ t. All P ((if t then [] else record { file = number; at = place; octets = octets } ∷ []) ++ rest)) (sym (eq-eqb (length octets) 0 none)) all)
    (λ some. subst (λ t. All P ((if t then [] else record { file = number; at = place; octets = octets } ∷ []) ++ rest)) (sym (ne_eqb (length octets) 0 some)) (All-cons P (record { file = number; at = place; octets = octets }) rest h all))

different_with_piece : (number place : ℕ) (octets : List ℕ) (rest : List Span) → All (λ q. q.file ≢ number) rest → AreDifferent rest → AreDifferent (value_piece number place octets ++ rest)
different_with_piece number place octets rest others different = decide_same (length octets) 0
    (λ none. subst (λ t. AreDifferent ((if t then [] else record { file = number; at = place; octets = octets } ∷ []) ++ rest)) (sym (eq-eqb (length octets) 0 none)) different)
    (λ some. subst (λ t. AreDifferent ((if t then [] else record { file = number; at = place; octets = octets } ∷ []) ++ rest)) (sym (ne_eqb (length octets) 0 some)) (others, different))

regroup : (a b c d e : List Span) → a ++ b ++ c ++ d ++ e ≡ a ++ (b ++ (c ++ (d ++ e)))
regroup a b c d e = append_assoc (a ++ b ++ c) d e ∙ append_assoc (a ++ b) c (d ++ e) ∙ append_assoc a b (c ++ (d ++ e))

module _ (ends : Ends) (id : ℕ) (rs : List Record) where
  abbrev piece : ℕ → List Span
  piece v = value_piece (2 + v) (end_of ends (2 + v)) (log_values v rs)

  abbrev nested : List Span
  nested = piece 0 ++ (piece 1 ++ (piece 2 ++ (piece 3 ++ log_pieces ends id rs)))

  is_nested : nested ≡ pieces_of ends id rs
  is_nested = sym (regroup (piece 0) (piece 1) (piece 2) (piece 3) (log_pieces ends id rs))

  abbrev s0 : Span
  s0 = record { file = 0; at = ends.records; octets = records_octets id rs }

  abbrev s1 : Span
  s1 = record { file = 1; at = ends.commits + 1; octets = batch_octets id (length rs) (ends.records + length (records_octets id rs)) }

  pub all_pieces : (P : Span → Type 0) → ((number : ℕ) (octets : List ℕ) → 2 ≤ number → number < 6 → P (record { file = number; at = end_of ends number; octets = octets })) → P s0 → P s1 → All P (pieces_of ends id rs)
  all_pieces P values p0 p1 = subst (All P) is_nested
      (all_with_piece P 2 (end_of ends 2) (log_values 0 rs) _ (values 2 (log_values 0 rs) (omega arith) (omega arith))
      (all_with_piece P 3 (end_of ends 3) (log_values 1 rs) _ (values 3 (log_values 1 rs) (omega arith) (omega arith))
      (all_with_piece P 4 (end_of ends 4) (log_values 2 rs) _ (values 4 (log_values 2 rs) (omega arith) (omega arith))
      (all_with_piece P 5 (end_of ends 5) (log_values 3 rs) _ (values 5 (log_values 3 rs) (omega arith) (omega arith))
      (All-cons P s0 (s1 ∷ []) p0 (All-cons P s1 [] p1 (All-nil P)))))))

  others : (number : ℕ) → 2 ≤ number → All (λ q. q.file ≢ number) (s0 ∷ s1 ∷ [])
  others number le = All-cons (λ q. q.file ≢ number) s0 (s1 ∷ []) (λ e. omega (arith, e, le)) (All-cons (λ q. q.file ≢ number) s1 [] (λ e. omega (arith, e, le)) (All-nil (λ q. q.file ≢ number)))

  different : AreDifferent (pieces_of ends id rs)
  different = subst AreDifferent is_nested
      (different_with_piece 2 (end_of ends 2) (log_values 0 rs) _
      (all_with_piece (λ q. q.file ≢ 2) 3 (end_of ends 3) (log_values 1 rs) _ (λ e. omega (arith, e)) (all_with_piece (λ q. q.file ≢ 2) 4 (end_of ends 4) (log_values 2 rs) _ (λ e. omega (arith, e)) (all_with_piece (λ q. q.file ≢ 2) 5 (end_of ends 5) (log_values 3 rs) _ (λ e. omega (arith, e)) (others 2 (omega arith)))))
      (different_with_piece 3 (end_of ends 3) (log_values 1 rs) _
      (all_with_piece (λ q. q.file ≢ 3) 4 (end_of ends 4) (log_values 2 rs) _ (λ e. omega (arith, e)) (all_with_piece (λ q. q.file ≢ 3) 5 (end_of ends 5) (log_values 3 rs) _ (λ e. omega (arith, e)) (others 3 (omega arith))))
      (different_with_piece 4 (end_of ends 4) (log_values 2 rs) _
      (all_with_piece (λ q. q.file ≢ 4) 5 (end_of ends 5) (log_values 3 rs) _ (λ e. omega (arith, e)) (others 4 (omega arith)))
      (different_with_piece 5 (end_of ends 5) (log_values 3 rs) _ (others 5 (omega arith))
      (All-cons (λ q. q.file ≢ 0) s1 [] (λ e. omega (arith, e)) (All-nil (λ q. q.file ≢ 0)), (All-nil (λ q. q.file ≢ 1), tt))))))

  pub pieces_clear : (spans : List Span) (gate : ℕ) → All (IsBelow (end_of ends)) spans → ends.commits ≡ gate → AreClear spans gate (pieces_of ends id rs)
  pieces_clear spans gate below at_gate = clear_apart spans gate (pieces_of ends id rs)
      (all_pieces (IsClear spans gate)
      (λ number octets two six. clear_behind spans (end_of ends) gate (record { file = number; at = end_of ends number; octets = octets }) below (omega arith) (λ one. absurd (omega (arith, one, two))))
      (clear_behind spans (end_of ends) gate s0 below (omega arith) (λ e. absurd (omega (arith, e))))
      (clear_behind spans (end_of ends) gate s1 below (omega arith) (λ e. omega (arith, at_gate))))
      different

-- the reference's value ends at or before the end of its log
abbrev pub EndsIn : (ℕ → ℕ) → ValueRef → Type 0
EndsIn bound ref = ref.at + ref.len ≤ bound (2 + ref.log)

entries_below : (hash : Hash) (bound : ℕ → ℕ) (id : ℕ) (entries : List Entry) (refs : List ValueRef) → AreReferences hash id entries refs → All (EndsIn bound) refs → All (IsBelow bound) (entries_spans entries refs)
entries_below hash bound id [] [] are le = All-nil (IsBelow bound)
entries_below hash bound id [] (ref ∷ refs) are le = absurd are
entries_below hash bound id (entry ∷ entries) [] are le = absurd are
entries_below hash bound id (entry ∷ entries) (ref ∷ refs) are le =
    let head : EndsIn bound ref = All-head (EndsIn bound) ref refs le in
    All-cons (IsBelow bound) (value_span entry.value ref) (entries_spans entries refs) (record { below = omega (arith, head, are.0.len) })
    (entries_below hash bound id entries refs are.1 (All-tail (EndsIn bound) ref refs le))

values_below : (hash : Hash) (history : List Transaction) (bound : ℕ → ℕ) (id : ℕ) (rs : List Record) → AreRecords hash history id rs → All (EndsIn bound) (refs_of rs) → All (IsBelow bound) (values_spans rs)
values_below hash history bound id [] are le = All-nil (IsBelow bound)
values_below hash history bound id (r ∷ rs) are le =
    All-append (IsBelow bound) (entries_spans r.tx.entries r.refs) (values_spans rs)
    (entries_below hash bound id r.tx.entries r.refs are.0.refs (all-left (EndsIn bound) r.refs (refs_of rs) le))
    (values_below hash history bound (id + 1) rs are.1 (all-right (EndsIn bound) r.refs (refs_of rs) le))

pub records_apart : (hash : Hash) (history : List Transaction) (id : ℕ) (a b : List Record) → AreRecords hash history id (a ++ b) → AreRecords hash history id a × AreRecords hash history (id + length a) b
records_apart hash history id [] b are = (tt, subst (λ (k : ℕ). AreRecords hash history k b) (omega arith) are)
records_apart hash history id (r ∷ a) b are =
    let rest = records_apart hash history (id + 1) a b are.1 in
    ((are.0, rest.0), subst (λ (k : ℕ). AreRecords hash history k b) (omega arith) rest.1)

-- what stands of batches lies below the ends of the files
pub spans_below : (hash : Hash) (history : List Transaction) (bound : ℕ → ℕ) (gate id end : ℕ) (batches : List (List Record)) → AreRecords hash history id (joined batches)
    → gate + 25 * length batches ≤ bound 1 → end + length (records_octets id (joined batches)) ≤ bound 0 → All (EndsIn bound) (refs_of (joined batches)) → All (IsBelow bound) (spans_from gate id end batches)
spans_below hash history bound gate id end [] are gates log values = All-nil (IsBelow bound)
spans_below hash history bound gate id end (b ∷ bs) are gates log values =
    let B = IsBelow bound in
    let apart = records_apart hash history id b (joined bs) are in
    let end2 = end + length (records_octets id b) in
    let b1 : Span = record { file = 1; at = gate + 1; octets = batch_fields id (length b) end2 } in
    let s0 : Span = record { file = 0; at = end; octets = records_octets id b } in
    let refs : All (EndsIn bound) (refs_of b ++ refs_of (joined bs)) = subst (All (EndsIn bound)) (refs_more b (joined bs)) values in
    let sum : end2 + length (records_octets (id + length b) (joined bs)) ≤ bound 0 = omega (arith, log, ap length (octets_more id b (joined bs)), length-append (records_octets id b) (records_octets (id + length b) (joined bs))) in
    All-append B (batch_spans gate id end b) (spans_from (gate + 25) (id + length b) end2 bs)
    (All-cons B (octet_span 1 gate 1) (b1 ∷ s0 ∷ values_spans b) (record { below = omega (arith, gates) })
    (All-cons B b1 (s0 ∷ values_spans b) (record { below = omega (arith, gates, length-fields id (length b) end2) })
    (All-cons B s0 (values_spans b) (record { below = omega (arith, sum) })
    (values_below hash history bound id b apart.0 (all-left (EndsIn bound) (refs_of b) (refs_of (joined bs)) refs)))))
    (spans_below hash history bound (gate + 25) (id + length b) end2 bs apart.1 (omega (arith, gates)) sum (all-right (EndsIn bound) (refs_of b) (refs_of (joined bs)) refs))
