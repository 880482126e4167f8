-- What each device call of a batch leaves.
use Rattle.std.proofs.Common.{◌≡◌, ℕ, ◌+◌, ◌≤◌, ◌<◌, List, [], ◌∷◌, ◌++◌, length, get_or, take, drop, sym, ◌∙◌, ap, subst, arith, inl, inr, append_assoc, length-take, length-drop}
use Rattle.std.proofs.lemmas.List.{drop_more, take_more}
use Rattle.std.proofs.lemmas.List.Elements.{All-weaker, All-nil, All-cons, All-head, All-tail, All-append}
use Rattle.std.specs.Prelude.{All, Option, IfSome}
use Rattle.im_disk.specs.Disk.{Files, Told, Images, LiesWithin, TornFile, seen, after}
use Rattle.im_disk.specs.declared.calls.Call.TheVariants.{Wrote, Synced}
use Rattle.im_disk.proofs.Leaving.{if_told}
use Rattle.im_disk.proofs.Tearing.{decide_same, written_torn}
use Rattle.im_format.specs.Spans.{Reads, Misses, octet_span}
use Rattle.im_format.specs.declared.spans.Span.{Span}
use Rattle.im_alog.proofs.Torn.{keeps_all, same_all, same_reads, written_reads}
use Rattle.im_journal.specs.Phases.{IsClosed, IsSafe, IsClear, AreClear, IsStaging, IsSealed, IsEither, IsGated, IsDone}
use Rattle.im_journal.proofs.Torn.{keeps_long, keeps_safe, same_long, same_safe}
use Rattle.im_octet.proofs.Common.{all-left}

clear_front : (spans done : List Span) (gate : ℕ) (p : Span) → IsClear (spans ++ done) gate p → IsClear spans gate p
clear_front spans done gate p c = record { misses = all-left (Misses p.file p.at (length p.octets)) spans done c.misses; behind = c.behind }

pub safe_front : (ends : ℕ → ℕ) (spans more : List Span) (gate : ℕ) (image : Files) → IsSafe ends (spans ++ more) gate image → IsSafe ends spans gate image
safe_front ends spans more gate image s = record { reads = all-left (Reads image) spans more s.reads; long = s.long; closed = s.closed }

module _ (ends : ℕ → ℕ) (spans : List Span) (gate : ℕ) (done : List Span) (p : Span) (left : List Span) (t : Told) (s : IsStaging ends spans gate done (p ∷ left) t) where
  pub torn_safe : (old image : Files) → Images t old → TornFile p.file p.at (length p.octets) old image → IsSafe ends spans gate image
  torn_safe old image is torn = keeps_safe ends spans gate p old image torn (clear_front spans done gate p s.clear.0) (s.safe old is)

  place : p.at ≤ length (seen t p.file)
  place = All-head (λ q. q.at ≤ length (seen t q.file)) p left s.within

  torn : TornFile p.file p.at (length p.octets) (seen t) (seen (after (Wrote p.file p.at p.octets) t))
  torn = written_torn (seen t) p.file p.at p.octets place

  grouped : (spans ++ done) ++ p ∷ [] ≡ spans ++ (done ++ p ∷ [])
  grouped = append_assoc spans done (p ∷ [])

  longer : (q : Span) → q.at ≤ length (seen t q.file) → q.at ≤ length (seen (after (Wrote p.file p.at p.octets) t) q.file)
  longer q le = decide_same q.file p.file
      (λ same. subst (λ (k : ℕ). q.at ≤ length (seen (after (Wrote p.file p.at p.octets) t) k)) (sym same) (omega (arith, subst (λ (k : ℕ). q.at ≤ length (seen t k)) same le, torn.torn.no_shorter)))
      (λ other. subst (λ (l : List ℕ). q.at ≤ length l) (sym (torn.others q.file other)) le)

  gate_misses : Misses 1 gate 1 p
  gate_misses = record { apart = λ same. inr (s.clear.0.behind same) }

  pub wrote : IsStaging ends spans gate (done ++ p ∷ []) left (after (Wrote p.file p.at p.octets) t)
  wrote =
      let now = seen (after (Wrote p.file p.at p.octets) t) in
      let both = keeps_safe ends (spans ++ done) gate p (seen t) now torn s.clear.0 s.here in
      record {
        safe = λ image from. torn_safe from.0 image from.1 from.2;
        here = record {
          reads = subst (All (Reads now)) grouped
              (All-append (Reads now) (spans ++ done) (p ∷ []) both.reads
              (All-cons (Reads now) p [] (written_reads (seen t) p.file p.at p.octets place) (All-nil (Reads now))));
          long = both.long;
          closed = both.closed;
        };
        outside = subst (All (Misses 1 gate 1)) grouped (All-append (Misses 1 gate 1) (spans ++ done) (p ∷ []) s.outside (All-cons (Misses 1 gate 1) p [] gate_misses (All-nil (Misses 1 gate 1))));
        clear = subst (λ (l : List Span). AreClear l gate left) grouped s.clear.1;
        within = All-weaker (λ q. q.at ≤ length (seen t q.file)) (λ q. q.at ≤ length (now q.file)) longer left (All-tail (λ q. q.at ≤ length (seen t q.file)) p left s.within);
      }

pub sealed : (ends : ℕ → ℕ) (spans : List Span) (gate : ℕ) (done : List Span) (t : Told) → IsStaging ends spans gate done [] t → IsSealed ends spans gate done (after Synced t)
sealed ends spans gate done t s = record {
  safe = λ image same. same_safe ends (spans ++ done) gate (seen t) image same s.here;
  here = s.here;
  outside = s.outside;
}

pub done_now : (ends : ℕ → ℕ) (spans : List Span) (gate : ℕ) (pieces : List Span) (t : Told) → IsGated ends spans gate pieces t → IsDone ends spans gate pieces (after Synced t)
done_now ends spans gate pieces t g = record {
  opened = λ image same. record {
    reads = same_all (seen t) image same (spans ++ pieces) g.here.reads;
    long = same_long ends (seen t) image same g.here.long;
    opened = same_reads (seen t) image same (octet_span 1 gate 1) g.here.opened;
  };
  here = g.here;
}

-- some octet stands at a closed gate
pub closed_long : (image : Files) (gate : ℕ) → IsClosed image gate → gate + 1 ≤ length (image 1)
closed_long image gate c = omega (arith, ap length c.reads.reads, length-take 1 (drop gate (image 1)), length-drop gate (image 1))

module _ (ends : ℕ → ℕ) (spans : List Span) (gate : ℕ) (pieces : List Span) (t : Told) (s : IsSealed ends spans gate pieces t) where
  pub torn_gate : (old image : Files) → Images t old → TornFile 1 gate 1 old image → IsEither ends spans gate pieces image
  torn_gate old image is t1 =
      let safe = s.safe old is in
      let reads = keeps_all 1 gate 1 old image (spans ++ pieces) t1 s.outside safe.reads in
      let long = keeps_long 1 gate 1 ends old image t1 safe.long in
      let there : gate + 1 ≤ length (image 1) = omega (arith, closed_long old gate safe.closed, t1.torn.no_shorter) in
      let found : Reads image (octet_span 1 gate (get_or (image 1) gate 0)) = record { reads = ap (λ (l : List ℕ). take 1 l) (drop_more (image 1) gate 0 (omega (arith, there))) } in
      decide_same (get_or (image 1) gate 0) 1
      (λ open_now. inr (record { reads = reads; long = long; opened = subst (λ (x : ℕ). Reads image (octet_span 1 gate x)) open_now found }))
      (λ shut. inl (record { reads = all-left (Reads image) spans pieces reads; long = long; closed = record { octet = get_or (image 1) gate 0; shut = shut; reads = found } }))

  gate_place : gate ≤ length (seen t 1)
  gate_place = omega (arith, closed_long (seen t) gate s.here.closed)

  gate_torn : TornFile 1 gate 1 (seen t) (seen (after (Wrote 1 gate (1 ∷ [])) t))
  gate_torn = written_torn (seen t) 1 gate (1 ∷ []) gate_place

  pub gated : IsGated ends spans gate pieces (after (Wrote 1 gate (1 ∷ [])) t)
  gated = record {
    either = λ image from. torn_gate from.0 image from.1 from.2;
    here = record {
      reads = keeps_all 1 gate 1 (seen t) (seen (after (Wrote 1 gate (1 ∷ [])) t)) (spans ++ pieces) gate_torn s.outside s.here.reads;
      long = keeps_long 1 gate 1 ends (seen t) (seen (after (Wrote 1 gate (1 ∷ [])) t)) gate_torn s.here.long;
      opened = written_reads (seen t) 1 gate (1 ∷ []) gate_place;
    };
  }

pub next_left : (ps : List Span) (k : ℕ) (p : Span) → k < length ps → p ≡ get_or ps k p → drop k ps ≡ p ∷ drop (k + 1) ps
next_left ps k p lt is = drop_more ps k p lt ∙ ap (λ (q : Span). q ∷ drop (k + 1) ps) (sym is)

pub next_taken : (ps : List Span) (k : ℕ) (p : Span) → k < length ps → p ≡ get_or ps k p → take k ps ++ p ∷ [] ≡ take (k + 1) ps
next_taken ps k p lt is = ap (λ (q : Span). take k ps ++ q ∷ []) is ∙ sym (take_more ps k p lt)

pub next_within : (o : Option Told) (ends : ℕ → ℕ) (spans : List Span) (gate : ℕ) (ps : List Span) (k : ℕ) (p : Span) → k < length ps → p ≡ get_or ps k p
    → IfSome o (IsStaging ends spans gate (take k ps) (drop k ps)) → LiesWithin o p.file p.at 0
next_within o ends spans gate ps k p lt is h =
    if_told (IsStaging ends spans gate (take k ps) (p ∷ drop (k + 1) ps)) (λ t. p.at + 0 ≤ length (seen t p.file))
    (λ t s. omega (arith, All-head (λ q. q.at ≤ length (seen t q.file)) p (drop (k + 1) ps) s.within)) o
    (subst (λ (l : List Span). IfSome o (IsStaging ends spans gate (take k ps) l)) (next_left ps k p lt is) h)
