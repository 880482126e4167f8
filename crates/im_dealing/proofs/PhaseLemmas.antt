-- A phase more behind those that were played.
use Rattle.std.proofs.Common.{◌≡◌, inl, inr, ℕ, zero, suc, ◌≤◌, ◌++◌, List, [], ◌∷◌, max, Bool, true, false, Option, Some, None, if◌then◌else◌, slice_index_or, refl, arith}
use Rattle.std.specs.Prelude.{All, IfSome}
use Rattle.im_dealing.proofs.RunLemmas.{floor_more}
use Rattle.im_dealing.specs.Phases.{floor_behind, low_after}
use Rattle.im_digest.specs.Digests.{Hash}
use Rattle.im_model.specs.declared.transactions.Transaction.{Transaction}
use Rattle.im_report.proofs.SingleLemmas.{reads_more}
use Rattle.im_report.specs.Outcomes.{AreAnswers, IsCutOff, IsLate, IsOver, IsSession, Outcome, floors_told, highest, of_session}
use Rattle.im_report.specs.Report.{Answered, floor_after, floor_by, is_placed}
use Rattle.im_report.specs.Sessions.{ArePhases, IsPhase, next_floor, next_low}
use Rattle.im_script.specs.declared.commands.Line.{Line}

all_cons : {X : Type 0} (P : X → Type 0) (x : X) (xs : List X) → P x → All P xs → All P (x ∷ xs)
all_cons P x xs p h zero d lt = p
all_cons P x xs p h (suc i) d lt = h i d (omega arith)

pub after_more : (f g : ℕ) (answers : List Answered) → f ≤ g → floor_after f answers ≤ floor_after g answers
after_more f g [] le = le
after_more f g (a ∷ answers) le = after_more (floor_by a.line.command a.number f) (floor_by a.line.command a.number g) answers (floor_more a.line.command a.number f g le)

floors_at : (h : List Transaction) (b : Bool) (n f g : ℕ) (low high : List (ℕ × ℕ)) → f ≤ g → (All (IsOver h) high → All (IsOver h) low)
    → All (IsOver h) ((if b then (n, g) ∷ [] else []) ++ high) → All (IsOver h) ((if b then (n, f) ∷ [] else []) ++ low)
floors_at h true n f g low high le rest all = all_cons (IsOver h) (n, f) low (omega (arith, all 0 (n, g) (omega arith), le)) (rest (λ i d lt. all (suc i) d (omega arith)))
floors_at h false n f g low high le rest all = rest all

floors_less : (h : List Transaction) (f g : ℕ) (answers : List Answered) → f ≤ g → All (IsOver h) (floors_told g answers) → All (IsOver h) (floors_told f answers)
floors_less h f g [] le all = λ i d lt. absurd (omega arith)
floors_less h f g (a ∷ answers) le all =
    let f1 = floor_by a.line.command a.number f in
    let g1 = floor_by a.line.command a.number g in
    floors_at h (is_placed a) a.number f g (floors_told f1 answers) (floors_told g1 answers) le
    (floors_less h f1 g1 answers (floor_more a.line.command a.number f g le)) all

pub highest_more : (l m : ℕ) (answers : List Answered) → l ≤ m → highest l answers ≤ highest m answers
highest_more l m [] le = le
highest_more l m (a ∷ answers) le = highest_more (max l a.number) (max m a.number) answers (omega (arith, le))

-- a session that began later began at each earlier moment too
answers_less : (hash : Hash) (l f m g : ℕ) (h : List Transaction) (answers : List Answered) → l ≤ m → f ≤ g → AreAnswers hash m g h answers → AreAnswers hash l f h answers
answers_less hash l f m g h answers le up s = record {
  each = s.each;
  least = λ i d lt. (let r = s.least i d lt in omega (arith, r.0, le), λ e. omega (arith, (s.least i d lt).1 e, le));
  rising = s.rising;
  least_read = λ i d lt. reads_more l m le (slice_index_or answers i d) (s.least_read i d lt);
  reading = s.reading;
  floors = floors_less h f g answers up s.floors;
}

pub late_less : (h : List Transaction) (l f m g : ℕ) (line : Line) (late : Option ℕ) → l ≤ m → f ≤ g → IfSome late (IsLate h m g line.command) → IfSome late (IsLate h l f line.command)
late_less h l f m g line None le up s = s
late_less h l f m g line (Some n) le up s = record {
  read = s.read;
  asked = s.asked;
  asks = s.asks;
  least = omega (arith, s.least, le);
  behind = s.behind;
  within = s.within;
  admitted = s.admitted;
  writes = s.writes;
  over = omega (arith, s.over, up);
}

cut_less : (h : List Transaction) (l f m g : ℕ) (answers : List Answered) (rest : List Outcome) → l ≤ m → f ≤ g → IsCutOff h m g answers rest → IsCutOff h l f answers rest
cut_less h l f m g answers rest le up (inl e) = inl e
cut_less h l f m g answers rest le up (inr (line, late, others, e, tx)) =
    inr (line, late, others, e, late_less h (highest l answers) (floor_after f answers) (highest m answers) (floor_after g answers) line late (highest_more l m answers le) (after_more f g answers up) tx)

pub session_less : (hash : Hash) (l f m g : ℕ) (h : List Transaction) (outcomes : List Outcome) → l ≤ m → f ≤ g → IsSession hash m g h outcomes → IsSession hash l f h outcomes
session_less hash l f m g h outcomes le up s = record {
  answers = s.answers;
  rest = s.rest;
  are = s.are;
  cut = cut_less h l f m g s.answers s.rest le up s.cut;
  told = answers_less hash l f m g h s.answers le up s.told;
}

pub phase_less : (hash : Hash) (l f m g : ℕ) (h : List Transaction) (outcomes : List Outcome) → l ≤ m → f ≤ g → IsPhase hash m g h outcomes → IsPhase hash l f h outcomes
phase_less hash l f m g h outcomes le up p = λ name. session_less hash l f m g h (of_session name outcomes) le up (p name)

pub highest_most : (low n : ℕ) (answers : List Answered) → low ≤ n → All (λ a. a.number ≤ n) answers → highest low answers ≤ n
highest_most low n [] le all = le
highest_most low n (a ∷ answers) le all = highest_most (max low a.number) n answers (omega (arith, le, all 0 a (omega arith))) (λ i d lt. all (suc i) d (omega arith))

pub low_push : (low : ℕ) (phases : List (List Outcome)) (outcomes : List Outcome) → low_after low (phases ++ outcomes ∷ []) ≡ next_low (low_after low phases) outcomes
low_push low [] outcomes = refl
low_push low (p ∷ phases) outcomes = low_push (next_low low p) phases outcomes

pub floor_push : (floor : ℕ) (phases : List (List Outcome)) (outcomes : List Outcome) → floor_behind floor (phases ++ outcomes ∷ []) ≡ next_floor (floor_behind floor phases) outcomes
floor_push floor [] outcomes = refl
floor_push floor (p ∷ phases) outcomes = floor_push (next_floor floor p) phases outcomes

pub phases_push : (hash : Hash) (low floor : ℕ) (h : List Transaction) (phases : List (List Outcome)) (outcomes : List Outcome) → ArePhases hash low floor h phases
    → IsPhase hash (low_after low phases) (floor_behind floor phases) h outcomes → ArePhases hash low floor h (phases ++ outcomes ∷ [])
phases_push hash low floor h [] outcomes before now = (now, tt)
phases_push hash low floor h (p ∷ phases) outcomes before now = (before.0, phases_push hash (next_low low p) (next_floor floor p) h phases outcomes before.1 now)
