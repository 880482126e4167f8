-- What a session came to, as outcomes of its lines.
use Rattle.std.proofs.Common.{◌≡◌, inl, inr, ℕ, ◌+◌, ◌≤◌, ◌++◌, List, [], ◌∷◌, map, Option, Some, None, refl, ap, ap₂, sym, ◌∙◌, arith, append-nil}
use Rattle.std.specs.Prelude.{All, IfSome}
use Rattle.std.proofs.lemmas.List.{map-append}
use Rattle.std.proofs.lemmas.List.Sums.{sum_by-cons}
use Rattle.im_dealing.proofs.GrowLemmas.{may_before}
use Rattle.im_dealing.proofs.PhaseLemmas.{highest_most, late_less}
use Rattle.im_dealing.specs.Lines.{IsStuck, MayBecome}
use Rattle.im_dealing.specs.Runs.{HasRun, IsRun, Start, numbers_told}
use Rattle.im_dealing.specs.declared.errors.LineError.{LineError}
use Rattle.im_digest.specs.Digests.{Hash}
use Rattle.im_report.proofs.OutcomeLemmas.{lines_answered}
use Rattle.im_model.specs.Counts.{number_or_none, times}
use Rattle.im_report.specs.Outcomes.{IsLate, IsSession, Outcome, answered, halted, highest, line_in, not_run, number_told, numbers_in}
use Rattle.im_report.specs.Report.{Answered, floor_after}
use Rattle.im_script.specs.declared.commands.Line.{Line}
use Rattle.im_report.specs.Sessions.{times_in}
use Rattle.im_table.specs.Histories.{history_of}
use Rattle.im_table.specs.Known.{KnownPass}
use Rattle.im_model.proofs.CountLemmas.{times_append}
use Rattle.im_table.specs.declared.items.LogItem.{LogItem}

-- what became of the lines of a session, by how it ended
abbrev pub outcomes_of : List Answered → Option (Line × (Option ℕ × List Line)) → List Outcome
outcomes_of answers None = map answered answers
outcomes_of answers (Some s) = map answered answers ++ halted s.0 s.1.0 ∷ map not_run s.1.1

-- where it stopped
abbrev pub stop_in : (hash : Hash) (start : Start) (p : KnownPass) (lines : List Line) (answers : List Answered) (why : Option LineError) → HasRun hash start p lines answers why → Option (Line × (Option ℕ × List Line))
stop_in hash start p lines answers None ran = None
stop_in hash start p lines answers (Some why) (line, others, e, cut) = Some (line, (cut.stuck.late, others))

pub lines_unrun : (lines : List Line) → map line_in (map not_run lines) ≡ lines
lines_unrun [] = refl
lines_unrun (l ∷ lines) = ap (λ (ls : List Line). l ∷ ls) (lines_unrun lines)

-- the outcomes are of its lines
pub ended_lines : (hash : Hash) (start : Start) (p : KnownPass) (lines : List Line) (answers : List Answered) (why : Option LineError) (ran : HasRun hash start p lines answers why)
    → map line_in (outcomes_of answers (stop_in hash start p lines answers why ran)) ≡ lines
ended_lines hash start p lines answers None ran = lines_answered answers ∙ ran.0
ended_lines hash start p lines answers (Some why) (line, others, e, cut) =
    map-append line_in (map answered answers) (halted line cut.stuck.late ∷ map not_run others)
    ∙ (ap₂ (λ (xs ys : List Line). xs ++ line ∷ ys) (lines_answered answers) (lines_unrun others) ∙ sym e)

-- they are those of a session, of each list that the one list may become
late_is : (hash : Hash) (start : Start) (before p : KnownPass) (answers : List Answered) (line : Line) (why : LineError) → IsRun hash start before answers → (stuck : IsStuck before p line why)
    → (items : List LogItem) → MayBecome p items → IfSome stuck.late (IsLate (history_of items) (highest start.low answers) (floor_after start.floor answers) line.command)
late_is hash start before p answers line why run stuck items m = go stuck.late stuck.tx
  where
    go : (late : Option ℕ) → IfSome late (λ n. (is : List LogItem) → MayBecome p is → IsLate (history_of is) before.view.least.durable before.view.least.linked line.command n)
        → IfSome late (IsLate (history_of items) (highest start.low answers) (floor_after start.floor answers) line.command)
    go None t = tt
    go (Some n) t = late_less (history_of items) (highest start.low answers) (floor_after start.floor answers) before.view.least.durable before.view.least.linked line (Some n)
        (highest_most start.low before.view.least.durable answers run.from run.known) run.reached (t items m)

pub ended_session : (hash : Hash) (start : Start) (p : KnownPass) (lines : List Line) (answers : List Answered) (why : Option LineError) (ran : HasRun hash start p lines answers why)
    → (items : List LogItem) → MayBecome p items → IsSession hash start.low start.floor (history_of items) (outcomes_of answers (stop_in hash start p lines answers why ran))
ended_session hash start p lines answers None ran items m = record {
  answers = answers;
  rest = [];
  are = sym (append-nil (map answered answers));
  cut = inl refl;
  told = ran.1.session items m;
}
ended_session hash start p lines answers (Some why) (line, others, e, cut) items m = record {
  answers = answers;
  rest = halted line cut.stuck.late ∷ map not_run others;
  are = refl;
  cut = inr (line, cut.stuck.late, others, refl, late_is hash start cut.before p answers line why cut.run cut.stuck items m);
  told = cut.run.session items (may_before cut.before p items cut.later m);
}

-- its numbers are those of its outcomes
times_answered : (k : ℕ) (answers : List Answered) → times_in k (map answered answers) ≡ times k (numbers_told answers)
times_answered k [] = refl
times_answered k (a ∷ answers) =
    let here : times k (numbers_in (answered a)) ≡ times k (number_told (Some a)) = ap (times k) (append-nil (number_told (Some a))) in
    omega (arith, here, times_answered k answers, times_append k (number_told (Some a)) (numbers_told answers), sum_by-cons (λ (o : Outcome). times k (numbers_in o)) (answered a) (map answered answers))

pub times_unrun : (k : ℕ) (lines : List Line) → times_in k (map not_run lines) ≡ 0
times_unrun k [] = refl
times_unrun k (l ∷ lines) = omega (arith, times_unrun k lines, sum_by-cons (λ (o : Outcome). times k (numbers_in o)) (not_run l) (map not_run lines))

times_in_append : (k : ℕ) (xs ys : List Outcome) → times_in k (xs ++ ys) ≡ times_in k xs + times_in k ys
times_in_append k [] ys = omega arith
times_in_append k (x ∷ xs) ys =
    omega (arith, times_in_append k xs ys, sum_by-cons (λ (o : Outcome). times k (numbers_in o)) x xs, sum_by-cons (λ (o : Outcome). times k (numbers_in o)) x (xs ++ ys))

pub ended_own : (hash : Hash) (start : Start) (p : KnownPass) (lines : List Line) (answers : List Answered) (why : Option LineError) (ran : HasRun hash start p lines answers why) (k : ℕ)
    → times k p.view.own ≡ times_in k (outcomes_of answers (stop_in hash start p lines answers why ran))
ended_own hash start p lines answers None ran k = ap (times k) ran.1.own ∙ sym (times_answered k answers)
ended_own hash start p lines answers (Some why) (line, others, e, cut) k =
    let own : times k p.view.own ≡ times k (numbers_told answers) + times k (number_or_none cut.stuck.late) =
    ap (times k) (cut.stuck.own ∙ ap (λ (l : List ℕ). l ++ number_or_none cut.stuck.late) cut.run.own) ∙ times_append k (numbers_told answers) (number_or_none cut.stuck.late) in
    let tail = sum_by-cons (λ (o : Outcome). times k (numbers_in o)) (halted line cut.stuck.late) (map not_run others) in
    omega (arith, own, times_in_append k (map answered answers) (halted line cut.stuck.late ∷ map not_run others), times_answered k answers, tail, times_unrun k others)

-- what its pass knows at the end to be linked is at least the floor that it reached
pub ended_reached : (hash : Hash) (start : Start) (p : KnownPass) (lines : List Line) (answers : List Answered) (why : Option LineError) → HasRun hash start p lines answers why
    → floor_after start.floor answers ≤ p.view.least.linked
ended_reached hash start p lines answers None ran = ran.1.reached
ended_reached hash start p lines answers (Some why) (line, others, e, cut) = omega (arith, cut.run.reached, cut.later.linked)

-- and to be durable at least each number that it was told
pub ended_known : (hash : Hash) (start : Start) (p : KnownPass) (lines : List Line) (answers : List Answered) (why : Option LineError) → HasRun hash start p lines answers why
    → All (λ a. a.number ≤ p.view.least.durable) answers
ended_known hash start p lines answers None ran = ran.1.known
ended_known hash start p lines answers (Some why) (line, others, e, cut) = λ i d lt. omega (arith, cut.run.known i d lt, cut.later.durable)
