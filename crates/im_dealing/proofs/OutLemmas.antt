-- What one session leaves of a phase, as outcomes of its lines; and what all of them do.
use Rattle.std.proofs.Common.{◌≡◌, ℕ, zero, suc, ◌≤◌, ◌++◌, List, [], ◌∷◌, length, map, Option, Some, None, refl, ap, ap₂, sym, ◌∙◌, subst, arith, append-nil}
use Rattle.std.specs.Prelude.{All, take}
use Rattle.std.specs.List.{sum_by}
use Rattle.std.proofs.lemmas.List.Sums.{sum_by-cons}
use Rattle.im_dealing.proofs.AloneLemmas.{ended_alone, ended_idle, not_answered}
use Rattle.im_dealing.proofs.EachLemmas.{StopFits, texts_of}
use Rattle.im_dealing.proofs.EndLemmas.{ended_known, ended_lines, ended_own, ended_reached, ended_session, outcomes_of, stop_in}
use Rattle.im_dealing.proofs.FailLemmas.{StopsHere, stops_here}
use Rattle.im_dealing.proofs.GrowLemmas.{may_before}
use Rattle.im_dealing.specs.Gathered.{own_of}
use Rattle.im_dealing.specs.Lines.{MayBecome}
use Rattle.im_dealing.specs.Phases.{AreDone, RunsAlone}
use Rattle.im_dealing.specs.Runs.{HasRun, IsDone, Start, start_of}
use Rattle.im_dealing.specs.declared.errors.LineError.{LineError}
use Rattle.im_dealing.specs.declared.errors.LineError.TheVariants.{DiskFault, Memory}
use Rattle.im_dealing.specs.declared.sessions.Session.{Session}
use Rattle.im_report.specs.Messages.{IsReadBack}
use Rattle.im_digest.specs.Digests.{Hash}
use Rattle.im_report.proofs.OutcomeLemmas.{first_answered, replies_answered, replies_unrun}
use Rattle.im_report.specs.Outcomes.{IsSession, Outcome, answered, halted, line_in, not_run, reply_in}
use Rattle.im_report.specs.Report.{Answered, answer_line, floor_after}
use Rattle.im_report.specs.Sessions.{AreAnswered, first_replies, replies_in, times_in}
use Rattle.im_script.specs.declared.commands.Line.{Line}
use Rattle.im_table.specs.Histories.{history_of}
use Rattle.im_table.specs.Known.{KnownPass, TableId}
use Rattle.im_table.specs.Passes.{IsPassOf}
use Rattle.im_model.specs.Counts.{times}
use Rattle.im_table.specs.declared.items.LogItem.{LogItem}

-- the replies of a session's outcomes, and those before the first line without one, are its answers
pub first_of_outcomes : (answers : List Answered) (stop : Option (Line × (Option ℕ × List Line))) → first_replies (outcomes_of answers stop) ≡ answers
first_of_outcomes answers None = ap first_replies (sym (append-nil (map answered answers))) ∙ (first_answered answers [] ∙ append-nil answers)
first_of_outcomes answers (Some s) = first_answered answers (halted s.0 s.1.0 ∷ map not_run s.1.1) ∙ append-nil answers

pub replies_of_outcomes : (answers : List Answered) (stop : Option (Line × (Option ℕ × List Line))) → replies_in (outcomes_of answers stop) ≡ answers
replies_of_outcomes answers None = ap replies_in (sym (append-nil (map answered answers))) ∙ (replies_answered answers [] ∙ append-nil answers)
replies_of_outcomes answers (Some s) =
    replies_answered answers (halted s.0 s.1.0 ∷ map not_run s.1.1) ∙ (ap (λ (l : List Answered). answers ++ l) (replies_unrun s.1.1) ∙ append-nil answers)

-- what holds of each answer holds of the reply of each outcome
each_unrun : (P : Answered → Type 0) (lines : List Line) → All (λ o. All P (reply_in o)) (map not_run lines)
each_unrun P [] = λ i d lt. absurd (omega arith)
each_unrun P (l ∷ lines) = cons (each_unrun P lines)
  where
    cons : All (λ o. All P (reply_in o)) (map not_run lines) → All (λ o. All P (reply_in o)) (not_run l ∷ map not_run lines)
    cons rest zero d lt = λ j e less. absurd (omega arith)
    cons rest (suc i) d lt = rest i d (omega (arith, lt))

each_behind : (P : Answered → Type 0) (answers : List Answered) (rest : List Outcome) → All P answers → All (λ o. All P (reply_in o)) rest → All (λ o. All P (reply_in o)) (map answered answers ++ rest)
each_behind P [] rest all more = more
each_behind P (a ∷ answers) rest all more = cons (each_behind P answers rest (λ i d lt. all (suc i) d (omega (arith, lt))) more)
  where
    one : All P (a ∷ [])
    one zero d lt = all 0 a (omega arith)
    one (suc i) d lt = absurd (omega (arith, lt))

    cons : All (λ o. All P (reply_in o)) (map answered answers ++ rest) → All (λ o. All P (reply_in o)) (answered a ∷ map answered answers ++ rest)
    cons later zero d lt = one
    cons later (suc i) d lt = later i d (omega (arith, lt))

halted_none : (P : Answered → Type 0) (line : Line) (late : Option ℕ) (others : List Line) → All (λ o. All P (reply_in o)) (halted line late ∷ map not_run others)
halted_none P line late others zero d lt = λ j e less. absurd (omega arith)
halted_none P line late others (suc i) d lt = each_unrun P others i d (omega (arith, lt))

pub each_of_outcomes : (P : Answered → Type 0) (answers : List Answered) (stop : Option (Line × (Option ℕ × List Line))) → All P answers → All (λ o. All P (reply_in o)) (outcomes_of answers stop)
each_of_outcomes P answers None all = subst (All (λ o. All P (reply_in o))) (append-nil (map answered answers)) (each_behind P answers [] all (λ i d lt. absurd (omega arith)))
each_of_outcomes P answers (Some s) all = each_behind P answers (halted s.0 s.1.0 ∷ map not_run s.1.1) all (halted_none P s.0 s.1.0 s.1.1)

-- there is a why where a line of it has no reply
fits_answered : (why : Option LineError) (answers : List Answered) (rest : List Outcome) → StopFits why rest → StopFits why (map answered answers ++ rest)
fits_answered why [] rest f = f
fits_answered why (a ∷ answers) rest f = fits_answered why answers rest f

pub fits_outcomes : (hash : Hash) (start : Start) (p : KnownPass) (lines : List Line) (answers : List Answered) (why : Option LineError) (ran : HasRun hash start p lines answers why)
    → StopFits why (outcomes_of answers (stop_in hash start p lines answers why ran))
fits_outcomes hash start p lines answers None ran = subst (StopFits None) (append-nil (map answered answers)) (fits_answered None answers [] tt)
fits_outcomes hash start p lines answers (Some why) (line, others, e, cut) =
    fits_answered (Some why) answers (halted line cut.stuck.late ∷ map not_run others) (why, refl)

-- What a session's pass told of faults, by why its next line got no reply: nothing, or it knows of one; and then some line has no reply.
abbrev pub ToldBy : Option LineError → KnownPass → List Outcome → Type 0
ToldBy None p out = p.view.faults ≡ 0
ToldBy (Some DiskFault) p out = (1 ≤ p.view.least.failed) × (AreAnswered out → ⊥)
ToldBy (Some Memory) p out = (p.view.faults ≡ 0) × (AreAnswered out → ⊥)

ended_told : (hash : Hash) (start : Start) (p : KnownPass) (lines : List Line) (answers : List Answered) (why : Option LineError) (ran : HasRun hash start p lines answers why)
    → ToldBy why p (outcomes_of answers (stop_in hash start p lines answers why ran))
ended_told hash start p lines answers None ran = ran.1.calm
ended_told hash start p lines answers (Some DiskFault) (line, others, e, cut) = (cut.stuck.fault, not_answered answers line cut.stuck.late others)
ended_told hash start p lines answers (Some Memory) (line, others, e, cut) = (cut.stuck.fault ∙ cut.run.calm, not_answered answers line cut.stuck.late others)

-- What a session left, of which these are the outcomes, begun at these numbers.
pub record IsOut (hash : Hash) (table : TableId) (low floor : ℕ) (s : Session) (out : List Outcome) : Type 0 where
  pub pass : IsPassOf table s.pass
  pub weight : s.pass.view.weight ≡ 1
  pub session : (items : List LogItem) → MayBecome s.pass items → IsSession hash low floor (history_of items) out
  pub again : (items : List LogItem) → MayBecome s.pass items → All (λ o. All (λ a. IsReadBack hash (take a.number (history_of items)) a.line.command a.reply) (reply_in o)) out
  pub own : (k : ℕ) → times k s.pass.view.own ≡ times_in k out
  pub texts : s.texts.items ≡ texts_of out
  pub fits : StopFits s.why out
  pub told : ToldBy s.why s.pass out
  pub failed : s.why ≡ Some DiskFault → (items : List LogItem) → MayBecome s.pass items → StopsHere (history_of items) low out
  pub known : All (λ o. All (λ a. a.number ≤ s.pass.view.least.durable) (reply_in o)) out
  pub reached : floor_after floor (replies_in out) ≤ s.pass.view.least.linked
  pub alone : RunsAlone low floor s.pass.view.leaves s.pass out
  pub idle : out ≡ [] → s.pass.view.leaves ≡ 0

read_back : (hash : Hash) (start : Start) (p : KnownPass) (lines : List Line) (answers : List Answered) (why : Option LineError) → HasRun hash start p lines answers why
    → (items : List LogItem) → MayBecome p items → All (λ a. IsReadBack hash (take a.number (history_of items)) a.line.command a.reply) answers
read_back hash start p lines answers None ran items m = ran.1.again items m
read_back hash start p lines answers (Some why) (line, others, e, cut) items m = cut.run.again items (may_before cut.before p items cut.later m)

-- the outcomes of a session that has ended
abbrev pub out_of : (hash : Hash) (table : TableId) (before after : Session) → IsDone hash table before after → List Outcome
out_of hash table before after done = outcomes_of done.answers (stop_in hash (start_of before) after.pass before.lines.items done.answers after.why done.ran)

pub out_is : (hash : Hash) (table : TableId) (low floor : ℕ) (before after : Session) (done : IsDone hash table before after) → start_of before ≡ record { low = low; floor = floor }
    → IsOut hash table low floor after (out_of hash table before after done)
out_is hash table low floor before after done e =
    let st = start_of before in
    let stop = stop_in hash st after.pass before.lines.items done.answers after.why done.ran in
    let read : (items : List LogItem) → MayBecome after.pass items → IsSession hash st.low st.floor (history_of items) (outcomes_of done.answers stop) = ended_session hash st after.pass before.lines.items done.answers after.why done.ran in
    record {
      pass = done.pass;
      weight = done.weight;
      session = λ items m. subst (λ (t : Start). IsSession hash t.low t.floor (history_of items) (outcomes_of done.answers stop)) e (read items m);
      again = λ items m. each_of_outcomes (λ a. IsReadBack hash (take a.number (history_of items)) a.line.command a.reply) done.answers stop (read_back hash st after.pass before.lines.items done.answers after.why done.ran items m);
      own = ended_own hash st after.pass before.lines.items done.answers after.why done.ran;
      texts = done.texts ∙ ap (map answer_line) (sym (first_of_outcomes done.answers stop));
      fits = fits_outcomes hash st after.pass before.lines.items done.answers after.why done.ran;
      told = ended_told hash st after.pass before.lines.items done.answers after.why done.ran;
      failed = λ is items m.
          let stopped : StopsHere (history_of items) st.low (outcomes_of done.answers stop) =
          stops_here hash st after.pass before.lines.items done.answers after.why done.ran (first_of_outcomes done.answers stop) (replies_of_outcomes done.answers stop) is items m in
          subst (λ (t : Start). StopsHere (history_of items) t.low (outcomes_of done.answers stop)) e stopped;
      known = each_of_outcomes (λ a. a.number ≤ after.pass.view.least.durable) done.answers stop (ended_known hash st after.pass before.lines.items done.answers after.why done.ran);
      reached =
          let r : floor_after st.floor done.answers ≤ after.pass.view.least.linked = ended_reached hash st after.pass before.lines.items done.answers after.why done.ran in
          subst (λ (t : Start). floor_after t.floor (replies_in (outcomes_of done.answers stop)) ≤ after.pass.view.least.linked) e
          (subst (λ (l : List Answered). floor_after st.floor l ≤ after.pass.view.least.linked) (sym (replies_of_outcomes done.answers stop)) r);
      alone = subst (λ (t : Start). RunsAlone t.low t.floor after.pass.view.leaves after.pass (outcomes_of done.answers stop)) e (ended_alone hash st after.pass before.lines.items done.answers after.why done.ran);
      idle = ended_idle hash st after.pass before.lines.items done.answers after.why done.ran;
    }

-- what all sessions left, one by one
abbrev pub AreOuts : Hash → TableId → ℕ → ℕ → List Session → List (List Outcome) → Type 0
AreOuts hash table low floor [] [] = Unit {0}
AreOuts hash table low floor [] (out ∷ outs) = ⊥
AreOuts hash table low floor (s ∷ sessions) [] = ⊥
AreOuts hash table low floor (s ∷ sessions) (out ∷ outs) = IsOut hash table low floor s out × AreOuts hash table low floor sessions outs

pub record HaveOuts (hash : Hash) (table : TableId) (low floor : ℕ) (before after : List Session) : Type 0 where
  pub outs : List (List Outcome)
  pub are : AreOuts hash table low floor after outs
  pub lines_are : map (map line_in) outs ≡ map (λ (s : Session). s.lines.items) before

pub have_outs : (hash : Hash) (table : TableId) (low floor : ℕ) (before after : List Session) → AreDone hash table before after → All (λ s. start_of s ≡ record { low = low; floor = floor }) before
    → HaveOuts hash table low floor before after
have_outs hash table low floor [] [] done starts = record { outs = []; are = tt; lines_are = refl }
have_outs hash table low floor [] (a ∷ after) done starts = absurd (let e : suc (length after) ≡ 0 = done.many in omega (arith, e))
have_outs hash table low floor (b ∷ before) [] done starts = absurd (let e : 0 ≡ suc (length before) = done.many in omega (arith, e))
have_outs hash table low floor (b ∷ before) (a ∷ after) done starts =
    let one : IsDone hash table b a = done.each 0 b (omega arith) in
    let more = have_outs hash table low floor before after
    (record { many = omega (arith, done.many); each = λ i d lt. done.each (suc i) d (omega (arith, lt)) })
    (λ i d lt. starts (suc i) d (omega (arith, lt))) in
    record {
      outs = out_of hash table b a one ∷ more.outs;
      are = (out_is hash table low floor b a one (starts 0 b (omega arith)), more.are);
      lines_are = ap₂ (λ (x : List Line) (xs : List (List Line)). x ∷ xs) (ended_lines hash (start_of b) a.pass b.lines.items one.answers a.why one.ran) more.lines_are;
    }

-- what holds of each session and its outcomes
pub outs_all : (hash : Hash) (table : TableId) (low floor : ℕ) (P : Session → Type 0) (Q : List Outcome → Type 0) (sessions : List Session) (outs : List (List Outcome)) → AreOuts hash table low floor sessions outs → All P sessions
    → ((s : Session) (out : List Outcome) → P s → IsOut hash table low floor s out → Q out) → All Q outs
outs_all hash table low floor P Q [] [] are all step = λ i d lt. absurd (omega arith)
outs_all hash table low floor P Q [] (out ∷ outs) are all step = absurd are
outs_all hash table low floor P Q (s ∷ sessions) [] are all step = absurd are
outs_all hash table low floor P Q (s ∷ sessions) (out ∷ outs) are all step = cons (outs_all hash table low floor P Q sessions outs are.1 (λ i d lt. all (suc i) d (omega (arith, lt))) step)
  where
    cons : All Q outs → All Q (out ∷ outs)
    cons rest zero d lt = step s out (all 0 s (omega arith)) are.0
    cons rest (suc i) d lt = rest i d (omega (arith, lt))

-- their own numbers
pub outs_own : (hash : Hash) (table : TableId) (low floor : ℕ) (k : ℕ) (sessions : List Session) (outs : List (List Outcome)) → AreOuts hash table low floor sessions outs
    → sum_by (own_of k) sessions ≡ sum_by (times_in k) outs
outs_own hash table low floor k [] [] are = refl
outs_own hash table low floor k [] (out ∷ outs) are = absurd are
outs_own hash table low floor k (s ∷ sessions) [] are = absurd are
outs_own hash table low floor k (s ∷ sessions) (out ∷ outs) are =
    omega (arith, are.0.own k, outs_own hash table low floor k sessions outs are.1, sum_by-cons (own_of k) s sessions, sum_by-cons (times_in k) out outs)
