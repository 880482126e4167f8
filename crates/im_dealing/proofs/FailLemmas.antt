-- The first line of a phase without a reply is the first of its session without one.
use Rattle.std.proofs.Common.{◌≡◌, ℕ, ◌≤◌, ◌++◌, List, [], ◌∷◌, length, map, drop, Bool, true, false, if◌then◌else◌, Option, Some, None, refl, ap, sym, ◌∙◌, subst, arith, slice_get}
use Rattle.std.specs.Prelude.{IfNone}
use Rattle.std.specs.Str.{bytes_eq}
use Rattle.im_dealing.proofs.EndLemmas.{outcomes_of, stop_in}
use Rattle.im_dealing.proofs.PhaseLemmas.{highest_more, highest_most}
use Rattle.im_dealing.specs.Lines.{MayBecome, WasRefused}
use Rattle.im_dealing.specs.Phases.{FailsAt, low_after}
use Rattle.im_dealing.specs.Runs.{HasRun, Start}
use Rattle.im_dealing.specs.Scripts.{FailsIn}
use Rattle.im_dealing.specs.declared.errors.LineError.{LineError}
use Rattle.im_dealing.specs.declared.errors.LineError.TheVariants.{DiskFault}
use Rattle.im_digest.specs.Digests.{Hash}
use Rattle.im_model.specs.declared.transactions.Transaction.{Transaction}
use Rattle.im_octet.proofs.Common.{bytes-same, some-is}
use Rattle.im_report.specs.Outcomes.{Outcome, answered, halted, highest, line_in, not_run, of_session}
use Rattle.im_report.specs.Report.{Answered}
use Rattle.im_report.specs.Sessions.{before_others, first_replies, next_low, replies_in}
use Rattle.im_script.specs.declared.commands.Command.{Command}
use Rattle.im_script.specs.declared.commands.Line.{Line}
use Rattle.im_table.specs.Histories.{history_of}
use Rattle.im_table.specs.Known.{KnownPass}
use Rattle.im_table.specs.declared.items.LogItem.{LogItem}

-- ---- at lower numbers

refused_less : (h : List Transaction) (l m : ℕ) (command : Command) → l ≤ m → WasRefused h m command → WasRefused h l command
refused_less h l m command le r = record {
  read = r.read;
  asked = r.asked;
  asks = r.asks;
  least = omega (arith, r.least, le);
  at = r.at;
  behind = r.behind;
  within = r.within;
  why = r.why;
  refused = r.refused;
}

refused_if : (h : List Transaction) (l m : ℕ) (command : Command) (late : Option ℕ) → l ≤ m → IfNone late (WasRefused h m command) → IfNone late (WasRefused h l command)
refused_if h l m command None le r = refused_less h l m command le r
refused_if h l m command (Some n) le r = tt

pub fails_less : (h : List Transaction) (l m : ℕ) (outcomes : List Outcome) → l ≤ m → FailsAt h m outcomes → FailsAt h l outcomes
fails_less h l m outcomes le f =
    let told : List Answered = replies_in (of_session f.first.line.session outcomes) in
    record { first = f.first; there = f.there; refused = refused_if h (highest l told) (highest m told) f.first.line.command f.first.late (highest_more l m told le) f.refused }

-- behind the phases before
pub fails_push : (h : List Transaction) (low : ℕ) (phases : List (List Outcome)) (outcomes : List Outcome) → FailsAt h (low_after low phases) outcomes → FailsIn h low (phases ++ outcomes ∷ [])
fails_push h low [] outcomes f = f
fails_push h low (p ∷ []) outcomes f = f
fails_push h low (p ∷ q ∷ phases) outcomes f = fails_push h (next_low low p) (q ∷ phases) outcomes f

-- ---- of one session

-- the disk failed at the first line of these outcomes, which are a session's, without a reply
pub record StopsHere (h : List Transaction) (low : ℕ) (out : List Outcome) : Type 0 where
  pub first : Outcome
  pub there : slice_get out (length (first_replies out)) ≡ Some first
  pub refused : IfNone first.late (WasRefused h (highest low (replies_in out)) first.line.command)

behind_answers : (answers : List Answered) (o : Outcome) (rest : List Outcome) → slice_get (map answered answers ++ o ∷ rest) (length answers) ≡ Some o
behind_answers [] o rest = refl
behind_answers (a ∷ answers) o rest = behind_answers answers o rest

-- its line was cut off by the disk
pub stops_here : (hash : Hash) (start : Start) (p : KnownPass) (lines : List Line) (answers : List Answered) (why : Option LineError) (ran : HasRun hash start p lines answers why)
    → first_replies (outcomes_of answers (stop_in hash start p lines answers why ran)) ≡ answers → replies_in (outcomes_of answers (stop_in hash start p lines answers why ran)) ≡ answers
    → why ≡ Some DiskFault → (items : List LogItem) → MayBecome p items → StopsHere (history_of items) start.low (outcomes_of answers (stop_in hash start p lines answers why ran))
stops_here hash start p lines answers None ran firsts told is items m = absurd (cc (is))
stops_here hash start p lines answers (Some why) (line, others, e, cut) firsts told is items m =
    let o : Outcome = halted line cut.stuck.late in
    let out : List Outcome = map answered answers ++ o ∷ map not_run others in
    let fault : why ≡ DiskFault = cc (is) in
    let most : highest start.low answers ≤ cut.before.view.least.durable = highest_most start.low cut.before.view.least.durable answers cut.run.from cut.run.known in
    record {
      first = o;
      there = ap (λ (l : List Answered). slice_get out (length l)) firsts ∙ behind_answers answers o (map not_run others);
      refused = subst (λ (l : List Answered). IfNone cut.stuck.late (WasRefused (history_of items) (highest start.low l) line.command)) (sym told) (go cut.stuck.late most (cut.stuck.refused fault));
    }
  where
    go : (late : Option ℕ) → highest start.low answers ≤ cut.before.view.least.durable
        → IfNone late ((is : List LogItem) → MayBecome p is → WasRefused (history_of is) cut.before.view.least.durable line.command)
        → IfNone late (WasRefused (history_of items) (highest start.low answers) line.command)
    go None le f = refused_less (history_of items) (highest start.low answers) cut.before.view.least.durable line.command le (f items m)
    go (Some n) le f = tt

-- ---- of all of them

-- the first outcome without a reply, by its line
first_at : (outcomes : List Outcome) (line : Line) (rest : List Line) → drop (length (first_replies outcomes)) (map line_in outcomes) ≡ line ∷ rest
    → (o : Outcome) × (slice_get outcomes (length (first_replies outcomes)) ≡ Some o) × (o.line ≡ line)
first_at [] line rest e = absurd (cc (e))
first_at (o ∷ outcomes) line rest e = go o.reply e (λ more. first_at outcomes line rest more)
  where
    go : (r : Option Answered) → drop (length (before_others r (first_replies outcomes))) (o.line ∷ map line_in outcomes) ≡ line ∷ rest
        → (drop (length (first_replies outcomes)) (map line_in outcomes) ≡ line ∷ rest → (p : Outcome) × (slice_get outcomes (length (first_replies outcomes)) ≡ Some p) × (p.line ≡ line))
        → (p : Outcome) × (slice_get (o ∷ outcomes) (length (before_others r (first_replies outcomes))) ≡ Some p) × (p.line ≡ line)
    go None q later = (o, refl, cc (q))
    go (Some a) q later = later q

-- the first of these without a reply
abbrev FirstIs : Outcome → List Outcome → Type 0
FirstIs o out = slice_get out (length (first_replies out)) ≡ Some o

either : (o x : Outcome) (own : List Outcome) (b : Bool) → FirstIs o (x ∷ own) → FirstIs o own → FirstIs o (if b then x ∷ own else own)
either o x own true first rest = first
either o x own false first rest = rest

-- it is the first of its session
first_own : (outcomes : List Outcome) (name : List ℕ) (o : Outcome) → FirstIs o outcomes → o.line.session ≡ name → FirstIs o (of_session name outcomes)
first_own [] name o e mine = e
first_own (x ∷ outcomes) name o e mine = go x.reply refl e (λ more. first_own outcomes name o more mine)
  where
    go : (r : Option Answered) → x.reply ≡ r → slice_get (x ∷ outcomes) (length (before_others r (first_replies outcomes))) ≡ Some o → (FirstIs o outcomes → FirstIs o (of_session name outcomes))
        → FirstIs o (if bytes_eq x.line.session name then x ∷ of_session name outcomes else of_session name outcomes)
    go None is at later =
        let own : List Outcome = of_session name outcomes in
        let here : x ≡ o = some-is x o at in
        let same : bytes_eq x.line.session name ≡ true = bytes-same x.line.session name (ap (λ (p : Outcome). p.line.session) here ∙ mine) in
        let first : FirstIs o (x ∷ own) = subst (λ (r : Option Answered). slice_get (x ∷ own) (length (before_others r (first_replies own))) ≡ Some o) (sym is) at in
        subst (λ (b : Bool). FirstIs o (if b then x ∷ own else own)) (sym same) first
    go (Some a) is at later =
        let own : List Outcome = of_session name outcomes in
        let rest : FirstIs o own = later at in
        let first : FirstIs o (x ∷ own) = subst (λ (r : Option Answered). slice_get (x ∷ own) (length (before_others r (first_replies own))) ≡ Some o) (sym is) rest in
        either o x own (bytes_eq x.line.session name) first rest

-- so what its session says of it is said of the phase
pub phase_fails : (h : List Transaction) (low : ℕ) (outcomes : List Outcome) (name : List ℕ) (line : Line) (rest : List Line) → drop (length (first_replies outcomes)) (map line_in outcomes) ≡ line ∷ rest
    → line.session ≡ name → StopsHere h low (of_session name outcomes) → FailsAt h low outcomes
phase_fails h low outcomes name line rest e is s =
    let f = first_at outcomes line rest e in
    let mine : f.0.line.session ≡ name = ap (λ (l : Line). l.session) f.2 ∙ is in
    let same : s.first ≡ f.0 = some-is s.first f.0 (sym s.there ∙ first_own outcomes name f.0 f.1 mine) in
    let told : IfNone f.0.late (WasRefused h (highest low (replies_in (of_session name outcomes))) f.0.line.command) =
    subst (λ (o : Outcome). IfNone o.late (WasRefused h (highest low (replies_in (of_session name outcomes))) o.line.command)) same s.refused in
    record {
      first = f.0;
      there = f.1;
      refused = subst (λ (n : List ℕ). IfNone f.0.late (WasRefused h (highest low (replies_in (of_session n outcomes))) f.0.line.command)) (sym mine) told;
    }
