-- The replies of sessions are taken by clients, and what is written of them is cut at each LF into its lines.
use Rattle.std.proofs.Common.{◌≡◌, ◌≤◌, ℕ, zero, suc, List, [], ◌∷◌, ◌++◌, length, map, take, refl, ap, sym, ◌∙◌, subst, arith, append_assoc, All, get_or, Bool, Option, Some, None}
use Rattle.std.proofs.lemmas.List.{length-map, take_at}
use Rattle.std.proofs.lemmas.List.Concat.{flat_map-append}
use Rattle.im_digest.specs.Digests.{Hash}
use Rattle.im_model.specs.declared.transactions.Transaction.{Transaction}
use Rattle.im_text.specs.Cuts.{Lacks}
use Rattle.im_text.specs.Fields.{IsSession}
use Rattle.im_text.specs.Lines.{AreTexts}
use Rattle.im_text.proofs.LineLemmas.{texts-unique}
use Rattle.im_accept.proofs.CutLemmas.{answer-lacks, answers-same, line-lacks, texts-of}
use Rattle.im_accept.proofs.TakenLemmas.{answers-taken}
use Rattle.im_accept.specs.Taken.{AreAcceptedAnswers, HaveSessions, line_text}
use Rattle.im_report.specs.Messages.{AreReadBack}
use Rattle.im_report.proofs.FurtherLemmas.{written_lines}
use Rattle.im_report.proofs.KnownLemmas.{IsKnown, answers_known, known_phases}
use Rattle.im_report.proofs.OutcomeLemmas.{flat_all, texts_all}
use Rattle.im_report.specs.Further.{written_replies}
use Rattle.im_report.specs.Outcomes.{Outcome, answer_or_none, line_in}
use Rattle.im_report.specs.Report.{Answered, IsAnswer}
use Rattle.im_report.specs.Sessions.{SessionsReport, before_others, first_replies, lines_in, phase_text, phases_text, replies_in}
use Rattle.im_script.specs.Script.{lines_of}
use Rattle.im_script.specs.declared.commands.Line.{Line}

-- the lines of outcomes have sessions' names
lines_named : (outcomes : List Outcome) → HaveSessions (map line_in outcomes) → All (λ o. IsSession o.line.session) outcomes
lines_named [] names = λ i d lt. absurd (omega arith)
lines_named (o ∷ outcomes) names = cons (names 0 o.line (omega arith)) (lines_named outcomes (λ i d lt. names (suc i) d (omega (arith, lt))))
  where
    cons : IsSession o.line.session → All (λ p. IsSession p.line.session) outcomes → All (λ p. IsSession p.line.session) (o ∷ outcomes)
    cons one rest zero d lt = one
    cons one rest (suc i) d lt = rest i d (omega (arith, lt))

-- each reply of a phase is what its line is answered, and has a session's name
said_in : (hash : Hash) (h : List Transaction) (outcomes : List Outcome) → All (IsKnown hash h) outcomes → HaveSessions (map line_in outcomes)
    → All (λ a. IsAnswer hash h a.line.command a.number a.reply × IsSession a.line.session) (replies_in outcomes)
said_in hash h outcomes known names = answers_known hash h (λ (l : Line). IsSession l.session) outcomes known (lines_named outcomes names)

pub phases-taken : (hash : Hash) (linker : Bool) (h0 h : List Transaction) (phases : List (List Outcome)) → SessionsReport hash linker h0 h phases
    → All (λ outcomes. HaveSessions (map line_in outcomes)) phases → All (λ outcomes. AreReadBack hash h (replies_in outcomes)) phases → All (λ outcomes. AreAcceptedAnswers hash h (replies_in outcomes)) phases
phases-taken hash linker h0 h phases r names read =
    let known = known_phases hash (length h0) (length h0) h phases r.each in
    λ k d lt.
    let outcomes : List Outcome = get_or phases k d in
    let said = said_in hash h outcomes (known k d lt) (names k d lt) in
    answers-taken hash h (replies_in outcomes) r.history (λ i e less. (said i e less).0) (r.within k d lt) (λ i e less. (said i e less).1) (read k d lt)

-- what holds of each reply holds of those before the first line without one
first_of_all : (P : Answered → Type 0) (outcomes : List Outcome) → All P (replies_in outcomes) → All P (first_replies outcomes)
first_of_all P [] all = λ i d lt. absurd (omega arith)
first_of_all P (o ∷ outcomes) all = go o.reply all (λ rest. first_of_all P outcomes rest)
  where
    cons : (a : Answered) → P a → All P (first_replies outcomes) → All P (a ∷ first_replies outcomes)
    cons a one rest zero d lt = one
    cons a one rest (suc i) d lt = rest i d (omega (arith, lt))

    go : (r : Option Answered) → All P (answer_or_none r ++ replies_in outcomes) → (All P (replies_in outcomes) → All P (first_replies outcomes)) → All P (before_others r (first_replies outcomes))
    go None each more = λ i d lt. absurd (omega arith)
    go (Some a) each more = cons a (each 0 a (omega arith)) (more (λ i d lt. each (suc i) d (omega (arith, lt))))

-- the written lines have no LF
written-lack : (hash : Hash) (h : List Transaction) (outcomes : List Outcome) → All (IsKnown hash h) outcomes → HaveSessions (map line_in outcomes) → All (λ a. Lacks 10 (line_text a)) (first_replies outcomes)
written-lack hash h outcomes known names =
    let said = said_in hash h outcomes known names in
    first_of_all (λ a. Lacks 10 (line_text a)) outcomes (λ i d lt.
    let a : Answered = get_or (replies_in outcomes) i d in
    line-lacks a (said i d lt).1 (answer-lacks hash h a.line.command a.number a.reply (said i d lt).0))

pub phases-texts : (hash : Hash) (linker : Bool) (h0 h : List Transaction) (phases : List (List Outcome)) → SessionsReport hash linker h0 h phases
    → All (λ outcomes. HaveSessions (map line_in outcomes)) phases → All (λ outcomes. AreTexts (phase_text outcomes) (map line_text (first_replies outcomes))) phases
phases-texts hash linker h0 h phases r names =
    let known = known_phases hash (length h0) (length h0) h phases r.each in
    λ k d lt. texts-of (first_replies (get_or phases k d)) (written-lack hash h (get_or phases k d) (known k d lt) (names k d lt))

pub whole-texts : (hash : Hash) (linker : Bool) (h0 h : List Transaction) (phases : List (List Outcome)) → SessionsReport hash linker h0 h phases
    → All (λ outcomes. HaveSessions (map line_in outcomes)) phases → AreTexts (phases_text phases) (map line_text (written_replies phases))
whole-texts hash linker h0 h phases r names =
    let known = known_phases hash (length h0) (length h0) h phases r.each in
    subst (λ (o : List ℕ). AreTexts o (map line_text (written_replies phases))) (sym (texts_all phases))
    (texts-of (written_replies phases) (flat_all (λ (a : Answered). Lacks 10 (line_text a)) first_replies phases (λ k d lt. written-lack hash h (get_or phases k d) (known k d lt) (names k d lt))))

-- the numbers before the written replies are those of transactions that there may be
few-written : (hash : Hash) (linker : Bool) (h0 h : List Transaction) (phases : List (List Outcome)) → SessionsReport hash linker h0 h phases → All (λ a. a.number ≤ 1048576) (written_replies phases)
few-written hash linker h0 h phases r =
    let few : length h ≤ 1048576 = r.history.few in
    flat_all (λ (a : Answered). a.number ≤ 1048576) first_replies phases (λ k d lt. first_of_all (λ a. a.number ≤ 1048576) (get_or phases k d) (λ i e less. (let le = r.within k d lt i e less in omega (arith, le, few))))

-- the lines of the written replies, and what is behind them in a script
first-lines : (hash : Hash) (linker : Bool) (h0 h : List Transaction) (phases : List (List Outcome)) (unrun : List (List Line)) → SessionsReport hash linker h0 h phases
    → (rest : List Line) × (lines_of (lines_in phases ++ unrun) ≡ map (λ (a : Answered). a.line) (written_replies phases) ++ rest)
first-lines hash linker h0 h phases unrun r =
    let known = flat_all (IsKnown hash h) (λ (os : List Outcome). os) phases (known_phases hash (length h0) (length h0) h phases r.each) in
    let first = written_lines hash h phases r.ran known in (
      first.0 ++ lines_of unrun,
      flat_map-append (λ (ls : List Line). ls) (lines_in phases) unrun
          ∙ (ap (λ (ls : List Line). ls ++ lines_of unrun) first.1 ∙ append_assoc (map (λ (a : Answered). a.line) (written_replies phases)) first.0 (lines_of unrun)),
    )

-- two lists of one length that begin the same list
front-same : (xs ys rest more : List Line) → length xs ≡ length ys → xs ++ rest ≡ ys ++ more → xs ≡ ys
front-same xs ys rest more size same = sym (take_at xs rest (length xs) refl) ∙ (ap (take (length xs)) same ∙ take_at ys more (length xs) (sym size))

pub one-writing : (hash : Hash) (linker : Bool) (h0 h g0 g : List Transaction) (phases others : List (List Outcome)) (unrun left : List (List Line)) → SessionsReport hash linker h0 h phases
    → SessionsReport hash linker g0 g others → All (λ outcomes. HaveSessions (map line_in outcomes)) phases → All (λ outcomes. HaveSessions (map line_in outcomes)) others
    → lines_in phases ++ unrun ≡ lines_in others ++ left → phases_text phases ≡ phases_text others → written_replies phases ≡ written_replies others
one-writing hash linker h0 h g0 g phases others unrun left r s names named script octets =
    let xs : List Answered = written_replies phases in
    let ys : List Answered = written_replies others in
    let whole : AreTexts (phases_text phases) (map line_text ys) = subst (λ (o : List ℕ). AreTexts o (map line_text ys)) (sym octets) (whole-texts hash linker g0 g others s named) in
    let texts : map line_text xs ≡ map line_text ys = texts-unique (phases_text phases) (map line_text xs) (map line_text ys) (whole-texts hash linker h0 h phases r names) whole in
    let size : length xs ≡ length ys = sym (length-map xs line_text) ∙ (ap length texts ∙ length-map ys line_text) in
    let line : Answered → Line = λ a. a.line in
    let sizes : length (map line xs) ≡ length (map line ys) = length-map xs line ∙ (size ∙ sym (length-map ys line)) in
    let first = first-lines hash linker h0 h phases unrun r in
    let second = first-lines hash linker g0 g others left s in
    let lines : map line xs ≡ map line ys = front-same (map line xs) (map line ys) first.0 second.0 sizes (sym first.1 ∙ (ap lines_of script ∙ second.1)) in
    answers-same xs ys lines texts (few-written hash linker h0 h phases r) (few-written hash linker g0 g others s)
