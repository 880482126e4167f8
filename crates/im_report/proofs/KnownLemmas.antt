-- What is known of what became of each line of a report.
use Rattle.std.proofs.Common.{◌≡◌, ◌⊎◌, inl, inr, ℕ, zero, suc, List, [], ◌∷◌, map, Bool, true, false, if◌then◌else◌, Option, Some, None, refl, sym, subst, arith, get_or}
use Rattle.std.specs.Prelude.{All, IfSome}
use Rattle.std.specs.Str.{bytes_eq}
use Rattle.std.proofs.lemmas.List.Elements.{All-append}
use Rattle.im_digest.specs.Digests.{Hash}
use Rattle.im_model.specs.declared.transactions.Transaction.{Transaction}
use Rattle.im_octet.proofs.Common.{bytes-same}
use Rattle.im_report.proofs.FrontLemmas.{AsksFor}
use Rattle.im_report.proofs.OutcomeLemmas.{flat_all}
use Rattle.im_report.specs.Outcomes.{IsCutOff, IsLate, IsSession, Outcome, answered, halted, highest, not_run, of_session, reply_in}
use Rattle.im_report.specs.Report.{Answered, IsAnswer, floor_after}
use Rattle.im_report.specs.Sessions.{ArePhases, next_floor, next_low, replies_in}
use Rattle.im_script.specs.declared.commands.Line.{Line}

-- It was answered as its line is, or it has no reply, and at most one transaction, which has the entries that its line asks for.
abbrev pub IsKnown : Hash → List Transaction → Outcome → Type 0
IsKnown hash h o =
    ((a : Answered) × (o ≡ answered a) × IsAnswer hash h a.line.command a.number a.reply)
    ⊎ ((line : Line) × (late : Option ℕ) × (o ≡ halted line late) × IfSome late (AsksFor h line.command))

known_answers : (hash : Hash) (h : List Transaction) (answers : List Answered) → All (λ a. IsAnswer hash h a.line.command a.number a.reply) answers → All (IsKnown hash h) (map answered answers)
known_answers hash h [] all = λ i d lt. absurd (omega arith)
known_answers hash h (a ∷ answers) all = cons (all 0 a (omega arith)) (known_answers hash h answers (λ i d lt. all (suc i) d (omega (arith, lt))))
  where
    cons : IsAnswer hash h a.line.command a.number a.reply → All (IsKnown hash h) (map answered answers) → All (IsKnown hash h) (answered a ∷ map answered answers)
    cons one rest zero d lt = inl (a, refl, one)
    cons one rest (suc i) d lt = rest i d (omega (arith, lt))

known_unrun : (hash : Hash) (h : List Transaction) (lines : List Line) → All (IsKnown hash h) (map not_run lines)
known_unrun hash h [] = λ i d lt. absurd (omega arith)
known_unrun hash h (l ∷ lines) = cons (known_unrun hash h lines)
  where
    cons : All (IsKnown hash h) (map not_run lines) → All (IsKnown hash h) (not_run l ∷ map not_run lines)
    cons rest zero d lt = inr (l, None, refl, tt)
    cons rest (suc i) d lt = rest i d (omega (arith, lt))

late_asks : (h : List Transaction) (low floor : ℕ) (line : Line) (late : Option ℕ) → IfSome late (IsLate h low floor line.command) → IfSome late (AsksFor h line.command)
late_asks h low floor line None tx = tt
late_asks h low floor line (Some n) tx = (tx.read, tx.asked, tx.asks, tx.behind, tx.writes)

known_rest : (hash : Hash) (h : List Transaction) (low floor : ℕ) (answers : List Answered) (rest : List Outcome) → IsCutOff h low floor answers rest → All (IsKnown hash h) rest
known_rest hash h low floor answers rest (inl none) = subst (All (IsKnown hash h)) (sym none) (λ i d lt. absurd (omega arith))
known_rest hash h low floor answers rest (inr (line, late, others, e, tx)) =
    subst (All (IsKnown hash h)) (sym e) (cons (late_asks h (highest low answers) (floor_after floor answers) line late tx) (known_unrun hash h others))
  where
    cons : IfSome late (AsksFor h line.command) → All (IsKnown hash h) (map not_run others) → All (IsKnown hash h) (halted line late ∷ map not_run others)
    cons one more zero d lt = inr (line, late, refl, one)
    cons one more (suc i) d lt = more i d (omega (arith, lt))

known_session : (hash : Hash) (low floor : ℕ) (h : List Transaction) (outcomes : List Outcome) → IsSession hash low floor h outcomes → All (IsKnown hash h) outcomes
known_session hash low floor h outcomes s =
    subst (All (IsKnown hash h)) (sym s.are)
    (All-append (IsKnown hash h) (map answered s.answers) s.rest (known_answers hash h s.answers s.told.each) (known_rest hash h low floor s.answers s.rest s.cut))

-- what holds of those of each session holds of all
each_session : (P : Outcome → Type 0) (outcomes : List Outcome) → ((name : List ℕ) → All P (of_session name outcomes)) → All P outcomes
each_session P [] each = λ i d lt. absurd (omega arith)
each_session P (o ∷ outcomes) each = cons (one (bytes_eq o.line.session o.line.session) (bytes-same o.line.session o.line.session refl) (each o.line.session))
    (each_session P outcomes (λ name. rest name (bytes_eq o.line.session name) (each name)))
  where
    one : (b : Bool) → b ≡ true → All P (if b then o ∷ of_session o.line.session outcomes else of_session o.line.session outcomes) → P o
    one true e all = all 0 o (omega arith)
    one false e all = cc e

    rest : (name : List ℕ) (b : Bool) → All P (if b then o ∷ of_session name outcomes else of_session name outcomes) → All P (of_session name outcomes)
    rest name true all = λ i d lt. all (suc i) d (omega (arith, lt))
    rest name false all = all

    cons : P o → All P outcomes → All P (o ∷ outcomes)
    cons p ps zero d lt = p
    cons p ps (suc i) d lt = ps i d (omega (arith, lt))

pub known_phases : (hash : Hash) (low floor : ℕ) (h : List Transaction) (phases : List (List Outcome)) → ArePhases hash low floor h phases → All (All (IsKnown hash h)) phases
known_phases hash low floor h [] are = λ i d lt. absurd (omega arith)
known_phases hash low floor h (outcomes ∷ phases) are =
    cons (each_session (IsKnown hash h) outcomes (λ name. known_session hash low floor h (of_session name outcomes) (are.0 name)))
    (known_phases hash (next_low low outcomes) (next_floor floor outcomes) h phases are.1)
  where
    cons : All (IsKnown hash h) outcomes → All (All (IsKnown hash h)) phases → All (All (IsKnown hash h)) (outcomes ∷ phases)
    cons p ps zero d lt = p
    cons p ps (suc i) d lt = ps i d (omega (arith, lt))

-- each reply is what its line is answered, and its line is one of those that it was known of
pub answers_known : (hash : Hash) (h : List Transaction) (P : Line → Type 0) (outcomes : List Outcome) → All (IsKnown hash h) outcomes → All (λ o. P o.line) outcomes
    → All (λ a. IsAnswer hash h a.line.command a.number a.reply × P a.line) (replies_in outcomes)
answers_known hash h P outcomes known lines =
    flat_all (λ (a : Answered). IsAnswer hash h a.line.command a.number a.reply × P a.line) reply_in outcomes (λ i d lt. one (get_or outcomes i d) (known i d lt) (lines i d lt))
  where
    said : (a : Answered) → IsAnswer hash h a.line.command a.number a.reply → P a.line → All (λ b. IsAnswer hash h b.line.command b.number b.reply × P b.line) (a ∷ [])
    said a answer line zero d lt = (answer, line)
    said a answer line (suc i) d lt = absurd (omega (arith, lt))

    one : (o : Outcome) → IsKnown hash h o → P o.line → All (λ b. IsAnswer hash h b.line.command b.number b.reply × P b.line) (reply_in o)
    one o (inl (a, is, answer)) line =
        subst (λ (p : Outcome). All (λ b. IsAnswer hash h b.line.command b.number b.reply × P b.line) (reply_in p)) (sym is) (said a answer (subst (λ (p : Outcome). P p.line) is line))
    one o (inr (l, late, is, tx)) line =
        subst (λ (p : Outcome). All (λ b. IsAnswer hash h b.line.command b.number b.reply × P b.line) (reply_in p)) (sym is) (λ i d lt. absurd (omega arith))
