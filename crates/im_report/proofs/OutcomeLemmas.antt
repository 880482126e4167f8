-- Replies, numbers and lines of what became of lines.
use Rattle.std.proofs.Common.{◌≡◌, inl, inr, ℕ, suc, ◌+◌, ◌++◌, List, [], ◌∷◌, map, refl, ap, sym, ◌∙◌, subst, arith, append-nil, append_assoc, true≢false}
use Rattle.std.specs.Prelude.{All, IsSome, Option, Some, None}
use Rattle.std.specs.List.{flat_map, sum_by}
use Rattle.std.proofs.lemmas.List.{map-append}
use Rattle.std.proofs.lemmas.List.Concat.{flat_map-append}
use Rattle.std.proofs.lemmas.List.Elements.{All-append}
use Rattle.std.proofs.lemmas.List.Sums.{sum_by-cons}
use Rattle.im_model.proofs.CountLemmas.{times_append}
use Rattle.im_model.specs.declared.transactions.Transaction.{Transaction}
use Rattle.im_octet.proofs.Common.{all-right}
use Rattle.im_report.specs.Further.{number_of_reply}
use Rattle.im_model.specs.Counts.{number_or_none, times}
use Rattle.im_report.specs.Outcomes.{IsCutOff, Outcome, answered, halted, line_in, not_run, numbers_in, reply_in}
use Rattle.im_report.specs.Report.{Answered, answer_line}
use Rattle.im_report.specs.Sessions.{AreAllButLast, AreAnswered, before_others, first_replies, lines_in, phase_text, phases_text, replies_in, times_placed}
use Rattle.im_script.specs.Script.{lines_of}
use Rattle.im_script.specs.declared.commands.Line.{Line}

-- what became of the lines of all phases
abbrev pub all_in : List (List Outcome) → List Outcome
all_in phases = flat_map (λ outcomes. outcomes) phases

-- the replies of lines that were answered, and of those behind them
pub replies_answered : (answers : List Answered) (rest : List Outcome) → replies_in (map answered answers ++ rest) ≡ answers ++ replies_in rest
replies_answered [] rest = refl
replies_answered (a ∷ answers) rest = ap (λ (l : List Answered). a ∷ l) (replies_answered answers rest)

pub replies_unrun : (lines : List Line) → replies_in (map not_run lines) ≡ []
replies_unrun [] = refl
replies_unrun (l ∷ lines) = replies_unrun lines

-- and those before the first line without one
pub first_answered : (answers : List Answered) (rest : List Outcome) → first_replies (map answered answers ++ rest) ≡ answers ++ first_replies rest
first_answered [] rest = refl
first_answered (a ∷ answers) rest = ap (λ (l : List Answered). a ∷ l) (first_answered answers rest)

-- where a session was cut off there is no reply behind
pub cut_replies : (h : List Transaction) (low floor : ℕ) (answers : List Answered) (rest : List Outcome) → IsCutOff h low floor answers rest → replies_in rest ≡ []
cut_replies h low floor answers rest (inl none) = ap replies_in none
cut_replies h low floor answers rest (inr c) = ap replies_in c.3 ∙ replies_unrun c.2

pub cut_first : (h : List Transaction) (low floor : ℕ) (answers : List Answered) (rest : List Outcome) → IsCutOff h low floor answers rest → first_replies rest ≡ []
cut_first h low floor answers rest (inl none) = ap first_replies none
cut_first h low floor answers rest (inr c) = ap first_replies c.3

-- a session whose lines were all answered wasn't cut off
pub whole_of : (h : List Transaction) (low floor : ℕ) (answers : List Answered) (rest outcomes : List Outcome) → outcomes ≡ map answered answers ++ rest → IsCutOff h low floor answers rest → AreAnswered outcomes → rest ≡ []
whole_of h low floor answers rest outcomes are (inl none) some = none
whole_of h low floor answers rest outcomes are (inr c) some =
    let left : All (λ o. IsSome o.reply) rest = all-right (λ (o : Outcome). IsSome o.reply) (map answered answers) rest (subst AreAnswered are some) in
    let cut : All (λ o. IsSome o.reply) (halted c.0 c.1 ∷ map not_run c.2) = subst AreAnswered c.3 left in
    absurd (true≢false (sym (cut 0 (not_run c.0) (omega arith))))

-- the numbers of the transactions of answered lines, and of those behind them
pub numbers_answered : (answers : List Answered) (rest : List Outcome) → flat_map numbers_in (map answered answers ++ rest) ≡ flat_map number_of_reply answers ++ flat_map numbers_in rest
numbers_answered [] rest = refl
numbers_answered (a ∷ answers) rest =
    ap (λ (l : List ℕ). l ++ flat_map numbers_in (map answered answers ++ rest)) (append-nil (number_of_reply a))
    ∙ ap (λ (l : List ℕ). number_of_reply a ++ l) (numbers_answered answers rest)
    ∙ sym (append_assoc (number_of_reply a) (flat_map number_of_reply answers) (flat_map numbers_in rest))

pub numbers_unrun : (lines : List Line) → flat_map numbers_in (map not_run lines) ≡ []
numbers_unrun [] = refl
numbers_unrun (l ∷ lines) = numbers_unrun lines

pub numbers_halted : (line : Line) (late : Option ℕ) (lines : List Line) → flat_map numbers_in (halted line late ∷ map not_run lines) ≡ number_or_none late
numbers_halted line late lines = ap (λ (l : List ℕ). number_or_none late ++ l) (numbers_unrun lines) ∙ append-nil (number_or_none late)

-- how often a number stands among those of a phase
times_flat : (k : ℕ) (outcomes : List Outcome) → sum_by (λ o. times k (numbers_in o)) outcomes ≡ times k (flat_map numbers_in outcomes)
times_flat k [] = refl
times_flat k (o ∷ outcomes) =
    omega (arith, sum_by-cons (λ (p : Outcome). times k (numbers_in p)) o outcomes, times_flat k outcomes, times_append k (numbers_in o) (flat_map numbers_in outcomes))

-- and among those of all phases
pub times_all : (k : ℕ) (phases : List (List Outcome)) → times_placed k phases ≡ times k (flat_map numbers_in (all_in phases))
times_all k [] = refl
times_all k (outcomes ∷ phases) =
    let both : times k (flat_map numbers_in (outcomes ++ all_in phases)) ≡ times k (flat_map numbers_in outcomes) + times k (flat_map numbers_in (all_in phases)) =
    ap (times k) (flat_map-append numbers_in outcomes (all_in phases)) ∙ times_append k (flat_map numbers_in outcomes) (flat_map numbers_in (all_in phases)) in
    omega (arith, sum_by-cons (λ (os : List Outcome). sum_by (λ o. times k (numbers_in o)) os) outcomes phases, times_all k phases, times_flat k outcomes, both)

-- the lines of all phases
pub lines_all : (phases : List (List Outcome)) → lines_of (lines_in phases) ≡ map line_in (all_in phases)
lines_all [] = refl
lines_all (outcomes ∷ phases) = ap (λ (l : List Line). map line_in outcomes ++ l) (lines_all phases) ∙ sym (map-append line_in outcomes (all_in phases))

pub lines_answered : (answers : List Answered) → map line_in (map answered answers) ≡ map (λ (a : Answered). a.line) answers
lines_answered [] = refl
lines_answered (a ∷ answers) = ap (λ (l : List Line). a.line ∷ l) (lines_answered answers)

-- the replies of all phases, and what is written of them
pub replies_all_in : (phases : List (List Outcome)) → flat_map replies_in phases ≡ replies_in (all_in phases)
replies_all_in [] = refl
replies_all_in (outcomes ∷ phases) = ap (λ (l : List Answered). replies_in outcomes ++ l) (replies_all_in phases) ∙ sym (flat_map-append reply_in outcomes (all_in phases))

pub texts_all : (phases : List (List Outcome)) → phases_text phases ≡ flat_map answer_line (flat_map first_replies phases)
texts_all [] = refl
texts_all (outcomes ∷ phases) = ap (λ (l : List ℕ). phase_text outcomes ++ l) (texts_all phases) ∙ sym (flat_map-append answer_line (first_replies outcomes) (flat_map first_replies phases))

-- the first replies of answered lines, and of those behind them
first_both : (outcomes rest : List Outcome) → AreAnswered outcomes → first_replies (outcomes ++ rest) ≡ first_replies outcomes ++ first_replies rest
first_both [] rest some = refl
first_both (o ∷ outcomes) rest some = go o.reply refl (first_both outcomes rest (λ i d lt. some (suc i) d (omega (arith, lt))))
  where
    go : (r : Option Answered) → o.reply ≡ r → first_replies (outcomes ++ rest) ≡ first_replies outcomes ++ first_replies rest
        → before_others o.reply (first_replies (outcomes ++ rest)) ≡ before_others o.reply (first_replies outcomes) ++ first_replies rest
    go None e more = absurd (true≢false (sym (subst IsSome e (some 0 o (omega arith)))))
    go (Some a) e more =
        ap (λ (r : Option Answered). before_others r (first_replies (outcomes ++ rest))) e
        ∙ (ap (λ (l : List Answered). a ∷ l) more
        ∙ sym (ap (λ (r : Option Answered). before_others r (first_replies outcomes) ++ first_replies rest) e))

-- what is written of phases of which each but the last was answered whole
pub first_all : (phases : List (List Outcome)) → AreAllButLast phases → flat_map first_replies phases ≡ first_replies (all_in phases)
first_all [] ran = refl
first_all (outcomes ∷ []) ran = append-nil (first_replies outcomes) ∙ sym (ap first_replies (append-nil outcomes))
first_all (outcomes ∷ next ∷ phases) ran =
    ap (λ (l : List Answered). first_replies outcomes ++ l) (first_all (next ∷ phases) ran.1) ∙ sym (first_both outcomes (all_in (next ∷ phases)) ran.0)

-- what holds of each of the lists that a function gives holds of all of them together
pub flat_all : {X Y : Type 0} (P : Y → Type 0) (f : X → List Y) (xs : List X) → All (λ x. All P (f x)) xs → All P (flat_map f xs)
flat_all P f [] all = λ i d lt. absurd (omega arith)
flat_all P f (x ∷ xs) all = All-append P (f x) (flat_map f xs) (all 0 x (omega arith)) (flat_all P f xs (λ i d lt. all (suc i) d (omega (arith, lt))))
