-- What sessions that run side by side come to, phase by phase, read off one history.
use Rattle.std.specs.Prelude.{◌≡◌, ℕ, ◌≤◌, ◌+◌, ◌-◌, List, [], ◌∷◌, ◌++◌, length, take, map, max, Bool, false, All, Option, Some, None, IsSome}
use Rattle.std.specs.List.{flat_map, range_with_len, sum_by}
use Rattle.im_digest.specs.Digests.{Hash}
use Rattle.im_model.specs.Counts.{times}
use Rattle.im_model.specs.History.{transaction_of, IsHistory}
use Rattle.im_model.specs.declared.transactions.Transaction.{Transaction}
use Rattle.im_script.specs.declared.commands.Line.{Line}
use Rattle.im_report.specs.Outcomes.{Outcome, IsSession, highest, line_in, numbers_in, of_session, reply_in}
use Rattle.im_report.specs.Report.{Answered, answer_line, floor_after}

-- the replies of a phase, in the script's order
abbrev pub replies_in : List Outcome → List Answered
replies_in outcomes = flat_map reply_in outcomes

-- a reply before others, or none of them
abbrev pub before_others : Option Answered → List Answered → List Answered
before_others None others = []
before_others (Some a) others = a ∷ others

-- the replies before the first line without one, in the script's order
abbrev pub first_replies : List Outcome → List Answered
first_replies [] = []
first_replies (o ∷ outcomes) = before_others o.reply (first_replies outcomes)

-- each line was answered
abbrev pub AreAnswered : List Outcome → Type 0
AreAnswered outcomes = All (λ o. IsSome o.reply) outcomes

-- the floor that the session of a line reached in a phase
abbrev pub floor_reached : ℕ → List Outcome → Outcome → ℕ
floor_reached floor outcomes o = floor_after floor (replies_in (of_session o.line.session outcomes))

-- the greatest of these numbers, and this one
abbrev pub greatest : ℕ → List ℕ → ℕ
greatest best [] = best
greatest best (n ∷ more) = greatest (max best n) more

-- where the next phase begins: at the greatest number that a line was told
abbrev pub next_low : ℕ → List Outcome → ℕ
next_low low outcomes = highest low (replies_in outcomes)

-- and at the greatest floor that a session reached
abbrev pub next_floor : ℕ → List Outcome → ℕ
next_floor floor outcomes = greatest floor (map (floor_reached floor outcomes) outcomes)

-- each session of a phase came to what a session may
abbrev pub IsPhase : Hash → ℕ → ℕ → List Transaction → List Outcome → Type 0
IsPhase hash low floor history outcomes = (name : List ℕ) → IsSession hash low floor history (of_session name outcomes)

-- each phase did, from where those before it had come to
abbrev pub ArePhases : Hash → ℕ → ℕ → List Transaction → List (List Outcome) → Type 0
ArePhases hash low floor history [] = Unit {0}
ArePhases hash low floor history (outcomes ∷ phases) =
    IsPhase hash low floor history outcomes × ArePhases hash (next_low low outcomes) (next_floor floor outcomes) history phases

-- each phase but the last was answered whole: behind a line without a reply no phase is run
abbrev pub AreAllButLast : List (List Outcome) → Type 0
AreAllButLast [] = Unit {0}
AreAllButLast (outcomes ∷ []) = Unit {0}
AreAllButLast (outcomes ∷ next ∷ phases) = AreAnswered outcomes × AreAllButLast (next ∷ phases)

-- how often a number is that of a transaction placed for a line of these
abbrev pub times_in : ℕ → List Outcome → ℕ
times_in k outcomes = sum_by (λ o. times k (numbers_in o)) outcomes

-- and for a line of these phases
abbrev pub times_placed : ℕ → List (List Outcome) → ℕ
times_placed k phases = sum_by (times_in k) phases

-- The transaction of each pair was placed over just that floor.
abbrev pub IsJustOver : List Transaction → ℕ × ℕ → Type 0
IsJustOver history p = (transaction_of history p.0).bl ≡ p.1

-- the numbers of the transactions that were placed for the lines of one session, each with the floor that it had reached; from this floor on
abbrev pub floors_of : ℕ → List Outcome → List (ℕ × ℕ)
floors_of floor [] = []
floors_of floor (o ∷ outcomes) =
    map (λ n. (n, floor)) (numbers_in o) ++ floors_of (floor_after floor (reply_in o)) outcomes

-- all lines are of one session
abbrev pub AreOfOne : List (List Outcome) → Type 0
AreOfOne phases = (name : List ℕ) × All (All (λ o. o.line.session ≡ name)) phases

-- What the phases of a script came to, as far as they were run. h0 was found, and h is the one history that is left: it begins with h0, and the
-- transactions behind that are those that were placed for lines, one for one by the number, which a reply `tx` tells. Where no linker runs
-- beside a single session each of them was placed over just the tree that the lines before it had linked.
pub record SessionsReport (hash : Hash) (linker : Bool) (h0 h : List Transaction) (phases : List (List Outcome)) : Type 0 where
  pub history : IsHistory h
  pub begins : take (length h0) h ≡ h0
  pub each : ArePhases hash (length h0) (length h0) h phases
  pub within : All (λ outcomes. All (λ a. a.number ≤ length h) (replies_in outcomes)) phases
  pub placed : (k : ℕ) → times_placed k phases ≡ times k (range_with_len (length h0 + 1) (length h - length h0))
  pub ran : AreAllButLast phases
  pub exact : linker ≡ false → AreOfOne phases → All (IsJustOver h) (floors_of (length h0) (flat_map (λ outcomes. outcomes) phases))

-- what is written of a phase: the replies before the first line without one, in the script's order
abbrev pub phase_text : List Outcome → List ℕ
phase_text outcomes = flat_map answer_line (first_replies outcomes)

-- and of phases
abbrev pub phases_text : List (List Outcome) → List ℕ
phases_text phases = flat_map phase_text phases

-- the lines of the phases
abbrev pub lines_in : List (List Outcome) → List (List Line)
lines_in phases = map (λ outcomes. map line_in outcomes) phases
