-- What became of the lines of a session, in a phase of a script.
use Rattle.std.specs.Prelude.{◌≡◌, ◌⊎◌, ℕ, ◌<◌, ◌≤◌, ◌-◌, List, [], ◌∷◌, ◌++◌, length, take, map, filter, max, IsTrue, IfSome, All, AllPairs, Option, Some, None, if◌then◌else◌}
use Rattle.std.specs.Str.{bytes_eq}
use Rattle.im_digest.specs.Digests.{Hash}
use Rattle.im_model.specs.Counts.{number_or_none}
use Rattle.im_model.specs.History.{transaction_of}
use Rattle.im_model.specs.declared.transactions.Transaction.{Transaction}
use Rattle.im_tx.specs.Asked.{Asked}
use Rattle.im_versions.specs.Admits.{place_refusal}
use Rattle.im_script.specs.declared.commands.Line.{Line}
use Rattle.im_script.specs.declared.commands.Command.{Command}
use Rattle.im_report.specs.Asking.{MayAsk}
use Rattle.im_report.specs.Report.{Answered, IsAnswer, ReadsFrom, is_placed, floor_after, floor_by}

-- What became of a line: its reply and the number before it, where it got one; else the number of a transaction that was placed for it all
-- the same, where one was.
pub record Outcome : Type 0 where
  pub line : Line
  pub reply : Option Answered
  pub late : Option ℕ

-- it was answered
abbrev pub answered : Answered → Outcome
answered a = record { line = a.line; reply = Some a; late = None }

-- it got no reply, and this was placed for it
abbrev pub halted : Line → Option ℕ → Outcome
halted line late = record { line = line; reply = None; late = late }

-- it wasn't run
abbrev pub not_run : Line → Outcome
not_run line = halted line None

-- the lines, replied to or not
abbrev pub line_in : Outcome → Line
line_in o = o.line

-- those of a session, by its name
abbrev pub of_session : List ℕ → List Outcome → List Outcome
of_session name outcomes = filter (λ o. bytes_eq o.line.session name) outcomes

-- the reply, where there is one
abbrev pub answer_or_none : Option Answered → List Answered
answer_or_none None = []
answer_or_none (Some a) = a ∷ []

abbrev pub reply_in : Outcome → List Answered
reply_in o = answer_or_none o.reply

-- the number of the transaction that was placed for a line, where one was: it is told by a `tx`, or isn't told
abbrev pub number_told : Option Answered → List ℕ
number_told None = []
number_told (Some a) = if is_placed a then a.number ∷ [] else []

abbrev pub numbers_in : Outcome → List ℕ
numbers_in o = number_told o.reply ++ number_or_none o.late

-- no number falls, and that of a `tx` rises
abbrev pub Rises : ℕ → Answered → Type 0
Rises n a = (n ≤ a.number) × (IsTrue (is_placed a) → n < a.number)

-- the answered lines that reply `tx`: the number of each, with the floor that its session had reached
abbrev pub floors_told : ℕ → List Answered → List (ℕ × ℕ)
floors_told floor [] = []
floors_told floor (a ∷ answers) =
    (if is_placed a then (a.number, floor) ∷ [] else []) ++ floors_told (floor_by a.line.command a.number floor) answers

-- the transaction of this number was placed over a tree no smaller than the floor
abbrev pub IsOver : List Transaction → ℕ × ℕ → Type 0
IsOver history p = p.1 ≤ (transaction_of history p.0).bl

-- number n of the history was placed for a line that has no reply, behind all that its session had been told, from this number on, and over
-- a tree no smaller than its floor: it has what the line asks for, where it is a statement by what it read, no fewer transactions than were told, and nothing
-- refused it behind the n - 1 before
pub record IsLate (history : List Transaction) (low floor : ℕ) (command : Command) (n : ℕ) : Type 0 where
  pub read : ℕ
  pub asked : Asked
  pub asks : MayAsk history read command asked
  pub least : low ≤ read
  pub behind : read < n
  pub within : n ≤ length history
  pub admitted : place_refusal (take (n - 1) history) asked.pres ≡ None
  pub writes : (transaction_of history n).entries ≡ asked.entries
  pub over : IsOver history (n, floor)

-- the greatest number of some replies, and this one
abbrev pub highest : ℕ → List Answered → ℕ
highest low [] = low
highest low (a ∷ answers) = highest (max low a.number) answers

-- all lines of a session were answered, or those before one without a reply, behind which none was run
abbrev pub IsCutOff : List Transaction → ℕ → ℕ → List Answered → List Outcome → Type 0
IsCutOff history low floor answers rest =
    (rest ≡ []) ⊎ ((line : Line) × (late : Option ℕ) × (others : List Line) × (rest ≡ halted line late ∷ map not_run others)
    × IfSome late (IsLate history (highest low answers) (floor_after floor answers) line.command))

-- The replies of a session that began at these numbers: behind how many transactions, and over a tree of which size at least. Each is what its line is
-- answered at its number; no number falls below that or the one before, and that of a `tx` rises, nor does a statement read fewer transactions; and each `tx`
-- was placed over a tree no smaller than the floor that the session had reached.
pub record AreAnswers (hash : Hash) (low floor : ℕ) (history : List Transaction) (answers : List Answered) : Type 0 where
  pub each : All (λ a. IsAnswer hash history a.line.command a.number a.reply) answers
  pub least : All (Rises low) answers
  pub rising : AllPairs (λ a b. Rises a.number b) answers
  pub least_read : All (ReadsFrom low) answers
  pub reading : AllPairs (λ a b. ReadsFrom a.number b) answers
  pub floors : All (IsOver history) (floors_told floor answers)

-- what one session came to in a phase that it began at these numbers
pub record IsSession (hash : Hash) (low floor : ℕ) (history : List Transaction) (outcomes : List Outcome) : Type 0 where
  pub answers : List Answered
  pub rest : List Outcome
  pub are : outcomes ≡ map answered answers ++ rest
  pub cut : IsCutOff history low floor answers rest
  pub told : AreAnswers hash low floor history answers
