-- What a session knows while it runs, and what sessions, a linker and an indexer come to in a phase.
use Rattle.std.specs.Prelude.{◌≡◌, ◌≤◌, ◌+◌, ◌++◌, ℕ, List, [], ◌∷◌, length, map, All, Option, Some, None}
use mathlib.Core.List.{IsPrefix}
use Rattle.im_dealing.specs.Found.{IsFoundKept}
use Rattle.im_dealing.specs.Lines.{IsStuck, MayBecome}
use Rattle.im_dealing.specs.declared.errors.LineError.{LineError}
use Rattle.im_dealing.specs.declared.sessions.Session.{Session}
use Rattle.im_digest.specs.Digests.{Hash}
use Rattle.im_report.specs.Messages.{AreReadBack}
use Rattle.im_report.specs.Outcomes.{AreAnswers, floors_told, number_told}
use Rattle.im_report.specs.Report.{Answered, answer_line, floor_after}
use Rattle.im_report.specs.Sessions.{IsJustOver}
use Rattle.im_script.specs.declared.commands.Line.{Line}
use Rattle.im_table.specs.Histories.{history_of}
use Rattle.im_table.specs.Known.{KnownPass, TableId}
use Rattle.im_table.specs.Passes.{IsPassOf, Later}
use Rattle.im_table.specs.declared.items.LogItem.{LogItem}

-- where a session begins: behind how many durable transactions, and over a tree of which size, as far as its pass knows then
pub record Start : Type 0 where
  pub low : ℕ
  pub floor : ℕ

-- the numbers told by the replies
abbrev pub numbers_told : List Answered → List ℕ
numbers_told [] = []
numbers_told (a ∷ answers) = number_told (Some a) ++ numbers_told answers

-- Since it began the pass has seen no leaf linked, and no transaction made durable, that aren't its own.
pub record IsAlone (start : Start) (p : KnownPass) : Type 0 where
  pub linked : p.view.least.linked ≡ start.floor + p.view.leaves
  pub durable : p.view.least.durable ≡ start.low + length p.view.own

-- Answered so far: of each list that the one list may have grown to, the replies are those of a session. Its own numbers are those that they told. Leaves and
-- own transactions are among what it knows; where there are no others the floor is exact; and before
-- the first reply it linked nothing.
pub record IsRun (hash : Hash) (start : Start) (p : KnownPass) (answers : List Answered) : Type 0 where
  pub session : (items : List LogItem) → MayBecome p items → AreAnswers hash start.low start.floor (history_of items) answers
  pub again : (items : List LogItem) → MayBecome p items → AreReadBack hash (history_of items) answers
  pub own : p.view.own ≡ numbers_told answers
  pub calm : p.view.faults ≡ 0
  pub known : All (λ a. a.number ≤ p.view.least.durable) answers
  pub from : start.low ≤ p.view.least.durable
  pub reached : floor_after start.floor answers ≤ p.view.least.linked
  pub leaves : start.floor + p.view.leaves ≤ p.view.least.linked
  pub placed : start.low + length p.view.own ≤ p.view.least.durable
  pub exact : IsAlone start p → floor_after start.floor answers ≡ p.view.least.linked
  pub just : IsAlone start p → (items : List LogItem) → MayBecome p items → All (IsJustOver (history_of items)) (floors_told start.floor answers)
  pub unlinked : answers ≡ [] → p.view.leaves ≡ 0

-- cut off at a line: what was answered before it, at an earlier moment of the pass, and why it has no reply
pub record IsCutAt (hash : Hash) (start : Start) (p : KnownPass) (answers : List Answered) (line : Line) (why : LineError) : Type 0 where
  pub before : KnownPass
  pub run : IsRun hash start before answers
  pub later : Later before p
  pub stuck : IsStuck before p line why

-- The lines were answered, and the texts are those of the replies, in order; or those before one that got no reply, and none behind it was run.
abbrev pub HasRun : Hash → Start → KnownPass → List Line → List Answered → Option LineError → Type 0
HasRun hash start p lines answers None = (map (λ a. a.line) answers ≡ lines) × IsRun hash start p answers
HasRun hash start p lines answers (Some why) =
    (line : Line) × (others : List Line) × (lines ≡ map (λ a. a.line) answers ++ line ∷ others) × IsCutAt hash start p answers line why

-- a session that may begin: its pass has the weight of one, and has placed and linked nothing; the keys of what was found that begin with octet 00 are SQL's
pub record IsReady (found : List LogItem) (table : TableId) (s : Session) : Type 0 where
  pub kept : IsFoundKept found
  pub pass : IsPassOf table s.pass
  pub weight : s.pass.view.weight ≡ 1
  pub none : s.pass.view.own ≡ []
  pub linked_none : s.pass.view.leaves ≡ 0
  pub told_none : s.pass.view.faults ≡ 0
  pub texts : s.texts.items ≡ []

-- where it begins
abbrev pub start_of : Session → Start
start_of s = record { low = s.pass.view.least.durable; floor = s.pass.view.least.linked }

-- a session that has ended, which was ready before: its lines were run, as far as they were, and no line is left in it
pub record IsDone (hash : Hash) (table : TableId) (before after : Session) : Type 0 where
  pub pass : IsPassOf table after.pass
  pub weight : after.pass.view.weight ≡ 1
  pub number : after.number ≡ before.number
  pub seen : IsPrefix before.pass.view.seen after.pass.view.seen
  pub answers : List Answered
  pub texts : after.texts.items ≡ map answer_line answers
  pub ran : HasRun hash (start_of before) after.pass before.lines.items answers after.why

-- a pass of a thread that places nothing and tells no failure
pub record IsHelper (table : TableId) (p : KnownPass) : Type 0 where
  pub pass : IsPassOf table p
  pub weight : p.view.weight ≡ 1
  pub none : p.view.own ≡ []
  pub calm : p.view.faults ≡ 0

-- one that doesn't link either
pub record IsIdle (table : TableId) (p : KnownPass) : Type 0 where
  pub helper : IsHelper table p
  pub leaves : p.view.leaves ≡ 0
