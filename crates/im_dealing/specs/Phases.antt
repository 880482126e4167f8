-- What a phase comes to, between two moments of the pass that takes all others in; and what phases come to, one after the other.
use Rattle.std.specs.Prelude.{◌≡◌, ◌<◌, ◌≤◌, ◌+◌, ℕ, List, [], ◌∷◌, length, drop, map, false, Bool, All, Option, Some, None, IfNone, slice_get, slice_index_or}
use Rattle.std.specs.List.{flat_map, sum_by}
use mathlib.Core.List.{IsPrefix}
use Rattle.im_dealing.specs.Lines.{MayBecome, WasRefused}
use Rattle.im_dealing.specs.Runs.{IsDone}
use Rattle.im_dealing.specs.declared.errors.LineError.{LineError}
use Rattle.im_dealing.specs.declared.errors.LineError.TheVariants.{DiskFault}
use Rattle.im_dealing.specs.declared.sessions.Session.{Session}
use Rattle.im_digest.specs.Digests.{Hash}
use Rattle.im_report.specs.Messages.{AreReadBack}
use Rattle.im_model.specs.declared.transactions.Transaction.{Transaction}
use Rattle.im_report.specs.Outcomes.{Outcome, highest, line_in, numbers_in, of_session}
use Rattle.im_report.specs.Report.{floor_after}
use Rattle.im_report.specs.Sessions.{AreAllButLast, AreAnswered, AreOfOne, ArePhases, IsJustOver, IsPhase, first_replies, floor_reached, floors_of, lines_in, next_floor, next_low, replies_in, times_in}
use Rattle.im_script.specs.declared.commands.Line.{Line}
use Rattle.im_table.specs.Histories.{history_of}
use Rattle.im_table.specs.Known.{KnownPass, TableId}
use Rattle.im_model.specs.Counts.{times}
use Rattle.im_table.specs.declared.items.LogItem.{LogItem}

-- each session has ended, one by one
pub record AreDone (hash : Hash) (table : TableId) (before after : List Session) : Type 0 where
  pub many : length after ≡ length before
  pub each : (i : ℕ) (d : Session) → i < length before → IsDone hash table (slice_index_or before i d) (slice_index_or after i d)

-- a pass has grown, and no number that it knows has fallen
pub record HasGrown (old new : KnownPass) : Type 0 where
  pub seen : IsPrefix old.view.seen new.view.seen
  pub durable : old.view.least.durable ≤ new.view.least.durable
  pub linked : old.view.least.linked ≤ new.view.least.linked
  pub failed : old.view.least.failed ≤ new.view.least.failed

-- there is a first line without a reply, in the script's order
pub record StopsAt (outcomes : List Outcome) : Type 0 where
  pub line : Line
  pub next : (rest : List Line) × (drop (length (first_replies outcomes)) (map line_in outcomes) ≡ line ∷ rest)

-- each line has a reply where there is no why
abbrev pub EndsPhase : List Outcome → Option LineError → Type 0
EndsPhase outcomes None = AreAnswered outcomes
EndsPhase outcomes (Some why) = StopsAt outcomes

-- The disk failed at the first line without a reply, in the script's order, of a phase that began behind so many transactions. Where none was placed for the line, what it
-- asks for was refused: a statement's by what it read, no fewer transactions than its session had been told.
pub record FailsAt (history : List Transaction) (low : ℕ) (outcomes : List Outcome) : Type 0 where
  pub first : Outcome
  pub there : slice_get outcomes (length (first_replies outcomes)) ≡ Some first
  pub refused : IfNone first.late (WasRefused history (highest low (replies_in (of_session first.line.session outcomes))) first.line.command)

-- What a pass knows of faults behind a phase, and by why the phase stopped, if it did: of one where the disk failed at the first line without a reply, and that line asked
-- for something to be written. It told none where all lines were answered; nor where all are of one session, and it wasn't the disk that failed there.
pub record KnowsFaults (old new : KnownPass) (outcomes : List Outcome) (why : Option LineError) : Type 0 where
  pub knows : why ≡ Some DiskFault → 1 ≤ new.view.least.failed
  pub failed : why ≡ Some DiskFault → (items : List LogItem) → MayBecome new items → FailsAt (history_of items) old.view.least.durable outcomes
  pub calm : AreAnswered outcomes → new.view.faults ≡ old.view.faults
  pub alone : AreOfOne (outcomes ∷ []) → (why ≡ Some DiskFault → ⊥) → new.view.faults ≡ old.view.faults

-- how many transactions were placed for lines
abbrev pub count_in : List Outcome → ℕ
count_in outcomes = length (flat_map numbers_in outcomes)

-- What more is known of a pass where its lines alone placed and linked anything, from these numbers on: so many transactions were durable, and so many leaves
-- linked, to which it added so many. It knows of each leaf, and each transaction that it was told; and where it knows of no other leaf, and of no transaction that
-- isn't its own, the floor is exact, and each was placed over just the floor.
pub record RunsAlone (low floor leaves : ℕ) (new : KnownPass) (outcomes : List Outcome) : Type 0 where
  pub slack : floor + leaves ≤ new.view.least.linked
  pub risen : AreAnswered outcomes → low + count_in outcomes ≤ new.view.least.durable
  pub placed : (items : List LogItem) → MayBecome new items → (most : ℕ) → new.view.least.durable ≤ most → All (λ n. n ≤ most) (flat_map numbers_in outcomes) → low + count_in outcomes ≤ most
  pub exact : AreAnswered outcomes → new.view.least.linked ≡ floor + leaves → new.view.least.durable ≤ low + count_in outcomes → floor_after floor (replies_in outcomes) ≡ new.view.least.linked
  pub just : new.view.least.linked ≡ floor + leaves → new.view.least.durable ≤ low + count_in outcomes → (items : List LogItem) → MayBecome new items
      → All (λ n. n ≤ low + count_in outcomes) (flat_map numbers_in outcomes) → All (IsJustOver (history_of items)) (floors_of floor outcomes)

-- so it is between two moments of a pass
abbrev pub RanAlone : KnownPass → KnownPass → List Outcome → Type 0
RanAlone old new outcomes =
    (leaves : ℕ) × (new.view.leaves ≡ old.view.leaves + leaves) × RunsAlone old.view.least.durable old.view.least.linked leaves new outcomes

-- One phase, of these lines. What is said of a list is said of each that the one list may have grown to.
pub record IsPlayed (hash : Hash) (links : Bool) (old new : KnownPass) (lines : List Line) (outcomes : List Outcome) : Type 0 where
  pub grown : HasGrown old new
  pub lines_are : map line_in outcomes ≡ lines
  pub each : (items : List LogItem) → MayBecome new items → IsPhase hash old.view.least.durable old.view.least.linked (history_of items) outcomes
  pub again : (items : List LogItem) → MayBecome new items → AreReadBack hash (history_of items) (replies_in outcomes)
  pub most : All (λ a. a.number ≤ new.view.least.durable) (replies_in outcomes)
  pub reached : All (λ o. floor_reached old.view.least.linked outcomes o ≤ new.view.least.linked) outcomes
  pub own : (k : ℕ) → times k new.view.own ≡ times k old.view.own + times_in k outcomes
  pub alone : links ≡ false → AreOfOne (outcomes ∷ []) → RanAlone old new outcomes

-- where phases have come to: behind how many transactions, and over a tree of which size
abbrev pub low_after : ℕ → List (List Outcome) → ℕ
low_after low [] = low
low_after low (outcomes ∷ phases) = low_after (next_low low outcomes) phases

abbrev pub floor_behind : ℕ → List (List Outcome) → ℕ
floor_behind floor [] = floor
floor_behind floor (outcomes ∷ phases) = floor_behind (next_floor floor outcomes) phases

-- the phases played so far, from the first moment of the pass that takes all others in
pub record AreSoFar (hash : Hash) (links : Bool) (first now : KnownPass) (script : List (List Line)) (phases : List (List Outcome)) : Type 0 where
  pub grown : HasGrown first now
  pub lines_are : lines_in phases ≡ script
  pub each : (items : List LogItem) → MayBecome now items → ArePhases hash first.view.least.durable first.view.least.linked (history_of items) phases
  pub again : (items : List LogItem) → MayBecome now items → All (λ outcomes. AreReadBack hash (history_of items) (replies_in outcomes)) phases
  pub most : All (λ outcomes. All (λ a. a.number ≤ now.view.least.durable) (replies_in outcomes)) phases
  pub ran : AreAllButLast phases
  pub low : low_after first.view.least.durable phases ≤ now.view.least.durable
  pub floor : floor_behind first.view.least.linked phases ≤ now.view.least.linked
  pub own : (k : ℕ) → times k now.view.own ≡ times k first.view.own + sum_by (times_in k) phases
  pub alone : links ≡ false → AreOfOne phases → RanAlone first now (flat_map (λ outcomes. outcomes) phases)
