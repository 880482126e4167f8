-- What a run did.
use Rattle.std.specs.Prelude.{◌≡◌, ◌⊎◌, ◌≤◌, ◌++◌, ℤ, ℕ, List, [], length, take, drop, map, Bool, true, false, All, Option, Some, IfSome, Ok, Err}
use Rattle.im_dealing.specs.Scripts.{FailsIn, WritesPhases}
use Rattle.im_dealing.specs.declared.errors.LineError.{LineError}
use Rattle.im_dealing.specs.declared.errors.LineError.TheVariants as line
use Rattle.im_dealing.specs.declared.errors.Stopped.TheVariants as stops
use Rattle.im_digest.specs.Digests.{Hash}
use Rattle.im_accept.specs.Taken.{AreAcceptedAnswers, line_text}
use Rattle.im_disk.specs.Disk.{Files, Told, after, seen}
use Rattle.im_disk.specs.Moments.{Leaves, LeavesNow}
use Rattle.im_disk.specs.declared.calls.Call.TheVariants.{Missed, Synced}
use Rattle.im_format.specs.Batches.{gate_of}
use Rattle.im_format.specs.Standing.{Stands, StandsFrom}
use Rattle.im_model.specs.declared.transactions.Transaction.{Transaction}
use Rattle.im_opening.specs.Cut.{IsOpenedBy, WasBegun, WasOpened}
use Rattle.im_opening.specs.declared.errors.OpenError.{OpenError}
use Rattle.im_opening.specs.declared.errors.OpenError.TheVariants as opened
use Rattle.im_report.specs.Outcomes.{Outcome}
use Rattle.im_report.specs.Sessions.{SessionsReport, first_replies, lines_in, phase_text, replies_in}
use Rattle.im_script.specs.Script.{lines_of}
use Rattle.im_script.specs.declared.commands.Line.{Line}
use Rattle.im_seated_journal.specs.Calls.{MakesBatches, StandsPut}
use Rattle.im_session.specs.Served.{AskedFor, HasTime}
use Rattle.im_sqlmodel.specs.Kept.{IsFirstUnsound, IsSqlKept}
use Rattle.im_text.specs.Lines.{AreTexts}
use Rattle.im_words.specs.declared.Link.{Link}
use Rattle.im_words.specs.declared.Link.TheVariants.{Auto, Manual}
use Rattle.im_status.specs.Scripts.{IsGiven}

-- all lines of a script are of one session
abbrev pub HasOneSession : List (List Line) → Type 0
HasOneSession phases = (name : List ℕ) × All (λ line. line.session ≡ name) (lines_of phases)

-- a linker runs beside the sessions, or lines alone link
abbrev pub has_linker : Link → Bool
has_linker Auto = true
has_linker Manual = false

-- The changing calls that a run made, in order, and no other. Where the disk told something before, opening made a sync,
-- and closed the gate behind the batches that were found where it was missing or cut off: a write and a sync more. From
-- there on those of the batches of the new transactions that are durable were made, one or more transactions in each, and behind them those of a
-- last batch as far as they came, and the one that failed, if one did.
pub record MakesRun (hash : Hash) (logs n durable : ℕ) (history : List Transaction) (before now : Option Told) : Type 0 where
  pub opened : Option Told
  pub sessions : MakesBatches hash logs n durable history opened now
  pub opening : IfSome before (λ t. IsOpenedBy (gate_of (length sessions.first)) t opened)

-- What a run of a script came to, as far as its phases were run, at the clock's time where it tells one: one history, which begins with the one
-- that the disk was found with, and after each transaction of which the keys that begin with octet 00 are SQL's. Of each line that was answered
-- the reply is what that history says at the number before it, or, of a statement that writes, at the number that it tells to have read; of
-- each phase, what is written is its replies before the first line without one, in the script's order, and cut at each LF they are those answered lines.
-- Each reply that is a message is accepted by every client that it is for: a state by one that keeps none or that very header, an
-- advance by one that keeps its source, a dual proof and an item by one that keeps its target. Behind an advance that client keeps
-- its target. Every other line is passed over.
-- Each image that a crash may leave of the disk now stands for the first transactions of the history, as many at least as the number of
-- each reply; and at each moment since the first sync each image stood for the first transactions of it, those that were found among them.
-- The disk got a sync, the closing of the gate where it was missing or cut off, and the calls of batches of the new transactions, in
-- order; and no other call that changes it. The clock was asked once for each transaction that was placed, in order, and for nothing
-- else: each has the time that was given for it, where the clock tells its times.
pub record IsReport (hash : Hash) (constant : Option ℤ) (logs : ℕ) (link : Link) (script : List ℕ) (before now : Option Told) (times_before times_now : Option (List ℤ)) : Type 0 where
  pub lines : List (List Line)
  pub given : IsGiven script lines
  pub found : List Transaction
  pub found_is : IfSome before (λ t. Stands hash (seen t) found)
  pub phases : List (List Outcome)
  pub unrun : List (List Line)
  pub lines_are : lines ≡ lines_in phases ++ unrun
  pub history : List Transaction
  pub report : SessionsReport hash (has_linker link) found history phases
  pub kept : IsSqlKept history
  pub timed : All (HasTime constant) (drop (length found) history)
  pub texts : All (λ outcomes. AreTexts (phase_text outcomes) (map line_text (first_replies outcomes))) phases
  pub taken : All (λ outcomes. AreAcceptedAnswers hash history (replies_in outcomes)) phases
  pub asked : AskedFor (drop (length found) history) times_before times_now
  pub durable : ℕ
  pub within : durable ≤ length history
  pub told_durable : All (λ outcomes. All (λ a. a.number ≤ durable) (replies_in outcomes)) phases
  pub images : LeavesNow (StandsFrom hash durable history) now
  pub moments : IfSome before (λ t. Leaves (StandsFrom hash (length found) history) (Some (after Synced t)) now)
  pub calls : MakesRun hash logs (length found) durable history before now

-- All phases were run, all lines answered, and their replies written, and nothing else. Each image stands for the whole history, and so
-- does what reads give, where the values of each new transaction are put over so many value logs.
pub record WritesReport (hash : Hash) (constant : Option ℤ) (logs : ℕ) (link : Link) (source : Option (List ℕ)) (before now : Option Told) (times_before times_now : Option (List ℤ)) (sink_before sink_now : Option (List ℕ)) (faults_before faults_now : ℕ) : Type 0 where
  pub script : List ℕ
  pub script_is : IfSome source (λ octets. octets ≡ script)
  pub report : IsReport hash constant logs link script before now times_before times_now
  pub all : report.unrun ≡ []
  pub wrote : WritesPhases report.phases sink_before sink_now faults_before faults_now (Ok tt)
  pub whole : LeavesNow (λ image. Stands hash image report.history) now
  pub here : IfSome now (λ t. StandsPut hash logs (length report.found) report.history (seen t))

-- The sink failed at the replies of a phase whose lines were all answered: those of the phases before were written whole, a front part of these, not all
-- of them, and nothing else; and no further phase was run. Each image stands for the whole history, and so
-- does what reads give, where the values of each new transaction are put over so many value logs.
pub record WritesPart (hash : Hash) (constant : Option ℤ) (logs : ℕ) (link : Link) (source : Option (List ℕ)) (before now : Option Told) (times_before times_now : Option (List ℤ)) (sink_before sink_now : Option (List ℕ)) (faults_before faults_now : ℕ) : Type 0 where
  pub script : List ℕ
  pub script_is : IfSome source (λ octets. octets ≡ script)
  pub report : IsReport hash constant logs link script before now times_before times_now
  pub wrote : WritesPhases report.phases sink_before sink_now faults_before faults_now (Err stops.Write)
  pub whole : LeavesNow (λ image. Stands hash image report.history) now
  pub here : IfSome now (λ t. StandsPut hash logs (length report.found) report.history (seen t))

-- A line got no reply: the replies of the phases before were written whole, those of its phase before the first such line, or a front part of them, not all,
-- where the sink failed, and nothing else; and no further phase was run. Where the disk failed there, the line asks for something to be written, which was placed all the same, or refused.
pub record WritesFront (hash : Hash) (constant : Option ℤ) (logs : ℕ) (link : Link) (why : LineError) (source : Option (List ℕ)) (before now : Option Told) (times_before times_now : Option (List ℤ)) (sink_before sink_now : Option (List ℕ)) (faults_before faults_now : ℕ) : Type 0 where
  pub script : List ℕ
  pub script_is : IfSome source (λ octets. octets ≡ script)
  pub report : IsReport hash constant logs link script before now times_before times_now
  pub wrote : WritesPhases report.phases sink_before sink_now faults_before faults_now (Err (stops.Line why))
  pub failed : why ≡ line.DiskFault → FailsIn report.history (length report.found) report.phases

-- the source gave a script of the grammar, within the limit, to its end, where it tells
pub record GivesScript (before now : Option (List ℕ)) : Type 0 where
  pub script : List ℕ
  pub script_is : IfSome before (λ octets. octets ≡ script)
  pub phases : List (List Line)
  pub given : IsGiven script phases
  pub emptied : IfSome before (λ octets. now ≡ Some [])

-- the error of opening that ends a run as this one does
abbrev pub opening_error : LineError → OpenError
opening_error line.DiskFault = opened.DiskFault
opening_error line.Memory = opened.Memory

-- A disk whose reads gave an image that stands for a history got the calls of opening as far as they came, and no other
-- that changes it: a sync, and the closing of the gate behind its batches where it was missing or cut off. Where the disk
-- failed the last of them failed, or the sync alone was made, and where memory ran out none failed. Once the sync had
-- succeeded, at every moment each image has stood for that history.
abbrev pub LeavesFound : Hash → LineError → Option Told → Option Told → Type 0
LeavesFound hash why before now =
    (t : Told) (found : List Transaction) → before ≡ Some t → (stands : Stands hash (seen t) found)
    → WasOpened hash found t now × WasBegun (opening_error why) (gate_of (length stands.batches)) t now

-- A disk whose files stand for a history was opened, and nothing else was done to it: this is the first transaction after which the history's keys that begin with
-- octet 00 aren't SQL's. It got the calls of opening, and at every moment since the first sync each image has stood for that history.
pub record FindsUnkept (hash : Hash) (before now : Option Told) (tx : ℕ) : Type 0 where
  pub found : List Transaction
  pub stands : IfSome before (λ t. Stands hash (seen t) found)
  pub first : IsFirstUnsound found tx
  pub moments : IfSome before (λ t. Leaves (λ image. Stands hash image found) (Some (after Synced t)) now)
  pub calls : (t : Told) → before ≡ Some t → (stands : Stands hash (seen t) found) → IsOpenedBy (gate_of (length stands.batches)) t now

-- the image stands for a history that begins with this one
pub record ContinuesHistory (hash : Hash) (found : List Transaction) (image : Files) : Type 0 where
  pub history : List Transaction
  pub stands : Stands hash image history
  pub begins : take (length found) history ≡ found

-- What a run did to a disk whose reads gave an image that stands for a history: nothing; a sync that failed, and
-- nothing else; or, once a sync had succeeded, at every moment each image has stood for a history that begins with it.
abbrev pub KeepsFound : Hash → List Transaction → Told → Option Told → Type 0
KeepsFound hash found t now =
    (now ≡ Some t) ⊎ ((now ≡ Some (after Missed t)) ⊎ Leaves (ContinuesHistory hash found) (Some (after Synced t)) now)
