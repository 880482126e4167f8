-- What one line does to the pass of its session.
use Rattle.std.specs.Prelude.{◌≡◌, ◌≤◌, ◌+◌, ◌++◌, ℕ, List, length, take, IsTrue, IfNone, IfSome, Option, Some}
use mathlib.Core.List.{IsPrefix}
use Rattle.im_dealing.specs.declared.errors.LineError.{LineError}
use Rattle.im_dealing.specs.declared.errors.LineError.TheVariants.{DiskFault, Memory}
use Rattle.im_digest.specs.Digests.{Hash}
use Rattle.im_report.specs.Messages.{IsReadBack}
use Rattle.im_model.specs.History.{transaction_of, IsHistory}
use Rattle.im_model.specs.declared.transactions.Transaction.{Transaction}
use Rattle.im_report.specs.Asking.{MayAsk}
use Rattle.im_model.specs.Counts.{number_or_none}
use Rattle.im_report.specs.Outcomes.{IsLate, IsOver, Rises, number_told}
use Rattle.im_report.specs.Report.{Answered, IsAnswer, ReadsFrom, floor_by, is_placed}
use Rattle.im_script.specs.declared.commands.Command.{Command}
use Rattle.im_script.specs.declared.commands.Command.TheVariants.{Set, Get, Scan, History, Header, State, Prove, Advance, Item, Link, Sql}
use Rattle.im_script.specs.declared.commands.Line.{Line}
use Rattle.im_table.specs.Histories.{history_of}
use Rattle.im_table.specs.Known.{KnownPass}
use Rattle.im_table.specs.declared.items.LogItem.{LogItem}
use Rattle.im_tx.specs.Asked.{Asked}
use Rattle.im_versions.specs.Admits.{place_refusal}
use Rattle.im_versions.specs.declared.refusals.PlaceError.{PlaceError}

-- a list that the one list may have grown to, as far as the pass knows
pub record MayBecome (p : KnownPass) (items : List LogItem) : Type 0 where
  pub begins : IsPrefix p.view.seen items
  pub enough : p.view.least.durable ≤ length items
  pub history : IsHistory (history_of items)

-- A line was answered between two moments of its session's pass. What is said of a list is said of each that the list may have grown to. Nothing that
-- was linked is missed: where the pass knows of no leaf that it didn't link, and of no transaction that it didn't place, the floor is exact.
pub record IsStep (hash : Hash) (old new : KnownPass) (a : Answered) : Type 0 where
  pub answer : (items : List LogItem) → MayBecome new items → IsAnswer hash (history_of items) a.line.command a.number a.reply
  pub again : (items : List LogItem) → MayBecome new items → IsReadBack hash (take a.number (history_of items)) a.line.command a.reply
  pub rises : Rises old.view.least.durable a
  pub reads : ReadsFrom old.view.least.durable a
  pub known : a.number ≤ new.view.least.durable
  pub own : new.view.own ≡ old.view.own ++ number_told (Some a)
  pub over : IsTrue (is_placed a) → (items : List LogItem) → MayBecome new items → IsOver (history_of items) (a.number, old.view.least.linked)
  pub under : IsTrue (is_placed a) → (items : List LogItem) → MayBecome new items → (transaction_of (history_of items) a.number).bl ≤ new.view.least.linked
  pub floor : floor_by a.line.command a.number old.view.least.linked ≤ new.view.least.linked
  pub calm : new.view.faults ≡ old.view.faults
  pub linked_none : IsTrue (is_placed a) → new.view.leaves ≡ old.view.leaves
  pub slack : old.view.least.linked + new.view.leaves ≤ new.view.least.linked + old.view.leaves
  pub just : new.view.least.linked + old.view.leaves ≡ old.view.least.linked + new.view.leaves
      → new.view.least.durable ≡ old.view.least.durable + length (number_told (Some a))
      → floor_by a.line.command a.number old.view.least.linked ≡ new.view.least.linked

-- where the disk failed the pass knows of a failure since the store was opened; where memory ran out it told none
abbrev pub KnowsFault : LineError → KnownPass → KnownPass → Type 0
KnowsFault DiskFault old new = 1 ≤ new.view.least.failed
KnowsFault Memory old new = new.view.faults ≡ old.view.faults

-- A line asks for something to be written, a statement by what it read, no fewer transactions than these; and that was refused behind so many, no fewer than it read.
pub record WasRefused (history : List Transaction) (low : ℕ) (command : Command) : Type 0 where
  pub read : ℕ
  pub asked : Asked
  pub asks : MayAsk history read command asked
  pub least : low ≤ read
  pub at : ℕ
  pub behind : read ≤ at
  pub within : at ≤ length history
  pub why : PlaceError
  pub refused : place_refusal (take at history) asked.pres ≡ Some why

-- A line has no reply. At most one transaction was placed for it all the same, and then it linked nothing. Where the disk failed and none was placed, what the line
-- asks for was refused, behind no fewer transactions than it read.
pub record IsStuck (old new : KnownPass) (line : Line) (why : LineError) : Type 0 where
  pub fault : KnowsFault why old new
  pub late : Option ℕ
  pub own : new.view.own ≡ old.view.own ++ number_or_none late
  pub tx : IfSome late (λ n. (items : List LogItem) → MayBecome new items → IsLate (history_of items) old.view.least.durable old.view.least.linked line.command n)
  pub under : IfSome late (λ n. (items : List LogItem) → MayBecome new items → (transaction_of (history_of items) n).bl ≤ new.view.least.linked)
  pub still : IfSome late (λ n. new.view.leaves ≡ old.view.leaves)
  pub refused : why ≡ DiskFault → IfNone late ((items : List LogItem) → MayBecome new items → WasRefused (history_of items) old.view.least.durable line.command)
  pub slack : old.view.least.linked + new.view.leaves ≤ new.view.least.linked + old.view.leaves

-- a command that places and links nothing
abbrev pub IsShowing : Command → Type 0
IsShowing (Set pres drafts) = ⊥
IsShowing (Get key at) = Unit {0}
IsShowing (Scan prefix at) = Unit {0}
IsShowing (History key) = Unit {0}
IsShowing (Header k) = Unit {0}
IsShowing State = Unit {0}
IsShowing (Prove s t) = Unit {0}
IsShowing (Advance s t) = Unit {0}
IsShowing (Item t i under) = Unit {0}
IsShowing (Link count) = ⊥
IsShowing (Sql text) = ⊥
