-- What a script made of a store, and of a disk.
use Rattle.std.specs.Prelude.{◌≡◌, ◌≤◌, ◌++◌, ℕ, ℤ, List, [], length, drop, map, Bool, All, Option, IfSome, Result, Ok, Err}
use Rattle.im_dealing.specs.Scripts.{FailsIn, WritesPhases}
use Rattle.im_dealing.specs.declared.errors.LineError.{LineError}
use Rattle.im_dealing.specs.declared.errors.LineError.TheVariants as line
use Rattle.im_dealing.specs.declared.errors.Stopped.{Stopped}
use Rattle.im_dealing.specs.declared.errors.Stopped.TheVariants as stops
use Rattle.im_report.specs.Messages.{AreReadBack}
use Rattle.im_disk.specs.Disk.{Told, seen}
use Rattle.im_disk.specs.Moments.{Leaves, LeavesNow}
use Rattle.im_edge.specs.Clocks.{AddsTimes}
use Rattle.im_format.specs.Standing.{Stands, StandsFrom}
use Rattle.im_model.specs.declared.transactions.Transaction.{Transaction}
use Rattle.im_report.specs.Outcomes.{Outcome}
use Rattle.im_report.specs.Sessions.{AreOfOne, SessionsReport, lines_in, replies_in}
use Rattle.im_script.specs.declared.commands.Line.{Line}
use Rattle.im_seated_journal.specs.Calls.{MakesBatches, StandsPut}
use Rattle.im_seated_journal.specs.Seats.{RoseBy}
use Rattle.im_sqlmodel.specs.Kept.{IsSqlKept}
use Rattle.im_store.specs.Names.{Naming}
use Rattle.im_table.specs.Histories.{history_of}

-- a transaction has the clock's time, where the clock tells it
abbrev pub HasTime : Option ℤ → Transaction → Type 0
HasTime constant tx = IfSome constant (λ time. tx.ts ≡ time)

-- the clock was asked once for each of these transactions, in order, and for nothing else, where it tells the times that it gave: each transaction has
-- the one that was given for it
abbrev pub AskedFor : List Transaction → Option (List ℤ) → Option (List ℤ) → Type 0
AskedFor txs before now = AddsTimes before now (map (λ (tx : Transaction). tx.ts) txs)

-- What a script came to, as far as its phases were run: all of them where it ended well. The phases' report is that of one history, from what was found to
-- what was placed, whose keys that begin with octet 00 are SQL's, and each message in it is read as the one that was asked for. Each image of the disk now stands for a front part of that history, which holds
-- the number of each reply; and since the opening's first sync each image of each moment stood for one that holds what was found. Where each line that was run
-- was answered, each image now stands for the whole history, and so does what reads give, the values put by the rule. The clock was asked
-- once for each transaction that was placed, in order, and for nothing else. The disk got the calls of batches of these transactions, in order, and no other
-- call that changes it, and has failed at least once where a line tells a fault of it; and that line asked for something, which was placed, or refused behind no fewer
-- than it read.
pub record Serves {D : Type 0} (told : D → Option Told) (faults : D → ℕ) (links : Bool) (n : Naming) (script : List (List Line)) (written_before written_now : Option (List ℕ)) (sink_before sink_now : ℕ)
    (disk : D) (constant : Option ℤ) (given : Option (List ℤ)) (end : Result Unit Stopped) : Type 0 where
  pub phases : List (List Outcome)
  pub unrun : List (List Line)
  pub script_is : script ≡ lines_in phases ++ unrun
  pub all : end ≡ Ok tt → unrun ≡ []
  pub history : List Transaction
  pub report : SessionsReport n.digest links (history_of n.found) history phases
  pub kept : IsSqlKept history
  pub again : All (λ outcomes. AreReadBack n.digest history (replies_in outcomes)) phases
  pub wrote : WritesPhases phases written_before written_now sink_before sink_now end
  pub durable : ℕ
  pub within : durable ≤ length history
  pub told_durable : All (λ outcomes. All (λ a. a.number ≤ durable) (replies_in outcomes)) phases
  pub images : LeavesNow (StandsFrom n.digest durable history) (told disk)
  pub moments : Leaves (StandsFrom n.digest (length n.found) history) n.synced (told disk)
  pub same : constant ≡ n.time
  pub timed : All (HasTime n.time) (drop (length n.found) history)
  pub asked : AskedFor (drop (length n.found) history) n.given given
  pub whole : ((why : LineError) → end ≡ Err (stops.Line why) → ⊥) → LeavesNow (λ image. Stands n.digest image history) (told disk)
  pub here : ((why : LineError) → end ≡ Err (stops.Line why) → ⊥) → IfSome (told disk) (λ t. StandsPut n.digest n.logs (length n.found) history (seen t))
  pub calls : MakesBatches n.digest n.logs (length n.found) durable history n.synced (told disk)
  pub fault : end ≡ Err (stops.Line line.DiskFault) → RoseBy n.faults (faults disk) 1
  pub failed : end ≡ Err (stops.Line line.DiskFault) → FailsIn history (length n.found) phases
  pub unharmed : ((why : LineError) → end ≡ Err (stops.Line why) → ⊥) → faults disk ≡ n.faults
  pub unharmed_alone : AreOfOne phases → (end ≡ Err (stops.Line line.DiskFault) → ⊥) → faults disk ≡ n.faults
