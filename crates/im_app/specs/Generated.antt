-- What `gen` writes.
use Rattle.std.specs.Prelude.{◌≡◌, ◌<◌, ℕ, List, [], length, take, pos, All, Option, Some}
use Rattle.std.specs.Io.KnownBytes.{Appends}
use Rattle.im_digest.specs.Digests.{Hash}
use Rattle.im_disk.specs.Disk.{Told, seen}
use Rattle.im_format.specs.Standing.{Stands}
use Rattle.im_model.specs.declared.transactions.Transaction.{Transaction}
use Rattle.im_script.specs.Script.{lines_of}
use Rattle.im_script.specs.declared.commands.Line.{Line}
use Rattle.im_report.specs.Report.{Report, floor_after}
use Rattle.im_facts.specs.Verdicts.{Verdict}
use Rattle.im_verify.specs.Judged.{IsVerified, NoneForked, NoneRefused, kept_texts, up_to_fork}
use Rattle.im_session.specs.Served.{HasTime}
use Rattle.im_gen.specs.Generator.{accepted_of, linked_of, placed_of, script_text, told_line}
use Rattle.im_status.specs.Numbers.{last_alh}
use Rattle.im_status.specs.Scripts.{IsGiven}
use Rattle.im_app.specs.Runs.{HasOneSession}

-- These octets are what was written for a script, at time 0 and from nothing, to a history for which reads of a disk stand now: where its lines
-- are all of one session, its report.
pub record IsReported (hash : Hash) (script octets : List ℕ) (now : Told) : Type 0 where
  pub phases : List (List Line)
  pub given : IsGiven script phases
  pub history : List Transaction
  pub report : HasOneSession phases → Report hash [] history (lines_of phases) octets
  pub timed : All (HasTime (Some (pos 0))) history
  pub stands : Stands hash (seen now) history

-- The line tells of the script of n lines: that this history is the one to which the script leads from nothing at time 0,
-- that it has as many transactions as the line says, and the tree behind the lines of the report as well, and that a client
-- that knows nothing accepts as many lines of the report, and neither refuses nor forks one.
pub record IsGenerated (hash : Hash) (n : ℕ) (line : List ℕ) : Type 0 where
  pub phases : List (List Line)
  pub given : IsGiven (script_text n) phases
  pub octets : List ℕ
  pub history : List Transaction
  pub report : Report hash [] history (lines_of phases) octets
  pub timed : All (HasTime (Some (pos 0))) history
  pub many : length history ≡ placed_of n
  pub linked : floor_after 0 report.answers ≡ linked_of n
  pub verdicts : List Verdict
  pub judged : IsVerified hash [] octets verdicts
  pub none : NoneRefused verdicts × NoneForked verdicts
  pub accepted : length (kept_texts (up_to_fork verdicts)) ≡ accepted_of n
  pub told : line ≡ told_line n (last_alh hash history)

-- that line was written, and nothing else
pub record WritesGenerated (hash : Hash) (n : ℕ) (before now : Option (List ℕ)) : Type 0 where
  pub line : List ℕ
  pub is : IsGenerated hash n line
  pub whole : Appends before now line

-- a front part of it, not all of it, and nothing else
pub record WritesGeneratedPart (hash : Hash) (n : ℕ) (before now : Option (List ℕ)) : Type 0 where
  pub line : List ℕ
  pub is : IsGenerated hash n line
  pub count : ℕ
  pub less : count < length line
  pub part : Appends before now (take count line)
