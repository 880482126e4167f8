-- What a single session comes to where lines alone link, told as of one list of lines.
use Rattle.std.specs.Prelude.{◌≡◌, ◌⊎◌, ◌≤◌, ◌++◌, ℕ, List, [], ◌∷◌, length, take, drop, None}
use Rattle.std.specs.List.{flat_map}
use Rattle.im_digest.specs.Digests.{Hash}
use Rattle.im_model.specs.declared.transactions.Transaction.{Transaction}
use Rattle.im_report.specs.Asking.{MayAsk}
use Rattle.im_report.specs.Outcomes.{Outcome, highest}
use Rattle.im_report.specs.Report.{Answered, Report, floor_after}
use Rattle.im_report.specs.Sessions.{lines_in, phases_text, replies_in}
use Rattle.im_script.specs.Script.{lines_of}
use Rattle.im_tx.specs.Asked.{Asked}
use Rattle.im_script.specs.declared.commands.Line.{Line}
use Rattle.im_versions.specs.Admits.{place_refusal}

-- the replies of all phases
abbrev pub all_replies : List (List Outcome) → List Answered
all_replies phases = flat_map replies_in phases

-- One transaction was placed behind the history for the next line, which has no reply, over just the tree that the lines before it had linked. It has what the line asks
-- for, where it is a statement by what it read, no fewer transactions than were found and told.
pub record IsOneLate (h0 history : List Transaction) (answers : List Answered) (lines : List Line) (left : List Transaction) : Type 0 where
  pub line : Line
  pub others : List Line
  pub next : lines ≡ line ∷ others
  pub read : ℕ
  pub asked : Asked
  pub asks : MayAsk history read line.command asked
  pub least : highest (length h0) answers ≤ read
  pub within : read ≤ length history
  pub admitted : place_refusal history asked.pres ≡ None
  pub tx : Transaction
  pub one : left ≡ tx ∷ []
  pub writes : tx.entries ≡ asked.entries
  pub over : tx.bl ≡ floor_after (length h0) answers

-- The first lines of the script, phase behind phase, have the report of one session over one list; behind the history of that stands nothing, or the one
-- transaction of the next line.
pub record ReportsAlone (hash : Hash) (h0 h : List Transaction) (phases : List (List Outcome)) : Type 0 where
  pub history : List Transaction
  pub left : List Transaction
  pub split : h ≡ history ++ left
  pub report : Report hash h0 history (take (length (all_replies phases)) (lines_of (lines_in phases))) (phases_text phases)
  pub answers_are : report.answers ≡ all_replies phases
  pub late : (left ≡ []) ⊎ IsOneLate h0 history (all_replies phases) (drop (length (all_replies phases)) (lines_of (lines_in phases))) left
