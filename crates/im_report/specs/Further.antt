-- What the first transactions of a run's history keep of its first replies, and the transactions that these don't tell.
use Rattle.std.specs.Prelude.{◌≡◌, ◌≢◌, ◌<◌, ◌≤◌, ◌+◌, ◌-◌, ℕ, List, length, map, take, All, AllPairs, Some, slice_get}
use Rattle.std.specs.List.{flat_map, range_with_len}
use Rattle.im_digest.specs.Digests.{Hash}
use Rattle.im_model.specs.History.{transaction_of}
use Rattle.im_model.specs.declared.transactions.Transaction.{Transaction}
use Rattle.im_report.specs.Asking.{MayAsk}
use Rattle.im_report.specs.Outcomes.{Outcome, number_told}
use Rattle.im_report.specs.Report.{Answered, IsAnswer}
use Rattle.im_report.specs.Sessions.{first_replies, lines_in}
use Rattle.im_model.specs.Counts.{times}
use Rattle.im_script.specs.Script.{lines_of}
use Rattle.im_tx.specs.Asked.{Asked}
use Rattle.im_script.specs.declared.commands.Line.{Line}

-- the replies that were written
abbrev pub written_replies : List (List Outcome) → List Answered
written_replies phases = flat_map first_replies phases

-- the number that a reply tells of a transaction
abbrev pub number_of_reply : Answered → List ℕ
number_of_reply a = number_told (Some a)

-- of a transaction, and a line, by its place from 0 among all lines: behind so many, and asking for its entries, where it is a statement by what it read before
pub record IsOfLine (h : List Transaction) (phases : List (List Outcome)) (count : ℕ) (p : ℕ × ℕ) : Type 0 where
  pub behind : count ≤ p.1
  pub line : Line
  pub there : slice_get (lines_of (lines_in phases)) p.1 ≡ Some line
  pub read : ℕ
  pub asked : Asked
  pub asks : MayAsk h read line.command asked
  pub before : read < p.0
  pub writes : (transaction_of h p.0).entries ≡ asked.entries

-- The numbers of the transactions behind h0 are those that the first replies, so many, tell, and those of these pairs, each once; the lines of the pairs
-- stand behind those of the replies, and differ.
pub record AreFurther (h0 h : List Transaction) (phases : List (List Outcome)) (count : ℕ) : Type 0 where
  pub pairs : List (ℕ × ℕ)
  pub each : All (IsOfLine h phases count) pairs
  pub apart : AllPairs (λ p q. p.1 ≢ q.1) pairs
  pub all : (k : ℕ) → times k (flat_map number_of_reply (take count (written_replies phases))) + times k (map (λ p. p.0) pairs) ≡ times k (range_with_len (length h0 + 1) (length h - length h0))

-- A history keeps the first replies, so many: it begins with h0 and has the number of each, which is what the history says there; and each further
-- transaction has the entries of a line behind theirs, a different one for each.
pub record KeepsReplies (hash : Hash) (h0 h : List Transaction) (phases : List (List Outcome)) (count : ℕ) : Type 0 where
  pub begins : take (length h0) h ≡ h0
  pub told : All (λ a. a.number ≤ length h) (take count (written_replies phases))
  pub each : All (λ a. IsAnswer hash h a.line.command a.number a.reply) (take count (written_replies phases))
  pub further : AreFurther h0 h phases count
