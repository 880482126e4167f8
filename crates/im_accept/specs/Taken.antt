-- Which of a report's lines a client accepts, and in which state: each one that is a message.
use Rattle.std.specs.Prelude.{◌≡◌, ℕ, ◌<◌, ◌≤◌, List, ◌++◌, length, slice_index_or, true, false, All, Option, Some, None, codes}
use Rattle.std.specs.Fmt.{decimal}
use Rattle.im_digest.specs.Digests.{Hash}
use Rattle.im_model.specs.History.{header_of, transaction_of}
use Rattle.im_model.specs.declared.headers.Header.{Header as TheHeader}
use Rattle.im_model.specs.declared.transactions.Transaction.{Transaction}
use Rattle.im_text.specs.Fields.{IsSession}
use Rattle.im_wire.specs.Lines.{is_open, IsLine}
use Rattle.im_wire.specs.Texts.{text}
use Rattle.im_wire.specs.declared.messages.Message.{Message}
use Rattle.im_script.specs.declared.commands.Line.{Line}
use Rattle.im_script.specs.declared.commands.Command.{Command}
use Rattle.im_script.specs.declared.commands.Command.TheVariants.{Set, Get, Scan, History, Header, State, Prove, Advance, Item, Link, Sql}
use Rattle.im_proof.specs.Between.{no_entry}
use Rattle.im_report.specs.Report.{Answered}
use Rattle.im_client.specs.Lines.{state_with}
use Rattle.im_facts.specs.Facts.{Known, with_message}
use Rattle.im_facts.specs.Folds.{IsVerdict}
use Rattle.im_facts.specs.Verdicts.{Accepted}
use Rattle.im_facts.specs.declared.facts.EntryFact.{EntryFact}

-- the number of the transaction whose header a client keeps that the reply to a command at n is for, where
-- that reply can be a message
abbrev pub kept_number : Command → ℕ → Option ℕ
kept_number (Set pres drafts) n = None
kept_number (Get key at) n = None
kept_number (Scan prefix at) n = None
kept_number (History key) n = None
kept_number (Header k) n = None
kept_number State n = Some n
kept_number (Prove s t) n = Some t
kept_number (Advance s t) n = Some s
kept_number (Item t i None) n = Some n
kept_number (Item t i (Some s)) n = Some s
kept_number (Link count) n = None
kept_number (Sql text) n = None

-- the number of the transaction whose header it keeps behind that reply: an advance leads it on
abbrev pub next_number : Command → ℕ → ℕ
next_number (Set pres drafts) kept = kept
next_number (Get key at) kept = kept
next_number (Scan prefix at) kept = kept
next_number (History key) kept = kept
next_number (Header k) kept = kept
next_number State kept = kept
next_number (Prove s t) kept = kept
next_number (Advance s t) kept = t
next_number (Item t i under) kept = kept
next_number (Link count) kept = kept
next_number (Sql text) kept = kept

-- a header is that of its transaction in this history
pub record IsHeaderOf (hash : Hash) (history : List Transaction) (header : TheHeader) : Type 0 where
  pub some : 1 ≤ header.id
  pub within : header.id ≤ length history
  pub is : header ≡ header_of hash history header.id

-- an entry is that of its place in this history
pub record IsEntryOf (history : List Transaction) (fact : EntryFact) : Type 0 where
  pub some : 1 ≤ fact.tx
  pub within : fact.tx ≤ length history
  pub inside : fact.index < length (transaction_of history fact.tx).entries
  pub is : fact.entry ≡ slice_index_or (transaction_of history fact.tx).entries fact.index no_entry

-- all facts that a client keeps are facts of this history. Of its state and its messages nothing is said.
pub record HasFactsOf (hash : Hash) (history : List Transaction) (known : Known) : Type 0 where
  pub headers : All (IsHeaderOf hash history) known.headers
  pub entries : All (IsEntryOf history) known.entries

-- the state of a client that the reply to a command at n is for: it keeps the header of that number, or,
-- where it asks for the state, no header yet
abbrev pub HasStateFor : Hash → List Transaction → Command → ℕ → Option TheHeader → Type 0
HasStateFor hash history command n None = command ≡ State
HasStateFor hash history command n (Some header) = (k : ℕ) × (kept_number command n ≡ Some k) × (header ≡ header_of hash history k)

-- a client that the reply is for: it has that state, and what else it keeps are facts of this history
pub record IsFor (hash : Hash) (history : List Transaction) (command : Command) (n : ℕ) (known : Known) : Type 0 where
  pub state : HasStateFor hash history command n known.state
  pub facts : HasFactsOf hash history known

-- an answered line as a client is shown it: `<session> <n> <reply>`, without its LF
abbrev pub line_text : Answered → List ℕ
line_text a = a.line.session ++ codes " " ++ decimal a.number ++ codes " " ++ a.reply

-- The reply is the text of a message, for a kept header and a next one whose numbers were there at its number, and
-- each client that it is for accepts the line as that message, and keeps the next header behind it, and facts of this
-- history as before.
pub record IsAcceptedAnswer (hash : Hash) (history : List Transaction) (a : Answered) : Type 0 where
  pub kept : ℕ
  pub is_kept : kept_number a.line.command a.number ≡ Some kept
  pub some : 1 ≤ kept
  pub rises : kept ≤ next_number a.line.command kept
  pub within : next_number a.line.command kept ≤ a.number
  pub message : Message
  pub told : a.reply ≡ text message
  pub accepted : (known : Known) → IsFor hash history a.line.command a.number known
      → IsVerdict hash known (line_text a) (Accepted message)
  pub behind : (known : Known) → IsFor hash history a.line.command a.number known
      → (state_with known.state message ≡ Some (header_of hash history (next_number a.line.command kept))) × HasFactsOf hash history (with_message known message)

-- Each line whose reply begins as an object does, as the text of each message does, is taken; and any client
-- passes over every other one.
abbrev pub AreAcceptedAnswers : Hash → List Transaction → List Answered → Type 0
AreAcceptedAnswers hash history answers =
    All (λ a. (is_open a.reply ≡ true → IsAcceptedAnswer hash history a) × (is_open a.reply ≡ false → IsLine (line_text a) None)) answers

-- each line has a session's name
abbrev pub HaveSessions : List Line → Type 0
HaveSessions lines = All (λ line. IsSession line.session) lines
