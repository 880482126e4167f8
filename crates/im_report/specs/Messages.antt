-- The message that a command asks for, and what it is read as.
use Rattle.std.specs.Prelude.{◌≡◌, ℕ, List, length, map, slice_index_or, take, true, All, Option, Some, None, IfSome}
use Rattle.im_digest.specs.Digests.{Hash}
use Rattle.im_model.specs.Entries.{entry_digest}
use Rattle.im_model.specs.History.{header_of, transaction_of}
use Rattle.im_model.specs.declared.transactions.Transaction.{Transaction}
use Rattle.im_proof.specs.Built.{path_of}
use Rattle.im_wire.specs.Lines.{is_open}
use Rattle.im_wire.specs.Messages.{HasMessage}
use Rattle.im_wire.specs.declared.messages.Message.{Message}
use Rattle.im_wire.specs.declared.messages.Message.TheVariants as says
use Rattle.im_script.specs.declared.commands.Command.{Command}
use Rattle.im_script.specs.declared.commands.Command.TheVariants.{Set, Get, Scan, History, Header, State, Prove, Advance, Item, Link, Sql}
use Rattle.im_proof.specs.Between.{anchor_between, dual_between, no_entry}
use Rattle.im_report.specs.Report.{Answered}

-- entry i of transaction t, with its path there and the dual proof from t to s
abbrev pub item_between : Hash → List Transaction → ℕ → ℕ → ℕ → Message
item_between hash history t i s =
    let entries = (transaction_of history t).entries in
    says.Item (dual_between hash history t s) (slice_index_or entries i no_entry) i (path_of hash (map (entry_digest hash) entries) i)

-- the message that a command asks for behind these transactions, or none
abbrev pub message_at : Hash → List Transaction → Command → Option Message
message_at hash history (Set pres drafts) = None
message_at hash history (Get key at) = None
message_at hash history (Scan prefix at) = None
message_at hash history (History key) = None
message_at hash history (Header k) = None
message_at hash history State = Some (says.State (header_of hash history (length history)))
message_at hash history (Prove s t) = Some (says.Dual (dual_between hash history s t))
message_at hash history (Advance s t) = Some (says.Advance (dual_between hash history s t) (anchor_between hash history s t))
message_at hash history (Item t i None) = Some (item_between hash history t i (length history))
message_at hash history (Item t i (Some s)) = Some (item_between hash history t i s)
message_at hash history (Link count) = None
message_at hash history (Sql text) = None

-- a reply that begins as an object does, and so is no refusal, is read as the message that was asked for
abbrev pub IsReadBack : Hash → List Transaction → Command → List ℕ → Type 0
IsReadBack hash history command reply = IfSome (message_at hash history command) (λ m. is_open reply ≡ true → HasMessage reply m)

-- each reply is read as the message that was asked for at its number, where it is one
abbrev pub AreReadBack : Hash → List Transaction → List Answered → Type 0
AreReadBack hash history answers = All (λ a. IsReadBack hash (take a.number history) a.line.command a.reply) answers
