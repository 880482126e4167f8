-- What a command asks to be placed.
use Rattle.std.specs.Prelude.{◌≡◌, ℕ, List, map}
use Rattle.im_draft.specs.Drafts.{entry_of, AreEntries, AreFree}
use Rattle.im_model.specs.declared.transactions.Transaction.{Transaction}
use Rattle.im_tx.specs.Asked.{Asked}
use Rattle.im_script.specs.declared.commands.Command.{Command}
use Rattle.im_script.specs.declared.commands.Command.TheVariants.{Set, Get, Scan, History, Header, State, Prove, Advance, Item, Link, Sql}
use Rattle.im_report.specs.Statements.{AsksToWrite}

-- A `set` or `del` whose drafts are entries of a transaction, none with a key that begins with the octet 00, asks for these; a statement of SQL for what it
-- asks behind so many transactions. No other command asks for anything.
abbrev pub MayAsk : List Transaction → ℕ → Command → Asked → Type 0
MayAsk history read (Set pres drafts) asked = AreFree drafts × AreEntries drafts × (asked.entries ≡ map entry_of drafts) × (asked.pres ≡ pres)
MayAsk history read (Get key at) asked = ⊥
MayAsk history read (Scan prefix at) asked = ⊥
MayAsk history read (History key) asked = ⊥
MayAsk history read (Header k) asked = ⊥
MayAsk history read State asked = ⊥
MayAsk history read (Prove s t) asked = ⊥
MayAsk history read (Advance s t) asked = ⊥
MayAsk history read (Item t i under) asked = ⊥
MayAsk history read (Link count) asked = ⊥
MayAsk history read (Sql text) asked = AsksToWrite history text read asked
