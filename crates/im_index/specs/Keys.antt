-- A history without the values of its entries: what an index of the keys alone holds.
use Rattle.std.specs.Prelude.{List, [], map}
use Rattle.im_model.specs.declared.entries.Entry.{Entry}
use Rattle.im_model.specs.declared.transactions.Transaction.{Transaction}

-- an entry without its value
abbrev pub bare_entry : Entry → Entry
bare_entry entry = record { md = entry.md; key = entry.key; value = [] }

-- a transaction whose entries have no values
abbrev pub bare_transaction : Transaction → Transaction
bare_transaction tx = record { ts = tx.ts; entries = map bare_entry tx.entries; bl = tx.bl }

-- transactions whose entries have no values
abbrev pub bare : List Transaction → List Transaction
bare history = map bare_transaction history
