use Rattle.std.proofs.Common.{◌≡◌, map}
use Rattle.im_table.specs.Histories.{history_of}
use Rattle.im_table.specs.declared.items.LogItem.{LogItem}
use Rattle.im_store_opening.proofs.parts.parted.Given as goal

abbrev pub invariant-loop-item : goal.invariant-loop-item
invariant-loop-item l = (l.transactions.items ≡ history_of l.yielded) × (l.references.items ≡ map (λ (x : LogItem). x.refs) l.yielded)
