use Rattle.std.proofs.Common.{◌≡◌}
use Rattle.im_store.specs.Found.{items_of}
use Rattle.im_store_opening.proofs.parts.found_items.Given as goal

abbrev pub invariant-loop-record : goal.invariant-loop-record
invariant-loop-record l = l.items.items ≡ items_of l.yielded
