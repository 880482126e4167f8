use Rattle.std.proofs.Common.{◌≡◌, ◌-◌, length}
use Rattle.im_index.proofs.blocks.hint_all.Given as goal

abbrev pub invariant-hinting : goal.invariant-hinting
invariant-hinting l = l.versions.items ≡ l.fn.versions.items

abbrev pub decreases-hinting : goal.decreases-hinting
decreases-hinting l = length l.versions.items - l.from
