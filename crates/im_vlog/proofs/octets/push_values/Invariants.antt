use Rattle.std.proofs.Common.{◌≡◌, ◌++◌, drop, length}
use Rattle.im_format.specs.Places.{values_in}
use Rattle.im_vlog.proofs.octets.push_values.Given as goal

abbrev pub invariant-loop-entry : goal.invariant-loop-entry
invariant-loop-entry l =
    l.octets.items ++ values_in l.log (drop (length l.yielded) l.entries) (drop (length l.yielded) l.refs)
    ≡ l.fn.octets.items ++ values_in l.log l.entries l.refs
