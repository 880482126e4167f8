use Rattle.std.proofs.Common.{◌≡◌, map}
use Rattle.im_sql.proofs.writes.Writes.into_list.Given as goal

abbrev pub invariant-loop-key : goal.invariant-loop-key
invariant-loop-key l = l.written.items ≡ map (λ e. record { key = e.0.items; value = e.1 }) l.yielded
