use Rattle.std.proofs.Common.{◌≡◌, ◌++◌, drop}
use Rattle.im_format.specs.Places.{log_values}
use Rattle.im_vlog.proofs.octets.log_values.Given as goal

abbrev pub invariant-loop-record : goal.invariant-loop-record
invariant-loop-record l = l.octets.items ++ log_values l.log (drop l.record-index l.records) ≡ log_values l.log l.records
