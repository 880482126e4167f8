use Rattle.std.proofs.Common.{◌≡◌, map}
use Rattle.im_sqlmodel.specs.Creations.{draft_written}
use Rattle.im_sql.proofs.placing.drafts_of.Given as goal

abbrev pub invariant-loop-one : goal.invariant-loop-one
invariant-loop-one l = l.drafts.items ≡ map draft_written l.yielded
