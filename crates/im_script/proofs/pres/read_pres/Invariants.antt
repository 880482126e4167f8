use Rattle.std.proofs.Common.{length}
use Rattle.im_script.proofs.AskedLemmas.{IsAskedBehind, IsAskedOnly}
use Rattle.im_script.proofs.pres.read_pres.Given as goal

abbrev pub invariant-loop-fields : goal.invariant-loop-fields
invariant-loop-fields l = record {
  asked : IsAskedBehind l.text l.pres.items l.rest;
  only : IsAskedOnly l.text l.pres.items l.rest;
}

abbrev pub decreases-loop-fields : goal.decreases-loop-fields
decreases-loop-fields l = length l.rest
