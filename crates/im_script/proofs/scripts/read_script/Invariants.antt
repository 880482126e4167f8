use Rattle.std.proofs.Common.{◌+◌, ◌≤◌, ℕ, length}
use Rattle.im_script.specs.Script.{StopsAfter}
use Rattle.im_script.proofs.NameLemmas.{HasNames}
use Rattle.im_script.proofs.ScriptLemmas.{IsReadSoFar, StopsBehind}
use Rattle.im_script.proofs.scripts.read_script.Given as goal

abbrev pub invariant-loop-rest : goal.invariant-loop-rest
invariant-loop-rest l = record {
  read : IsReadSoFar l.octets l.so_far l.rest;
  stops : (n : ℕ) → StopsBehind l.so_far.names l.rest n → StopsAfter l.octets (l.number + n);
  names : HasNames l.so_far;
  few : l.number + length l.rest ≤ length l.octets;
}

abbrev pub decreases-loop-rest : goal.decreases-loop-rest
decreases-loop-rest l = length l.rest
