use Rattle.std.proofs.Common.{◌≡◌, ◌<◌, ◌≤◌, ◌++◌, length}
use Rattle.im_proof.specs.Built.{growth_first, growth_rest}
use Rattle.im_atree.proofs.built.terms_down.Given as goal

abbrev pub invariant-loop-older : goal.invariant-loop-older
invariant-loop-older g l = record {
  some : 0 < l.older;
  within : l.older ≤ length l.part;
  first : growth_first (g.H.Hash32.digest l.hash) l.part l.older ≡ growth_first (g.H.Hash32.digest l.hash) l.leaves l.m;
  rest : l.terms.items ++ growth_rest (g.H.Hash32.digest l.hash) l.part l.older ≡ growth_rest (g.H.Hash32.digest l.hash) l.leaves l.m;
}

abbrev pub decreases-loop-older : goal.decreases-loop-older
decreases-loop-older g l = length l.part
