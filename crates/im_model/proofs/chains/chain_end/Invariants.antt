use Rattle.std.proofs.Common.{◌≡◌, ◌+◌, drop}
use Rattle.im_model.specs.Chains.{chain}
use Rattle.im_model.proofs.chains.chain_end.Given as goal

abbrev pub invariant-loop-inner : goal.invariant-loop-inner
invariant-loop-inner g l = record {
  counted : l.number ≡ l.k + l.inner-index;
  same : chain (g.H.Hash32.digest l.hash) l.end l.number (drop l.inner-index l.inners) ≡ chain (g.H.Hash32.digest l.hash) l.fn.alh l.k l.inners;
}
