use Rattle.std.proofs.Common.{◌≡◌, ◌+◌, drop}
use Rattle.im_model.specs.Chains.{chain_strings}
use Rattle.im_hashed.proofs.WalkLemmas.{Remains}
use Rattle.im_hashed.proofs.chains.add_chain.Given as goal

abbrev pub invariant-loop-inner : goal.invariant-loop-inner
invariant-loop-inner g l = record {
  counted : l.k ≡ l.from + l.inner-index;
  remains : Remains l.initial.out.items l.out.items (chain_strings (g.H.Hash32.digest l.hash) l.alh l.k (drop l.inner-index l.inners)) (chain_strings (g.H.Hash32.digest l.hash) l.start l.from l.inners);
}
