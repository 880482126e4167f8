use Rattle.std.proofs.Common.{◌+◌, ◌++◌, [], get_or, arith, refl, drop, ap, ◌∙◌}
use Rattle.std.proofs.lemmas.List.{drop_all}
use Rattle.im_model.specs.Chains.{chain_strings}
use Rattle.im_model.proofs.Steps.{links-none}
use Rattle.im_hashed.proofs.AddLemmas.{same-same}
use Rattle.im_hashed.proofs.WalkLemmas.{chain-step, remains-done}
use Rattle.im_hashed.proofs.chains.add_chain.Goals as goal

pub loop-inner-init : goal.loop-inner-init
loop-inner-init g c = record {
  counted = omega arith;
  remains = same-same (c.args.out.now.items ++ chain_strings (g.H.Hash32.digest c.args.hash.now) c.args.start.now c.args.from c.args.inners.now);
}

pub loop-inner-preserved : goal.loop-inner-preserved
loop-inner-preserved g c = record {
  counted = omega (arith, c.loop-inner.invariant.counted);
  remains = chain-step (g.H.Hash32.digest c.args.hash.now) c.loop-inner.k (c.loop-inner.k + 1) c.loop-inner.inner-index c.loop-inner.alh c.in_ok-alh.alh (get_or c.args.inners.now c.loop-inner.inner-index []) c.args.inners.now
      c.args.out.now.items c.loop-inner.out.items c.add_link.new.out.items (chain_strings (g.H.Hash32.digest c.args.hash.now) c.args.start.now c.args.from c.args.inners.now)
      c.loop-inner-test.true refl refl c.in_ok-alh.ensures.digest c.in_ok-alh.ensures.strings c.loop-inner.invariant.remains;
}

pub returns : goal.returns
returns g c =
    remains-done c.args.out.now.items c.loop-inner.out.items (chain_strings (g.H.Hash32.digest c.args.hash.now) c.loop-inner.alh c.loop-inner.k (drop c.loop-inner.inner-index c.args.inners.now))
    (chain_strings (g.H.Hash32.digest c.args.hash.now) c.args.start.now c.args.from c.args.inners.now)
    (ap (λ l. chain_strings (g.H.Hash32.digest c.args.hash.now) c.loop-inner.alh c.loop-inner.k l) (drop_all c.loop-inner.inner-index c.args.inners.now (omega (arith, c.loop-inner-test.false))) ∙ links-none (g.H.Hash32.digest c.args.hash.now) c.loop-inner.alh c.loop-inner.k)
    c.loop-inner.invariant.remains
