use Rattle.std.proofs.Common.{ℕ, List, ◌+◌, ◌++◌, [], drop, get_or, arith, ap, refl, subst}
use Rattle.std.proofs.lemmas.List.{drop_all}
use Rattle.im_carried.specs.Hashed.{path_strings, walk_strings}
use Rattle.im_hashed.specs.Added.{AddsStrings}
use Rattle.im_hashed.proofs.AddLemmas.{same-same}
use Rattle.im_hashed.proofs.WalkLemmas.{remains-done, walk-step}
use Rattle.im_hashed.proofs.chains.add_walk.Goals as goal

pub loop-i-init : goal.loop-i-init
loop-i-init g c = record {
  counted = omega arith;
  remains = same-same (c.args.out.now.items ++ walk_strings (g.H.Hash32.digest c.args.hash.now) c.args.size c.args.from c.args.start.now c.args.inners.now c.args.paths.now);
}

pub loop-i-preserved : goal.loop-i-preserved
loop-i-preserved g c = record {
  counted = omega (arith, c.loop-i.invariant.counted);
  remains = walk-step (g.H.Hash32.digest c.args.hash.now) c.args.size c.loop-i.k (c.loop-i.k + 1) c.loop-i.i c.loop-i.alh c.in_ok-alh.alh (get_or c.args.inners.now c.loop-i.i []) c.index-paths-i.result c.args.inners.now c.args.paths.now
      c.args.out.now.items c.loop-i.out.items c.add_path_of.new.out.items c.add_link.new.out.items (walk_strings (g.H.Hash32.digest c.args.hash.now) c.args.size c.args.from c.args.start.now c.args.inners.now c.args.paths.now)
      c.loop-i-test.true (omega (arith, c.loop-i-test.true, c.requires.paths)) refl c.index-paths-i.is refl c.in_ok-alh.ensures.digest
      (subst (λ p. AddsStrings c.loop-i.out.items c.add_path_of.new.out.items (path_strings (g.H.Hash32.digest c.args.hash.now) c.args.size c.loop-i.k c.loop-i.alh p)) c.as_slice.ensures c.in_ok-add_path_of.ensures)
      c.in_ok-alh.ensures.strings c.loop-i.invariant.remains;
}

pub returns : goal.returns
returns g c =
    remains-done c.args.out.now.items c.loop-i.out.items (walk_strings (g.H.Hash32.digest c.args.hash.now) c.args.size c.loop-i.k c.loop-i.alh (drop c.loop-i.i c.args.inners.now) (drop c.loop-i.i c.args.paths.now))
    (walk_strings (g.H.Hash32.digest c.args.hash.now) c.args.size c.args.from c.args.start.now c.args.inners.now c.args.paths.now)
    (ap (λ (l : List (List ℕ)). walk_strings (g.H.Hash32.digest c.args.hash.now) c.args.size c.loop-i.k c.loop-i.alh l (drop c.loop-i.i c.args.paths.now)) (drop_all c.loop-i.i c.args.inners.now (omega (arith, c.loop-i-test.false))))
    c.loop-i.invariant.remains
