use Rattle.std.proofs.Common.{map, arith}
use Rattle.im_model.specs.Headers.{inner, alh}
use Rattle.im_dual.proofs.KeptLemmas.{advance-more}
use Rattle.im_dual.proofs.build.advance.Goals as goal

pub returns : goal.returns
returns g c =
    let hash = g.H.Hash32.digest c.args.hash.now in
    let headers = c.args.headers.now in
    advance-more hash (map (alh hash) headers) (map (inner hash) headers) c.args.a c.args.e c.args.size c.args.tree.now.size _ _ (omega arith) c.requires.within
    c.in_ok-terms.ensures (c.in_ok-inclusions.ensures _ c.requires.leaves)
