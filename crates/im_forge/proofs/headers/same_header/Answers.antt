use Rattle.im_forge.proofs.SameLemmas.{pair-of_alh, same-inner}
use Rattle.im_forge.proofs.headers.same_header.Goals as goal

pub returns-in-Pair : goal.returns-in-Pair
returns-in-Pair g c =
    pair-of_alh (g.H.Hash32.digest c.args.hash.now) c.args.header.now c.args.header2.now c.in_ok-x.x c.in_ok-y.y c.in-Pair.x c.in-Pair.y
    c.requires c.in_ok-x.ensures c.in_ok-y.ensures c.in-Pair.ensures

pub returns-in_ok-y-in-Equal : goal.returns-in_ok-y-in-Equal
returns-in_ok-y-in-Equal g c =
    same-inner (g.H.Hash32.digest c.args.hash.now) c.args.header.now c.args.header2.now c.in_ok-x.x c.in_ok-y.y c.in_ok-x-in-Equal.x c.in_ok-y-in-Equal.y c.compared-in-Equal.result
    c.header_fits.ensures c.header_fits-2.ensures c.in_ok-x.ensures c.in_ok-y.ensures c.in-Equal.ensures
    c.in_ok-x-in-Equal.ensures c.in_ok-y-in-Equal.ensures c.compared-in-Equal.ensures
