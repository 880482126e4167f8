use Rattle.std.proofs.Common.{sym, subst}
use Rattle.im_hash_ahead.specs.Facts.{AreFacts}
use Rattle.im_hash_ahead.proofs.filling.begin.Goals as goal

pub returns : goal.returns
returns g c =
    let hash = g.H.Hash32.digest c.args.hash.now in
    let known = c.empty-window.ensures hash in
    record {
      far = known.far;
      near = known.near;
      next = subst (AreFacts hash) (sym c.replace.ensures.after) c.in_ok-next.ensures;
    }
