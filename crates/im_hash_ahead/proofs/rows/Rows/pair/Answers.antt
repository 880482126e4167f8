use Rattle.im_hash_ahead.proofs.rows.Rows.pair.Goals as goal

pub returns : goal.returns
returns g c made = c.in_ok-add.ensures (g.H.Hash32.digest c.args.hash.now) c.in_ok-parts.ensures made
