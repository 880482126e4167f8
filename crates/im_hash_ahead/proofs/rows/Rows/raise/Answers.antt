use Rattle.im_hash_ahead.proofs.rows.Rows.raise.Goals as goal

pub returns-after-loop-level : goal.returns-after-loop-level
returns-after-loop-level g c made = c.loop-level.invariant (c.in_ok-add.ensures (g.H.Hash32.digest c.args.hash.now) c.in_ok-parts.ensures made)
