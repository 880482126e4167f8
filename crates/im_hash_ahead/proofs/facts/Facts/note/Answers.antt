use Rattle.im_hash_ahead.proofs.facts.Facts.note.Goals as goal

pub returns : goal.returns
returns g c made = c.add.ensures (g.H.Hash32.digest c.args.hash.now) made c.of.ensures.made
