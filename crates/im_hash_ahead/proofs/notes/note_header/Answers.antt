use Rattle.im_hash_ahead.proofs.notes.note_header.Goals as goal

pub returns-in_err-hash : goal.returns-in_err-hash
returns-in_err-hash g c made = c.hash.ensures (c.note_inner.ensures (c.note_tree.ensures (c.note_root.ensures made)))

pub returns : goal.returns
returns g c made = c.hash.ensures (c.note_inner.ensures (c.note_tree.ensures (c.note_root.ensures made)))
