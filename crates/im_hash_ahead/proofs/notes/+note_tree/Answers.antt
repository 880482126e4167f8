use Rattle.std.proofs.Common.{rules}
use Rattle.im_hash_ahead.proofs.notes.+note_tree.Goals as goal

pub returns : goal.returns
returns g t c made = let one = c.in_ok-left.ensures made in let two = c.in_ok-right.ensures one in search rules
