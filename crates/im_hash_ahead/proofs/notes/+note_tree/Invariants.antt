use Rattle.std.proofs.Common.{length}
use Rattle.im_hash_ahead.proofs.notes.+note_tree.Given as goal

abbrev pub decreases-note_tree : goal.decreases-note_tree
decreases-note_tree g l = length l.digests.now
