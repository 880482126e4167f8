use Rattle.std.proofs.Common.{length}
use Rattle.im_model.proofs.trees.+plain_root.Given as goal

abbrev pub decreases-plain_root : goal.decreases-plain_root
decreases-plain_root g l = length l.digests.now
