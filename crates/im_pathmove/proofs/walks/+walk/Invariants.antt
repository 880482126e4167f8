use Rattle.std.proofs.Common.{length}
use Rattle.im_pathmove.proofs.walks.+walk.Given as goal

abbrev pub decreases-walk : goal.decreases-walk
decreases-walk g l = length l.others.now
