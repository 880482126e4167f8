use Rattle.std.proofs.Common.{length}
use Rattle.im_pathmove.proofs.roots.+roots_of.Given as goal

abbrev pub decreases-roots_of : goal.decreases-roots_of
decreases-roots_of g l = length l.terms.now
