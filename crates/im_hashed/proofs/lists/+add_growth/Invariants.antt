use Rattle.std.proofs.Common.{length}
use Rattle.im_hashed.proofs.lists.+add_growth.Given as goal

abbrev pub decreases-add_growth : goal.decreases-add_growth
decreases-add_growth g l = length l.terms.now
