use Rattle.std.proofs.Common.{length}
use Rattle.im_model.proofs.growth.+older_by.Given as goal

abbrev pub decreases-older_by : goal.decreases-older_by
decreases-older_by g l = length l.others.now
