use Rattle.std.proofs.Common.{length}
use Rattle.im_model.proofs.growth.+newer_by.Given as goal

abbrev pub decreases-newer_by : goal.decreases-newer_by
decreases-newer_by g l = length l.others.now
