use Rattle.std.proofs.Common.{length}
use Rattle.im_model.proofs.paths.+root_by_path.Given as goal

abbrev pub decreases-root_by_path : goal.decreases-root_by_path
decreases-root_by_path g l = length l.path.now
