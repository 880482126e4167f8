use Rattle.std.proofs.Common.{length}
use Rattle.im_hashed.proofs.parts.+add_path.Given as goal

abbrev pub decreases-add_path : goal.decreases-add_path
decreases-add_path g l = length l.path.now
