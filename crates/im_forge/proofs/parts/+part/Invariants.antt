use Rattle.std.proofs.Common.{length}
use Rattle.im_forge.proofs.parts.+part.Given as goal

abbrev pub decreases-part : goal.decreases-part
decreases-part g l = length l.path.now
