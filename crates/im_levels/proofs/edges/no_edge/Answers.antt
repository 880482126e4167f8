use Rattle.std.proofs.Common.{arith}
use Rattle.im_levels.proofs.edges.no_edge.Goals as goal

pub returns : goal.returns
returns c = λ hash digests some. absurd (omega (arith, some))
