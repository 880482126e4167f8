use Rattle.std.proofs.Common.{rules}
use Rattle.im_table.proofs.LoadLemmas.{sees_linked}
use Rattle.im_table.proofs.tip.Tip.load_linked.Goals as goal

pub load-requires : goal.load-requires
load-requires g c = (search rules, search rules, sees_linked _ _ _ _ _)
