use Rattle.std.proofs.Common.{rules}
use Rattle.im_table.proofs.LoadLemmas.{sees_durable}
use Rattle.im_table.proofs.tip.Tip.load_durable.Goals as goal

pub load-requires : goal.load-requires
load-requires g c = (search rules, search rules, sees_durable _ _ _ _ _)
