use Rattle.std.proofs.Common.{rules}
use Rattle.im_session.proofs.HelperLemmas.{done_slice}
use Rattle.im_session.proofs.phase.run_all.Goals as goal

pub returns : goal.returns
returns g c = done_slice g.N.TipName.digest g.N.TipName.table c.args.sessions.items c.run_sessions.new.sessions c.args.sessions.len (search rules) (search rules) (search rules)
