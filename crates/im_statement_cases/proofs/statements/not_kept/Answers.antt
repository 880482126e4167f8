use Rattle.std.proofs.Common.{arith}
use Rattle.im_statement_cases.proofs.statements.not_kept.Goals as goal

pub kept-requires : goal.kept-requires
kept-requires c = (c.args.session.now, c.in_ok-view.ensures.view, omega (arith, c.len.ensures))
