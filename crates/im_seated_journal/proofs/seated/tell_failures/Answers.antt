use Rattle.std.proofs.Common.{◌∙◌}
use Rattle.im_seated_journal.proofs.SeatReads.{one_left, told_none, told_one}
use Rattle.im_seated_journal.proofs.seated.tell_failures.Goals as goal

pub store_failed-requires-clause-next : goal.store_failed-requires-clause-next
store_failed-requires-clause-next g c = cc (one_left c.args.before c.args.now c.requires.one c.if-now-before.false, c.requires.known)

pub returns-then-now-before-clause-view : goal.returns-then-now-before-clause-view
returns-then-now-before-clause-view g c = told_none c.args.pass.now.view c.args.now (c.if-now-before.true ∙ c.requires.known)

pub returns-clause-view : goal.returns-clause-view
returns-clause-view g c =
    c.store_failed.ensures.view ∙ told_one c.args.pass.now.view c.args.now (cc (one_left c.args.before c.args.now c.requires.one c.if-now-before.false, c.requires.known))
