use Rattle.im_statement_cases.proofs.statements.judge_statement.Goals as goal

pub kept-requires : goal.kept-requires
kept-requires c = (c.args.session.now, c.in_ok-view.ensures.view, c.requires)

pub run-requires : goal.run-requires
run-requires c =
    let stands = c.in_ok-view.ensures.view in
    (c.args.session.now, stands, c.requires, c.in_ok-view.ensures.history, c.in-Ok.ensures.kept c.args.session.now stands c.requires)
