use Rattle.std.proofs.Common.{◌∙◌, IfErr, IfOk, List, ap, subst, sym}
use Rattle.im_draft.specs.declared.drafts.Draft.{Draft}
use Rattle.im_script.specs.declared.commands.Command.{Command}
use Rattle.im_script.specs.declared.commands.Command.TheVariants.{Set, Sql}
use Rattle.im_session.specs.Answered.{IsAnswered, IsUnanswered}
use Rattle.im_session.proofs.lines.answer.Goals as goal

pub returns-in-Set-clause-ok : goal.returns-in-Set-clause-ok
returns-in-Set-clause-ok g c =
    let same = ap (λ (ds : List Draft). Set c.in-Set.pres ds) c.into_vec.ensures ∙ sym c.in-Set.is in
    subst (λ (command : Command). IfOk c.answer_set.result (λ answer. IsAnswered g.N.TipName.digest c.args.pass.now c.answer_set.new.pass command answer)) same c.answer_set.ensures.ok

pub returns-in-Set-clause-err : goal.returns-in-Set-clause-err
returns-in-Set-clause-err g c =
    let same = ap (λ (ds : List Draft). Set c.in-Set.pres ds) c.into_vec.ensures ∙ sym c.in-Set.is in
    subst (λ (command : Command). IfErr c.answer_set.result (λ why. IsUnanswered c.args.pass.now c.answer_set.new.pass command why)) same c.answer_set.ensures.err

pub returns-in-Link-clause-ok : goal.returns-in-Link-clause-ok
returns-in-Link-clause-ok g c =
    subst (λ (command : Command). IfOk c.answer_link.result (λ answer. IsAnswered g.N.TipName.digest c.args.pass.now c.answer_link.new.pass command answer)) (sym c.in-Link.is) c.answer_link.ensures.ok

pub returns-in-Link-clause-err : goal.returns-in-Link-clause-err
returns-in-Link-clause-err g c =
    subst (λ (command : Command). IfErr c.answer_link.result (λ why. IsUnanswered c.args.pass.now c.answer_link.new.pass command why)) (sym c.in-Link.is) c.answer_link.ensures.err

pub returns-in-Sql-clause-ok : goal.returns-in-Sql-clause-ok
returns-in-Sql-clause-ok g c =
    let same = ap Sql c.as_str.ensures ∙ sym c.in-Sql.is in
    subst (λ (command : Command). IfOk c.answer_sql-answer.result (λ answer. IsAnswered g.N.TipName.digest c.args.pass.now c.answer_sql-answer.new.pass command answer)) same c.answer_sql-answer.ensures.ok

pub returns-in-Sql-clause-err : goal.returns-in-Sql-clause-err
returns-in-Sql-clause-err g c =
    let same = ap Sql c.as_str.ensures ∙ sym c.in-Sql.is in
    subst (λ (command : Command). IfErr c.answer_sql-answer.result (λ why. IsUnanswered c.args.pass.now c.answer_sql-answer.new.pass command why)) same c.answer_sql-answer.ensures.err
