use Rattle.std.proofs.Common.{◌≡◌, ◌++◌, ◌∷◌, [], refl, rules}
use Rattle.im_dealing.specs.Lines.{IsStuck}
use Rattle.im_dealing.specs.declared.errors.LineError.TheVariants.{Memory}
use Rattle.im_octet.proofs.Common.{if-err}
use Rattle.im_report.specs.Report.{Answered, answer_line}
use Rattle.im_session.proofs.ShowLemmas.{shown_unanswered}
use Rattle.im_session.specs.Answered.{as_answered}
use Rattle.im_store.proofs.GainLemmas.{gains_same, later_self}
use Rattle.im_session.proofs.lines.run_line.Goals as goal

-- memory ran out before the line
pub returns-in_default-clause-later : goal.returns-in_default-clause-later
returns-in_default-clause-later g c = later_self c.args.pass.now

pub returns-in_default-clause-err : goal.returns-in_default-clause-err
returns-in_default-clause-err g c =
    (shown_unanswered c.args.pass.now c.args.pass.now c.args.line.command (later_self c.args.pass.now) (gains_same c.args.pass.now) c.args.line.session, c.reserve.ensures.items)

-- it wasn't answered
pub returns-in_err-number-clause-err : goal.returns-in_err-number-clause-err
returns-in_err-number-clause-err g c =
    if-err (λ why. IsStuck c.args.pass.now c.answer.new.pass c.args.line why × (c.reserve.new.self.items ≡ c.args.texts.now.items)) c.from_residual.result c.in_err-number.field-0.0
    c.from_residual.ensures.1 (c.in_err-number.ensures.err c.args.line.session, c.reserve.ensures.items)

-- its text can't be made
pub returns-in_err-text-clause-err : goal.returns-in_err-text-clause-err
returns-in_err-text-clause-err g c =
    if-err (λ why. IsStuck c.args.pass.now c.answer.new.pass c.args.line why × (c.reserve.new.self.items ≡ c.args.texts.now.items)) c.from_residual-in_err-text.result Memory
    c.from_residual-in_err-text.ensures.1 (c.in_ok-number.ensures.ok.else_stuck c.args.line.session, c.reserve.ensures.items)

-- it was
pub returns-clause-ok : goal.returns-clause-ok
returns-clause-ok g c =
    let answered = c.in_ok-number.ensures.ok in
    let a : Answered = as_answered c.args.line.session c.args.line.command c.in_ok-number.field-0 in
    let same : c.push_reserved.new.self.items ≡ c.args.texts.now.items ++ answer_line a ∷ [] = search rules in
    (a, refl, answered.step c.args.line.session, same)
