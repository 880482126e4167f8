use Rattle.std.proofs.Common.{◌∙◌, IfErr, IfOk, List, ℕ, ap, sym, subst}
use Rattle.im_script.specs.declared.commands.Command.{Command}
use Rattle.im_script.specs.declared.commands.Command.TheVariants as says
use Rattle.im_session.specs.Answered.{IsAnswered, IsUnanswered}
use Rattle.im_session.proofs.lines.show.Goals as goal

pub returns-in-Get-clause-ok : goal.returns-in-Get-clause-ok
returns-in-Get-clause-ok g c =
    subst (λ (command : Command). IfOk c.answer_get.result (λ answer. IsAnswered g.N.TipName.digest c.args.pass.now c.answer_get.new.pass command answer)) (ap (λ (k : List ℕ). says.Get k c.in-Get.at) c.as_slice.ensures ∙ sym c.in-Get.is) c.answer_get.ensures.ok

pub returns-in-Get-clause-err : goal.returns-in-Get-clause-err
returns-in-Get-clause-err g c =
    subst (λ (command : Command). IfErr c.answer_get.result (λ why. IsUnanswered c.args.pass.now c.answer_get.new.pass command why)) (ap (λ (k : List ℕ). says.Get k c.in-Get.at) c.as_slice.ensures ∙ sym c.in-Get.is) c.answer_get.ensures.err

pub returns-in-Scan-clause-ok : goal.returns-in-Scan-clause-ok
returns-in-Scan-clause-ok g c =
    subst (λ (command : Command). IfOk c.answer_scan.result (λ answer. IsAnswered g.N.TipName.digest c.args.pass.now c.answer_scan.new.pass command answer)) (ap (λ (k : List ℕ). says.Scan k c.in-Scan.at) c.as_slice-in-Scan.ensures ∙ sym c.in-Scan.is) c.answer_scan.ensures.ok

pub returns-in-Scan-clause-err : goal.returns-in-Scan-clause-err
returns-in-Scan-clause-err g c =
    subst (λ (command : Command). IfErr c.answer_scan.result (λ why. IsUnanswered c.args.pass.now c.answer_scan.new.pass command why)) (ap (λ (k : List ℕ). says.Scan k c.in-Scan.at) c.as_slice-in-Scan.ensures ∙ sym c.in-Scan.is) c.answer_scan.ensures.err

pub returns-in-History-clause-ok : goal.returns-in-History-clause-ok
returns-in-History-clause-ok g c =
    subst (λ (command : Command). IfOk c.answer_history.result (λ answer. IsAnswered g.N.TipName.digest c.args.pass.now c.answer_history.new.pass command answer)) (ap (λ (k : List ℕ). says.History k) c.as_slice-in-History.ensures ∙ sym c.in-History.is) c.answer_history.ensures.ok

pub returns-in-History-clause-err : goal.returns-in-History-clause-err
returns-in-History-clause-err g c =
    subst (λ (command : Command). IfErr c.answer_history.result (λ why. IsUnanswered c.args.pass.now c.answer_history.new.pass command why)) (ap (λ (k : List ℕ). says.History k) c.as_slice-in-History.ensures ∙ sym c.in-History.is) c.answer_history.ensures.err

pub returns-in-Header-clause-ok : goal.returns-in-Header-clause-ok
returns-in-Header-clause-ok g c =
    subst (λ (command : Command). IfOk c.answer_header.result (λ answer. IsAnswered g.N.TipName.digest c.args.pass.now c.answer_header.new.pass command answer)) (sym c.in-Header.is) c.answer_header.ensures.ok

pub returns-in-Header-clause-err : goal.returns-in-Header-clause-err
returns-in-Header-clause-err g c =
    subst (λ (command : Command). IfErr c.answer_header.result (λ why. IsUnanswered c.args.pass.now c.answer_header.new.pass command why)) (sym c.in-Header.is) c.answer_header.ensures.err

pub returns-in-State-clause-ok : goal.returns-in-State-clause-ok
returns-in-State-clause-ok g c =
    subst (λ (command : Command). IfOk c.answer_state.result (λ answer. IsAnswered g.N.TipName.digest c.args.pass.now c.answer_state.new.pass command answer)) (sym c.in-State.is) c.answer_state.ensures.ok

pub returns-in-State-clause-err : goal.returns-in-State-clause-err
returns-in-State-clause-err g c =
    subst (λ (command : Command). IfErr c.answer_state.result (λ why. IsUnanswered c.args.pass.now c.answer_state.new.pass command why)) (sym c.in-State.is) c.answer_state.ensures.err

pub returns-in-Prove-clause-ok : goal.returns-in-Prove-clause-ok
returns-in-Prove-clause-ok g c =
    subst (λ (command : Command). IfOk c.answer_prove.result (λ answer. IsAnswered g.N.TipName.digest c.args.pass.now c.answer_prove.new.pass command answer)) (sym c.in-Prove.is) c.answer_prove.ensures.ok

pub returns-in-Prove-clause-err : goal.returns-in-Prove-clause-err
returns-in-Prove-clause-err g c =
    subst (λ (command : Command). IfErr c.answer_prove.result (λ why. IsUnanswered c.args.pass.now c.answer_prove.new.pass command why)) (sym c.in-Prove.is) c.answer_prove.ensures.err

pub returns-in-Advance-clause-ok : goal.returns-in-Advance-clause-ok
returns-in-Advance-clause-ok g c =
    subst (λ (command : Command). IfOk c.answer_advance.result (λ answer. IsAnswered g.N.TipName.digest c.args.pass.now c.answer_advance.new.pass command answer)) (sym c.in-Advance.is) c.answer_advance.ensures.ok

pub returns-in-Advance-clause-err : goal.returns-in-Advance-clause-err
returns-in-Advance-clause-err g c =
    subst (λ (command : Command). IfErr c.answer_advance.result (λ why. IsUnanswered c.args.pass.now c.answer_advance.new.pass command why)) (sym c.in-Advance.is) c.answer_advance.ensures.err

pub returns-in-Item-clause-ok : goal.returns-in-Item-clause-ok
returns-in-Item-clause-ok g c =
    subst (λ (command : Command). IfOk c.answer_item.result (λ answer. IsAnswered g.N.TipName.digest c.args.pass.now c.answer_item.new.pass command answer)) (sym c.in-Item.is) c.answer_item.ensures.ok

pub returns-in-Item-clause-err : goal.returns-in-Item-clause-err
returns-in-Item-clause-err g c =
    subst (λ (command : Command). IfErr c.answer_item.result (λ why. IsUnanswered c.args.pass.now c.answer_item.new.pass command why)) (sym c.in-Item.is) c.answer_item.ensures.err
