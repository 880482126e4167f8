use Rattle.std.proofs.Common.{IfOk, take, sym, subst}
use Rattle.im_machine.specs.Answers.{IsShown}
use Rattle.im_machine.specs.declared.questions.KeyQuestion.{KeyQuestion}
use Rattle.im_core.proofs.reading.shown.Goals as goal

pub returns-in-Get : goal.returns-in-Get
returns-in-Get c history is within =
    subst (λ (q : KeyQuestion). IfOk c.last.result (IsShown (take c.args.number history) q)) (sym c.in-Get.is) (c.last.ensures history is within)

pub returns-in-Scan : goal.returns-in-Scan
returns-in-Scan c history is within =
    subst (λ (q : KeyQuestion). IfOk c.live.result (IsShown (take c.args.number history) q)) (sym c.in-Scan.is) (c.live.ensures history is within)

pub returns-in-Versions : goal.returns-in-Versions
returns-in-Versions c history is within =
    subst (λ (q : KeyQuestion). IfOk c.all.result (IsShown (take c.args.number history) q)) (sym c.in-Versions.is) (c.all.ensures history is within)
