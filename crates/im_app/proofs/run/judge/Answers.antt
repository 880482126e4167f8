use Rattle.std.proofs.Common.{List, subst}
use Rattle.std.specs.Prelude.{OnOk}
use Rattle.im_model.specs.declared.transactions.Transaction.{Transaction}
use Rattle.im_sqlmodel.specs.Kept.{IsFirstUnsound, IsSqlKept}
use Rattle.im_table.specs.Histories.{history_of}
use Rattle.im_app.proofs.FoundLemmas.{whole-low, whole-taken}
use Rattle.im_app.proofs.run.judge.Goals as goal

pub judge-judged-requires : goal.judge-judged-requires
judge-judged-requires g c =
    let shown = c.in_ok-keys.ensures in
    (history_of c.args.opened.now.found, shown.0, whole-low c.args.opened.now.found c.in_ok-keys.count shown.1)

pub returns-clause-kept : goal.returns-clause-kept
returns-clause-kept g c =
    let shown = c.in_ok-keys.ensures in
    let found = c.args.opened.now.found in
    subst (λ (h : List Transaction). OnOk c.judge-judged.result (IsSqlKept h)) (whole-taken found c.in_ok-keys.count shown.1)
    (c.judge-judged.ensures.kept (history_of found) shown.0 (whole-low found c.in_ok-keys.count shown.1))

pub returns-clause-not_kept : goal.returns-clause-not_kept
returns-clause-not_kept g c = λ tx is.
    let shown = c.in_ok-keys.ensures in
    let found = c.args.opened.now.found in
    subst (λ (h : List Transaction). IsFirstUnsound h tx) (whole-taken found c.in_ok-keys.count shown.1)
    (c.judge-judged.ensures.not_kept (history_of found) shown.0 (whole-low found c.in_ok-keys.count shown.1) tx is)
