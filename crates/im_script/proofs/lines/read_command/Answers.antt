use Rattle.std.proofs.lemmas.Result.{IfOk-weaker}
use Rattle.im_script.proofs.CommandLemmas.{found-set, found-delete, found-get, found-scan, found-history, found-header, found-state, found-prove, found-advance, found-item, found-link, found-sql}
use Rattle.im_script.proofs.lines.read_command.Goals as goal

pub returns-in-Some : goal.returns-in-Some
returns-in-Some c =
    IfOk-weaker c.read_set.result _ _ (λ o h. found-set c.args.text.now c.in-Some.rest.now c.in-Some.ensures.some o h) c.read_set.ensures

pub returns-in-Some-after : goal.returns-in-Some-after
returns-in-Some-after c =
    IfOk-weaker c.read_delete.result _ _ (λ o h. found-delete c.args.text.now c.in-Some-after.rest.now c.in-Some-after.ensures.some o h) c.read_delete.ensures

pub returns-in-Some-after-2 : goal.returns-in-Some-after-2
returns-in-Some-after-2 c =
    IfOk-weaker c.read_get.result _ _ (λ o h. found-get c.args.text.now c.in-Some-after-2.rest.now c.in-Some-after-2.ensures.some o h) c.read_get.ensures

pub returns-in-Some-after-3 : goal.returns-in-Some-after-3
returns-in-Some-after-3 c =
    IfOk-weaker c.read_scan.result _ _ (λ o h. found-scan c.args.text.now c.in-Some-after-3.rest.now c.in-Some-after-3.ensures.some o h) c.read_scan.ensures

pub returns-in-Some-after-4 : goal.returns-in-Some-after-4
returns-in-Some-after-4 c =
    IfOk-weaker c.read_history.result _ _ (λ o h. found-history c.args.text.now c.in-Some-after-4.rest.now c.in-Some-after-4.ensures.some o h) c.read_history.ensures

pub returns-in-Some-after-5 : goal.returns-in-Some-after-5
returns-in-Some-after-5 c =
    found-header c.args.text.now c.in-Some-after-5.rest.now c.in-Some-after-5.ensures.some c.read_header.result c.read_header.ensures

pub returns-in-Some-after-6 : goal.returns-in-Some-after-6
returns-in-Some-after-6 c =
    found-state c.args.text.now c.in-Some-after-6.rest.now c.in-Some-after-6.ensures.some c.read_state.result c.read_state.ensures

pub returns-in-Some-after-7 : goal.returns-in-Some-after-7
returns-in-Some-after-7 c =
    found-prove c.args.text.now c.in-Some-after-7.rest.now c.in-Some-after-7.ensures.some c.read_prove.result c.read_prove.ensures

pub returns-in-Some-after-8 : goal.returns-in-Some-after-8
returns-in-Some-after-8 c =
    found-advance c.args.text.now c.in-Some-after-8.rest.now c.in-Some-after-8.ensures.some c.read_advance.result c.read_advance.ensures

pub returns-in-Some-after-9 : goal.returns-in-Some-after-9
returns-in-Some-after-9 c =
    found-item c.args.text.now c.in-Some-after-9.rest.now c.in-Some-after-9.ensures.some c.read_item.result c.read_item.ensures

pub returns-in-Some-after-10 : goal.returns-in-Some-after-10
returns-in-Some-after-10 c =
    found-link c.args.text.now c.in-Some-after-10.rest.now c.in-Some-after-10.ensures.some c.read_link.result c.read_link.ensures

pub returns-in-Some-after-11 : goal.returns-in-Some-after-11
returns-in-Some-after-11 c =
    IfOk-weaker c.read_sql.result _ _ (λ o h. found-sql c.args.text.now c.in-Some-after-11.rest.now c.in-Some-after-11.ensures.some o h) c.read_sql.ensures
