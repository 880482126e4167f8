use Rattle.std.proofs.Common.{◌+◌, Option, drop, take, refl, sym, ap, ◌∙◌}
use Rattle.std.proofs.lemmas.List.{at_drop_more, at_drop_all}
use Rattle.std.specs.List.{IsAmong}
use Rattle.std.specs.Option.{option_or}
use Rattle.im_sqlmodel.specs.Options.{first_found}
use Rattle.im_sqlmodel.specs.Writes.{unique_fault}
use Rattle.im_sqlmodel.specs.declared.answers.SqlError.{SqlError}
use Rattle.im_sqlmodel.specs.declared.tables.SqlIndex.{SqlIndex}
use Rattle.im_sqlmodel.proofs.KeptLemmas.{kept-sound}
use Rattle.im_sql.proofs.GoingLemmas.{unique-none, unique-some}
use Rattle.im_sql.proofs.inserting.unique_fault.Goals as goal

pub entry_met-requires : goal.entry_met-requires
entry_met-requires g c = let r = c.requires in (r.0, r.1, r.2, kept-sound (take c.args.n r.0) r.4, r.5)

pub loop-index-init : goal.loop-index-init
loop-index-init g c = λ history stands few is kept of are stood rows all working. refl

pub loop-index-preserved : goal.loop-index-preserved
loop-index-preserved g c = λ history stands few is kept of are stood rows all working.
    let h = take c.args.n history in
    let t = c.args.table.now in
    let here : IsAmong c.args.indexes.now c.index-item.result = (c.loop-index.index-index, (c.loop-index-test.true, c.index-item.is)) in
    let met = sym c.in_default.is ∙ c.in_ok-tx.ensures history stands few (kept-sound h kept) of c.args.indexes.now stood rows are here all working in
    let none = unique-none h t c.args.i c.args.row.now rows c.index-item.result met in
    sym (at_drop_more (first_found (unique_fault h t c.args.i c.args.row.now rows)) c.args.indexes.now c.loop-index.index-index c.index-item.result c.loop-index-test.true
    ∙ ap (λ (i : SqlIndex). option_or (unique_fault h t c.args.i c.args.row.now rows i) (first_found (unique_fault h t c.args.i c.args.row.now rows) (drop (c.loop-index.index-index + 1) c.args.indexes.now))) (sym c.index-item.is)
    ∙ ap (λ (o : Option SqlError). option_or o (first_found (unique_fault h t c.args.i c.args.row.now rows) (drop (c.loop-index.index-index + 1) c.args.indexes.now))) none)
    ∙ c.loop-index.invariant history stands few is kept of are stood rows all working

pub returns-in-Some : goal.returns-in-Some
returns-in-Some g c = λ history stands few is kept of are stood rows all working.
    let h = take c.args.n history in
    let t = c.args.table.now in
    let here : IsAmong c.args.indexes.now c.index-item.result = (c.loop-index.index-index, (c.loop-index-test.true, c.index-item.is)) in
    let met = sym c.in-Some.is ∙ c.in_ok-tx.ensures history stands few (kept-sound h kept) of c.args.indexes.now stood rows are here all working in
    let some = unique-some h t c.args.i c.args.row.now rows c.index-item.result c.in-Some.tx met in
    sym (at_drop_more (first_found (unique_fault h t c.args.i c.args.row.now rows)) c.args.indexes.now c.loop-index.index-index c.index-item.result c.loop-index-test.true
    ∙ ap (λ (i : SqlIndex). option_or (unique_fault h t c.args.i c.args.row.now rows i) (first_found (unique_fault h t c.args.i c.args.row.now rows) (drop (c.loop-index.index-index + 1) c.args.indexes.now))) (sym c.index-item.is)
    ∙ ap (λ (o : Option SqlError). option_or o (first_found (unique_fault h t c.args.i c.args.row.now rows) (drop (c.loop-index.index-index + 1) c.args.indexes.now))) some)
    ∙ c.loop-index.invariant history stands few is kept of are stood rows all working

pub returns : goal.returns
returns g c = λ history stands few is kept of are stood rows all working.
    sym (at_drop_all (first_found (unique_fault (take c.args.n history) c.args.table.now c.args.i c.args.row.now rows)) c.args.indexes.now c.loop-index.index-index c.loop-index-test.false)
    ∙ c.loop-index.invariant history stands few is kept of are stood rows all working
