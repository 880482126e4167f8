use Rattle.std.proofs.Common.{Option, sym, ap, take, ◌∙◌}
use Rattle.im_sqlmodel.specs.Writes.{put_all, all_written, dropped}
use Rattle.im_sqlmodel.specs.declared.rows.StoredRow.{StoredRow}
use Rattle.im_sqlmodel.proofs.KeptLemmas.{kept-sound}
use Rattle.im_sql.proofs.GoingLemmas.{taken-none, fault-cells, fault-lengths, fault-rest}
use Rattle.im_sql.proofs.inserting.take_row.Goals as goal

pub row_there-requires-clause-view : goal.row_there-requires-clause-view
row_there-requires-clause-view g c = let r = c.requires.view in (r.0, r.1, r.2, kept-sound (take c.args.n r.0) r.4, r.5)

pub row_there-requires-clause-working : goal.row_there-requires-clause-working
row_there-requires-clause-working g c = let w = c.requires.working in (c.args.indexes.now, w.0, w.1, w.2)

pub returns-in-Some : goal.returns-in-Some
returns-in-Some g c = λ history stands few is kept of are stood rows all working.
    fault-cells (take c.args.n history) c.args.fresh c.args.table.now c.args.indexes.now c.args.i c.args.row.now rows c.in-Some.fault (sym c.in-Some.is ∙ c.in_ok-fault.ensures.fault)

pub returns-in-Some-2 : goal.returns-in-Some-2
returns-in-Some-2 g c = λ history stands few is kept of are stood rows all working.
    fault-lengths (take c.args.n history) c.args.fresh c.args.table.now c.args.indexes.now c.args.i c.args.row.now rows c.in-Some-2.fault
    (sym c.in_default.is ∙ c.in_ok-fault.ensures.fault) (sym c.in-Some-2.is ∙ c.in_ok-fault-2.ensures)

pub returns-in-Some-3 : goal.returns-in-Some-3
returns-in-Some-3 g c = λ history stands few is kept of are stood rows all working.
    let h = take c.args.n history in
    let t = c.args.table.now in
    let there = c.in_ok-there.ensures history stands few (kept-sound h kept) of c.args.indexes.now stood rows all working in
    fault-rest h c.args.fresh t c.args.indexes.now c.args.i c.args.row.now rows
    (sym c.in_default.is ∙ c.in_ok-fault.ensures.fault) (sym c.in_default-2.is ∙ c.in_ok-fault-2.ensures)
    ∙ sym (sym c.in-Some-3.is ∙ c.in_ok-fault-3.ensures history stands few is kept of are stood rows all working there)

pub returns : goal.returns
returns g c = λ history stands few is kept of are stood rows all working.
    let h = take c.args.n history in
    let t = c.args.table.now in
    let indexes = c.args.indexes.now in
    let row = c.args.row.now in
    let there = c.in_ok-there.ensures history stands few (kept-sound h kept) of indexes stood rows all working in
    let none =
    fault-rest h c.args.fresh t indexes c.args.i row rows (sym c.in_default.is ∙ c.in_ok-fault.ensures.fault) (sym c.in_default-2.is ∙ c.in_ok-fault-2.ensures)
    ∙ sym (sym c.in_default-3.is ∙ c.in_ok-fault-3.ensures history stands few is kept of are stood rows all working there) in
    taken-none h c.args.fresh t indexes c.args.i row stood rows c.args.writes.now c.write_row.new.writes of are (c.in_ok-fault.ensures.kinds c.in_default.is) working none
    (c.in_ok-write_row.ensures ∙ ap (λ (o : Option StoredRow). put_all (all_written t indexes row) (put_all (dropped t indexes o) c.args.writes.now)) there)
