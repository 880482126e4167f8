use Rattle.std.proofs.Common.{◌≡◌, false, List, [], length, map, flat_map, nat_eq, sym, ap, ap₂, subst, ◌∙◌}
use Rattle.std.proofs.lemmas.List.{take_all}
use Rattle.im_sqltype.specs.declared.values.Value.{Value}
use Rattle.im_sqlmodel.specs.Writes.{put_all, all_written, deleted}
use Rattle.im_sqlmodel.specs.declared.rows.StoredRow.{StoredRow}
use Rattle.im_sqlmodel.specs.declared.written.Written.{Written}
use Rattle.im_sql.specs.Writing.{AreFine}
use Rattle.im_sql.proofs.AnswerLemmas.{erased-some}
use Rattle.im_sql.proofs.PutLemmas.{put-many}
use Rattle.im_sql.proofs.deleting.erase.Goals as goal

pub loop-stored-preserved : goal.loop-stored-preserved
loop-stored-preserved c =
    let t = c.args.table.now in
    let indexes = c.args.indexes.now in
    let dropped_by : StoredRow → List Written = λ r. map deleted (all_written t indexes r.row) in
    c.in_ok-erase_row.ensures ∙ ap₂ (λ (row : List Value) (ws : List Written). put_all (map deleted (all_written t indexes row)) ws) c.as_slice.ensures c.loop-stored.invariant
    ∙ sym (put-many dropped_by c.args.rows.now c.loop-stored.stored-index c.stored-item.result [] c.loop-stored-test.true c.stored-item.is)

pub placed-requires-clause-fine : goal.placed-requires-clause-fine
placed-requires-clause-fine c =
    let dropped_by : StoredRow → List Written = λ r. map deleted (all_written c.args.table.now c.args.indexes.now r.row) in
    let whole = c.loop-stored.invariant ∙ ap (λ (rs : List StoredRow). put_all (flat_map dropped_by rs) []) (take_all c.loop-stored.stored-index c.args.rows.now c.loop-stored-test.false) in
    subst AreFine (sym whole) c.requires.fine

pub returns : goal.returns
returns c =
    let dropped_by : StoredRow → List Written = λ r. map deleted (all_written c.args.table.now c.args.indexes.now r.row) in
    let whole = c.loop-stored.invariant ∙ ap (λ (rs : List StoredRow). put_all (flat_map dropped_by rs) []) (take_all c.loop-stored.stored-index c.args.rows.now c.loop-stored-test.false) in
    let some : nat_eq (length c.args.rows.now) 0 ≡ false = sym c.is_empty.ensures ∙ c.if-is_empty.false in
    erased-some c.args.n c.args.table.now c.args.indexes.now c.args.rows.now c.loop-stored.writes c.placed.result some whole c.placed.ensures
