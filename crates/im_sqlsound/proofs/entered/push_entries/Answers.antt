use Rattle.std.proofs.Common.{◌++◌, List, map, flat_map, ap, ◌∙◌}
use Rattle.std.proofs.lemmas.List.{take_all}
use Rattle.im_sqltype.specs.declared.values.Value.{Value}
use Rattle.im_sqlmodel.specs.Writes.{entry_written}
use Rattle.im_sqlmodel.specs.declared.rows.StoredRow.{StoredRow}
use Rattle.im_sqlmodel.specs.declared.tables.SqlIndex.{SqlIndex}
use Rattle.im_sqlmodel.specs.declared.written.Written.{Written}
use Rattle.im_sqlsound.proofs.HangLemmas.{flat-step}
use Rattle.im_sqlsound.proofs.entered.push_entries.Goals as goal

pub loop-stored-preserved : goal.loop-stored-preserved
loop-stored-preserved c =
    let t = c.args.found.now.table in
    let indexes = c.as_slice-indexes.result.now in
    let given : StoredRow → List Written = λ s. map (entry_written t s.row) indexes in
    flat-step given c.as_slice-rows.result.now c.loop-stored.stored-index c.stored-item.result c.args.entries.now.items c.loop-stored.entries.items c.push_row.new.entries.items
    c.loop-stored-test.true c.stored-item.is c.loop-stored.invariant
    (c.in_ok-push_row.ensures ∙ ap (λ (row : List Value). c.loop-stored.entries.items ++ map (entry_written t row) indexes) c.as_slice.ensures)

pub returns : goal.returns
returns c =
    let t = c.args.found.now.table in
    let old = c.args.entries.now.items in
    let indexes = c.as_slice-indexes.result.now in
    let given : StoredRow → List Written = λ s. map (entry_written t s.row) indexes in
    c.loop-stored.invariant
    ∙ ap (λ (rows : List StoredRow). old ++ flat_map given rows) (take_all c.loop-stored.stored-index c.as_slice-rows.result.now c.loop-stored-test.false ∙ c.as_slice-rows.ensures)
    ∙ ap (λ (is : List SqlIndex). old ++ flat_map (λ (s : StoredRow). map (entry_written t s.row) is) c.args.found.now.rows) c.as_slice-indexes.ensures
