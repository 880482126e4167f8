use Rattle.std.proofs.Common.{◌∷◌, [], ◌++◌, List, map, take, ap, sym, ◌∙◌, arith}
use Rattle.std.proofs.lemmas.List.{map_more, take_all}
use Rattle.im_sqlmodel.specs.Writes.{row_written, entry_written}
use Rattle.im_sqlmodel.specs.declared.tables.SqlIndex.{SqlIndex}
use Rattle.im_sqlmodel.specs.declared.written.Written.{Written}
use Rattle.im_catalog.proofs.entries.all_written.Goals as goal

pub loop-index-preserved : goal.loop-index-preserved
loop-index-preserved c =
    let table = c.args.table.now in
    let row = c.args.row.now in
    let indexes : List SqlIndex = c.args.indexes.now in
    let at = c.loop-index.index-index in
    let index : SqlIndex = c.index-item.result in
    let first : Written = row_written table row in
    c.in_ok-push-2.ensures.items
    ∙ ap (λ (w : List Written). w ++ c.in_ok-entry.entry ∷ []) c.loop-index.invariant
    ∙ ap (λ (e : Written). first ∷ map (entry_written table row) (take at indexes) ++ e ∷ []) (c.in_ok-entry.ensures ∙ ap (entry_written table row) c.index-item.is)
    ∙ ap (λ (w : List Written). first ∷ w) (sym (map_more (entry_written table row) indexes at index c.loop-index-test.true))

pub returns : goal.returns
returns c =
    c.loop-index.invariant
    ∙ ap (λ (i : List SqlIndex). row_written c.args.table.now c.args.row.now ∷ map (entry_written c.args.table.now c.args.row.now) i) (take_all c.loop-index.index-index c.args.indexes.now (omega arith))
