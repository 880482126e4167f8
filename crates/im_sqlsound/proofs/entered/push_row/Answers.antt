use Rattle.std.proofs.Common.{◌∷◌, [], ◌++◌, ap, ◌∙◌}
use Rattle.im_sqlmodel.specs.Writes.{entry_written}
use Rattle.im_sqlmodel.specs.declared.written.Written.{Written}
use Rattle.im_sql.proofs.MapLemmas.{map-step}
use Rattle.im_sqlsound.proofs.entered.push_row.Goals as goal

pub loop-index-preserved : goal.loop-index-preserved
loop-index-preserved c =
    map-step (entry_written c.args.table.now c.args.row.now) c.args.indexes.now c.loop-index.index-index c.index-item.result c.args.entries.now.items c.loop-index.entries.items c.push.new.self.items
    c.loop-index-test.true c.index-item.is c.loop-index.invariant
    (c.in_ok-push.ensures.items ∙ ap (λ (w : Written). c.loop-index.entries.items ++ w ∷ []) c.in_ok-entry.ensures)
