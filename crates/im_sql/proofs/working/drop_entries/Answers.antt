use Rattle.std.proofs.Common.{sym, ap, ap₂, ◌∙◌}
use Rattle.im_sqlmodel.specs.Writes.{put_written, deleted, entry_written}
use Rattle.im_sqlmodel.specs.declared.tables.SqlIndex.{SqlIndex}
use Rattle.im_sqlmodel.specs.declared.written.Written.{Written}
use Rattle.im_sql.proofs.PutLemmas.{put-next}
use Rattle.im_sql.proofs.working.drop_entries.Goals as goal

pub loop-index-preserved : goal.loop-index-preserved
loop-index-preserved c =
    let made : SqlIndex → Written = λ i. deleted (entry_written c.args.table.now c.args.row.now i) in
    c.in_ok-put.ensures.ok ∙ ap₂ put_written (c.deleted.ensures ∙ ap deleted c.in_ok-entry.ensures) c.loop-index.invariant
    ∙ sym (put-next made c.args.indexes.now c.loop-index.index-index c.index-item.result c.args.writes.now c.loop-index-test.true c.index-item.is)
