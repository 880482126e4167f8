use Rattle.std.proofs.Common.{sym, ap₂, ◌∙◌}
use Rattle.im_sqlmodel.specs.Writes.{put_written, deleted}
use Rattle.im_sql.proofs.PutLemmas.{put-yielded}
use Rattle.im_sql.proofs.deleting.erase_row.Goals as goal

pub loop-one-preserved : goal.loop-one-preserved
loop-one-preserved c =
    c.in_ok-put.ensures.ok ∙ ap₂ put_written c.deleted.ensures c.loop-one.invariant ∙ sym (put-yielded deleted c.loop-one.yielded c.in-Some.one c.args.writes.now)
