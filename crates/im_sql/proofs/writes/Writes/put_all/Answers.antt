use Rattle.std.proofs.Common.{sym, ap, ◌∙◌}
use Rattle.im_sqlmodel.specs.Writes.{put_written}
use Rattle.im_sql.proofs.PutLemmas.{put-all-push}
use Rattle.im_sql.proofs.writes.Writes.put_all.Goals as goal

pub loop-one-preserved : goal.loop-one-preserved
loop-one-preserved c =
    c.in_ok-put.ensures.ok ∙ ap (put_written c.in-Some.one) c.loop-one.invariant ∙ sym (put-all-push c.loop-one.yielded c.in-Some.one c.args.self.now)
