use Rattle.std.proofs.Common.{IfOk, subst}
use Rattle.im_core.specs.Opened.{OpensTo}
use Rattle.im_disk.specs.Recorded.{told_by, Recorded}
use Rattle.im_core.proofs.opening.open_files.Goals as goal

pub returns : goal.returns
returns g c =
    subst (λ (d : Recorded). IfOk c.open_on.result (OpensTo (g.H.Hash32.digest c.args.hash.now) (told_by d))) c.in_ok-disk.ensures c.open_on.ensures
