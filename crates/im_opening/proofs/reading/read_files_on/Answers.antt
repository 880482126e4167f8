use Rattle.std.proofs.Common.{◌∙◌, subst, Option}
use Rattle.std.specs.Prelude.{IfOk}
use Rattle.im_disk.specs.Disk.{Told}
use Rattle.im_opening.specs.Opening.{IsGivenBy}
use Rattle.im_opening.proofs.reading.read_files_on.Goals as goal

pub returns-clause-given : goal.returns-clause-given
returns-clause-given g c =
    let G : Option Told → Type 0 = λ o. IfOk c.read_logs_on.result (IsGivenBy (g.H.Hash32.digest c.args.hash.now) o) in
    subst G (c.in_ok-log.ensures.told ∙ c.in_ok-commits.ensures.told) c.read_logs_on.ensures.given
