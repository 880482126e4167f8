use Rattle.im_dealing.proofs.ReadLemmas.{read-beyond, some-said}
use Rattle.im_report.specs.Reads.{IsGetAnswer}
use Rattle.im_dealing.proofs.reads.get_text.Goals as goal

pub returns-in-Some : goal.returns-in-Some
returns-in-Some g c history stands size =
    let refused = some-said _ _ c.in-Some.refused c.in-Some.is c.in_ok-refused.ensures.refused in
    read-beyond history c.args.at (IsGetAnswer c.args.key.now) c.in-Some.refused.items c.args.count refused.0 size refused.1 refused.2 refused.3
