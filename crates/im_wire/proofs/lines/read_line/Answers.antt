use Rattle.im_wire.proofs.LineLemmas.{reads-refused}
use Rattle.im_wire.proofs.lines.read_line.Goals as goal

pub returns-in-Err : goal.returns-in-Err
returns-in-Err c = reads-refused c.args.line.now c.in-Some.text.now c.in-Err.error c.in-Some.ensures.some c.in-Err.ensures
