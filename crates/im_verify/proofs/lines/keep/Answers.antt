use Rattle.std.proofs.Common.{ap, option_copied}
use Rattle.im_verify.proofs.lines.keep.Goals as goal

pub returns-in_err-append-clause-accepted : goal.returns-in_err-append-clause-accepted
returns-in_err-append-clause-accepted g c = λ e. (c.in-Some.message.now, ap option_copied c.in-Some.is)
