use Rattle.std.proofs.Common.{Some}
use Rattle.im_client.proofs.SaysLemmas.{says-none, says-one}
use Rattle.im_facts.proofs.noted.message_again.Goals as goal

pub returns-in-Ok-Some : goal.returns-in-Ok-Some
returns-in-Ok-Some c = λ m is. says-one c.args.line.now c.in-Ok-Some.message m (rw c.in-Ok-Some.field-0-is at c.in-Ok-Some.ensures) is

pub unreachable-requires : goal.unreachable-requires
unreachable-requires c = says-none c.args.line.now c.requires.0 (rw c.in-Ok-None.field-0-is at c.in-Ok-None.ensures) c.requires.1

pub unreachable-requires-in-Err-Syntax : goal.unreachable-requires-in-Err-Syntax
unreachable-requires-in-Err-Syntax c = (rw c.in-Err-Syntax.field-0-is at c.in-Err-Syntax.ensures) (Some c.requires.0) c.requires.1
