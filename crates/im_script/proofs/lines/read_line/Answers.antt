use Rattle.std.proofs.lemmas.Bool.{both_ways}
use Rattle.im_text.proofs.FindsLemmas.{Finds-none}
use Rattle.im_script.proofs.LineLemmas.{line-bad-session, line-no-space, line-bad-command}
use Rattle.im_script.proofs.lines.read_line.Goals as goal

pub returns-then-not-is_session : goal.returns-then-not-is_session
returns-then-not-is_session c =
    line-bad-session c.args.text.now c.in-Some.session.now c.in-Some.tail.now c.in-Some.ensures.some
    (λ h. both_ways c.is_session.result c.if-not-is_session.true (c.is_session.ensures.1 h))

pub returns-in_default-after : goal.returns-in_default-after
returns-in_default-after c =
    line-no-space c.args.text.now c.in-Some.session.now c.in-Some.tail.now c.in-Some.ensures.some c.in_default-after.ensures.none

pub returns-in_default-2 : goal.returns-in_default-2
returns-in_default-2 c =
    let none = Finds-none _ c.in_ok-command.field-0 c.in_default-2.not-Some c.in_ok-command.ensures in
    line-bad-command c.args.text.now c.in-Some.session.now c.in-Some.tail.now c.in-Some-after.rest.now c.in-Some.ensures.some c.in-Some-after.ensures.some none
