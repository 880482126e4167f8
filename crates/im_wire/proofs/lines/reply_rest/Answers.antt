use Rattle.std.proofs.lemmas.Bool.{both_ways}
use Rattle.im_wire.proofs.LineLemmas.{reply-bad-session, reply-tail, reply-bad-number}
use Rattle.im_wire.proofs.lines.reply_rest.Goals as goal

pub returns-then-not-is_session-clause-none : goal.returns-then-not-is_session-clause-none
returns-then-not-is_session-clause-none c = λ rest r.
    reply-bad-session c.args.line.now rest c.in-Some.session.now c.in-Some.tail.now c.in-Some.ensures.some
    (λ h. both_ways c.is_session.result c.if-not-is_session.true (c.is_session.ensures.1 h)) r

pub returns-in_default-cut-clause-none : goal.returns-in_default-cut-clause-none
returns-in_default-cut-clause-none c = λ rest r.
    reply-tail c.args.line.now rest c.in-Some.session.now c.in-Some.tail.now c.in-Some.ensures.some c.in_default-cut.ensures.none r

pub returns-then-not-is_digits-clause-none : goal.returns-then-not-is_digits-clause-none
returns-then-not-is_digits-clause-none c = λ rest r.
    reply-bad-number c.args.line.now rest c.in-Some.session.now c.in-Some.tail.now c.in-Some-cut.number.now c.in-Some-cut.rest.now
    c.in-Some.ensures.some c.in-Some-cut.ensures.some (λ h. both_ways c.is_digits.result c.if-not-is_digits.true (c.is_digits.ensures.value.1 h)) r
