use Rattle.std.proofs.Common.{MatchOption, ◌+◌, get_or, take, subst, sym}
use Rattle.im_sqltype.specs.Reading.{BeginsWith, BeginsWithNone, BeginWith}
use Rattle.im_sqltype.specs.declared.kinds.ValueKind.TheVariants as kinds
use Rattle.im_sqltype.proofs.RowLemmas.{more_at_index}
use Rattle.im_sqltype.proofs.reading.read_values.Goals as goal

pub loop-kind-preserved : goal.loop-kind-preserved
loop-kind-preserved c =
    let all = c.args.kinds.now in
    let i = c.loop-kind.kind-index in
    let text = c.args.text.now in
    let left = c.loop-kind.left.now in
    let rest = c.in-Some.rest.now in
    let kind = get_or all i kinds.Integer in
    subst (λ values. BeginWith (take (i + 1) all) text values rest) (sym c.in_ok-push.ensures.items)
    (more_at_index all i kinds.Integer text c.loop-kind.values.items left c.in-Some.value rest c.loop-kind-test.true c.loop-kind.invariant
    (subst (λ found. MatchOption found (BeginsWithNone kind left) (λ front. BeginsWith kind left front.0 front.1.now)) c.in-Some.is c.in_ok-value.ensures))
