use Rattle.std.proofs.Common.{◌≢◌, MatchOption, length, subst, arith}
use Rattle.im_sqltype.specs.Reading.{BeginsWith, BeginsWithNone}
use Rattle.im_sqltype.proofs.RowLemmas.{none_whole_value, not_whole_value}
use Rattle.im_sqltype.proofs.reading.read_value.Goals as goal

pub returns-in-None-clause-none : goal.returns-in-None-clause-none
returns-in-None-clause-none c = λ e other p f.
    let kind = c.args.kind in
    let text = c.args.text.now in
    none_whole_value kind text
    (subst (λ found. MatchOption found (BeginsWithNone kind text) (λ front. BeginsWith kind text front.0 front.1.now)) c.in-None.is c.in_ok-read_front.ensures)
    other p f

pub returns-in-Some-clause-none : goal.returns-in-Some-clause-none
returns-in-Some-clause-none c = λ e other p f.
    let kind = c.args.kind in
    let text = c.args.text.now in
    let rest = c.in-Some.field-0-1.now in
    let more : length rest ≢ 0 = λ z. omega (arith, z, c.in-Some.len_at_least) in
    not_whole_value kind text c.in-Some.value rest
    (subst (λ found. MatchOption found (BeginsWithNone kind text) (λ front. BeginsWith kind text front.0 front.1.now)) c.in-Some.is c.in_ok-read_front.ensures)
    more other p f
