use Rattle.std.proofs.Common.{◌≢◌, MatchOption, length, subst, arith}
use Rattle.im_sqltype.specs.Reading.{BeginWith, BeginWithNone}
use Rattle.im_sqltype.proofs.RowLemmas.{none_whole_row, not_whole_row}
use Rattle.im_sqltype.proofs.reading.read_row.Goals as goal

pub returns-in-None-clause-none : goal.returns-in-None-clause-none
returns-in-None-clause-none c = λ e others p f.
    let kinds = c.args.kinds.now in
    let text = c.args.text.now in
    none_whole_row kinds text
    (subst (λ found. MatchOption found (BeginWithNone kinds text) (λ front. BeginWith kinds text front.0.items front.1.now)) c.in-None.is c.in_ok-read_values.ensures)
    others p f

pub returns-in-Some-clause-none : goal.returns-in-Some-clause-none
returns-in-Some-clause-none c = λ e others p f.
    let kinds = c.args.kinds.now in
    let text = c.args.text.now in
    let rest = c.in-Some.field-0-1.now in
    let more : length rest ≢ 0 = λ z. omega (arith, z, c.in-Some.len_at_least) in
    not_whole_row kinds text c.in-Some.values.items rest
    (subst (λ found. MatchOption found (BeginWithNone kinds text) (λ front. BeginWith kinds text front.0.items front.1.now)) c.in-Some.is c.in_ok-read_values.ensures)
    more others p f
