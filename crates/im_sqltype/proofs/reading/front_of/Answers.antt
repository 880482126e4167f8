use Rattle.im_sqltype.proofs.OctetLemmas.{none_in_broken}
use Rattle.im_sqltype.proofs.reading.front_of.Goals as goal

pub returns : goal.returns
returns c =
    none_in_broken c.args.text.now c.in-Some.behind.now c.in-Some-split_first.rest.now c.in-Some.first.now c.in-Some-split_first.second.now
    c.in-Some.ensures.cases.0 c.if-first-ne0.false c.in-Some-split_first.ensures.cases.0 c.if-second-eq0.false c.if-second.false
