use Rattle.im_catalog.proofs.PartLemmas.{held-none_at_other}
use Rattle.im_catalog.proofs.fields.read_held.Goals as goal

pub returns-in-None : goal.returns-in-None
returns-in-None c =
    held-none_at_other c.args.text.now c.in-Some.behind.now c.in-Some-read_number.rest.now c.in-Some.code.now c.in-Some-read_number.n
    c.in-Some.ensures.cases.0 c.in-Some-read_number.ensures c.in-None.ensures
