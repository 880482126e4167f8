use Rattle.std.proofs.lemmas.Slice.Eq.{starts_is}
use Rattle.std.proofs.lemmas.Bool.{both_ways}
use Rattle.im_text.proofs.CutLemmas.{after-prefix}
use Rattle.std.proofs.lemmas.Bool.Decides.{Decides-eqb}
use Rattle.im_text.proofs.cuts.after.Goals as goal

pub returns-then-starts_with-clause-some : goal.returns-then-starts_with-clause-some
returns-then-starts_with-clause-some c =
    after-prefix c.args.text.now c.args.prefix.now ((starts_is Decides-eqb c.args.text.now c.args.prefix.now c.starts_with.result c.starts_with.ensures.value).0 c.if-starts_with.true)

pub returns-else-starts_with-clause-none : goal.returns-else-starts_with-clause-none
returns-else-starts_with-clause-none c = λ rest e.
    both_ways c.starts_with.result c.if-starts_with.false ((starts_is Decides-eqb c.args.text.now c.args.prefix.now c.starts_with.result c.starts_with.ensures.value).1 rest e)
