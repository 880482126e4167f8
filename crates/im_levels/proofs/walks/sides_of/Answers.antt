use Rattle.std.proofs.Common.{arith}
use Rattle.im_levels.proofs.PartLemmas.{left-part, right-part, left-reach, right-reach, halves-ones}
use Rattle.im_levels.proofs.WalkLemmas.{path-left, path-right, list-left, list-right}
use Rattle.im_levels.proofs.walks.sides_of.Goals as goal

pub returns-then-i-k-clause-inside_part : goal.returns-then-i-k-clause-inside_part
returns-then-i-k-clause-inside_part c = left-part c.args.part.at c.args.part.width c.split-k.result (record { more = c.requires.more; is = c.split-k.ensures.value }) c.requires.aligned

pub returns-then-i-k-clause-beside_part : goal.returns-then-i-k-clause-beside_part
returns-then-i-k-clause-beside_part c = right-part c.args.part.at c.args.part.width c.split-k.result (record { more = c.requires.more; is = c.split-k.ensures.value }) c.requires.aligned

pub returns-then-i-k-clause-reach : goal.returns-then-i-k-clause-reach
returns-then-i-k-clause-reach c e h = left-reach c.args.part.width c.split-k.result e (record { more = c.requires.more; is = c.split-k.ensures.value }) h

pub returns-then-i-k-clause-digits : goal.returns-then-i-k-clause-digits
returns-then-i-k-clause-digits c = omega (arith, halves-ones c.args.part.width c.split-k.result (record { more = c.requires.more; is = c.split-k.ensures.value }))

pub returns-then-i-k-clause-path : goal.returns-then-i-k-clause-path
returns-then-i-k-clause-path c hash leaves inside = path-left c.args.part.at c.args.part.width c.split-k.result c.args.i (record { more = c.requires.more; is = c.split-k.ensures.value }) (c.split-k.ensures.right c.requires.more) c.if-i-k.true hash leaves inside

pub returns-then-i-k-clause-first : goal.returns-then-i-k-clause-first
returns-then-i-k-clause-first c hash leaves inside grows = (list-left c.args.part.at c.args.part.width c.split-k.result c.args.i (record { more = c.requires.more; is = c.split-k.ensures.value }) (c.split-k.ensures.right c.requires.more) c.if-i-k.true hash leaves inside grows).0

pub returns-then-i-k-clause-rest : goal.returns-then-i-k-clause-rest
returns-then-i-k-clause-rest c hash leaves inside grows = (list-left c.args.part.at c.args.part.width c.split-k.result c.args.i (record { more = c.requires.more; is = c.split-k.ensures.value }) (c.split-k.ensures.right c.requires.more) c.if-i-k.true hash leaves inside grows).1

pub returns-else-i-k-clause-inside_part : goal.returns-else-i-k-clause-inside_part
returns-else-i-k-clause-inside_part c = right-part c.args.part.at c.args.part.width c.split-k.result (record { more = c.requires.more; is = c.split-k.ensures.value }) c.requires.aligned

pub returns-else-i-k-clause-beside_part : goal.returns-else-i-k-clause-beside_part
returns-else-i-k-clause-beside_part c = left-part c.args.part.at c.args.part.width c.split-k.result (record { more = c.requires.more; is = c.split-k.ensures.value }) c.requires.aligned

pub returns-else-i-k-clause-reach : goal.returns-else-i-k-clause-reach
returns-else-i-k-clause-reach c e h = right-reach c.args.part.width c.split-k.result e (record { more = c.requires.more; is = c.split-k.ensures.value }) h

pub returns-else-i-k-clause-digits : goal.returns-else-i-k-clause-digits
returns-else-i-k-clause-digits c = omega (arith, halves-ones c.args.part.width c.split-k.result (record { more = c.requires.more; is = c.split-k.ensures.value }))

pub returns-else-i-k-clause-path : goal.returns-else-i-k-clause-path
returns-else-i-k-clause-path c hash leaves inside = path-right c.args.part.at c.args.part.width c.split-k.result c.args.i (record { more = c.requires.more; is = c.split-k.ensures.value }) (c.split-k.ensures.right c.requires.more) c.if-i-k.false hash leaves inside

pub returns-else-i-k-clause-first : goal.returns-else-i-k-clause-first
returns-else-i-k-clause-first c hash leaves inside grows = (list-right c.args.part.at c.args.part.width c.split-k.result c.args.i (record { more = c.requires.more; is = c.split-k.ensures.value }) (c.split-k.ensures.right c.requires.more) c.if-i-k.false hash leaves inside grows).0

pub returns-else-i-k-clause-rest : goal.returns-else-i-k-clause-rest
returns-else-i-k-clause-rest c hash leaves inside grows = (list-right c.args.part.at c.args.part.width c.split-k.result c.args.i (record { more = c.requires.more; is = c.split-k.ensures.value }) (c.split-k.ensures.right c.requires.more) c.if-i-k.false hash leaves inside grows).1
