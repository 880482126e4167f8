use Rattle.std.proofs.Common.{arith}
use Rattle.im_dealing.proofs.RefusedLemmas.{beyond_between, order_between}
use Rattle.im_dealing.proofs.proofs.refused_between.Goals as goal

pub returns-then-s-eq0-clause-refused : goal.returns-then-s-eq0-clause-refused
returns-then-s-eq0-clause-refused c = order_between c.args.count c.args.s c.args.t c.in_ok-order_text.field-0.items (λ some order. omega arith) c.in_ok-order_text.ensures

pub returns-then-count-t-clause-refused : goal.returns-then-count-t-clause-refused
returns-then-count-t-clause-refused c =
    beyond_between c.args.count c.args.s c.args.t c.in_ok-beyond_text.field-0.items (omega arith) (omega arith) (omega arith) c.in_ok-beyond_text.ensures
