use Rattle.std.proofs.Common.{arith, List, ap}
use Rattle.std.proofs.Math.ListN.{drop_of_length-le}
use Rattle.im_format.specs.Places.{log_end}
use Rattle.im_format.specs.declared.references.ValueRef.{ValueRef}
use Rattle.im_opening.proofs.ends.end_behind.Goals as goal

pub returns : goal.returns
returns c =
    let inv = c.loop-value.invariant in
    let none = ap (λ (l : List ValueRef). log_end c.args.log l) (drop_of_length-le c.args.refs.now {i = c.loop-value.value-index} (omega (arith, c.loop-value-test.false))) in
    omega (arith, inv.is, inv.small, none)
