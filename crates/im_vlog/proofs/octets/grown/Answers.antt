use Rattle.std.proofs.Common.{◌≡◌, drop, ap, arith, List}
use Rattle.std.proofs.lemmas.List.{drop_all}
use Rattle.im_format.specs.declared.references.ValueRef.{ValueRef}
use Rattle.im_vlog.specs.Sizes.{octets_in}
use Rattle.im_vlog.proofs.octets.grown.Goals as goal

pub returns : goal.returns
returns c =
    let none : octets_in c.args.log (drop c.loop-value.value-index c.args.refs.now) ≡ 0 =
    ap (λ (l : List ValueRef). octets_in c.args.log l) (drop_all c.loop-value.value-index c.args.refs.now (omega arith))
    in
    omega (arith, none, c.loop-value.invariant.total, c.loop-value.invariant.fits)
