use Rattle.std.proofs.Common.{◌≡◌, ◌≢◌, refl}
use Rattle.std.specs.declared.cmp.Ordering.TheVariants.{Less}
use Rattle.im_sqltype.specs.Orders.{value_cmp}
use Rattle.im_sqltype.specs.declared.values.Value.{Value}
use Rattle.im_sqltype.specs.declared.values.Value.TheVariants.{Null}
use Rattle.im_sqltype.proofs.FrontLemmas.{value_cmp-exact}
use Rattle.im_sqltype.proofs.laws.null_is_first.Goals as goal

first : (v : Value) → v ≢ Null → value_cmp Null v ≡ Less
first Null h = absurd (h refl)
first v h = refl

pub returns-clause-first : goal.returns-clause-first
returns-clause-first c = first

pub returns-clause-apart : goal.returns-clause-apart
returns-clause-apart c = value_cmp-exact
