-- The value that is lent.
use Rattle.im_sqltype.specs.declared.values.Value.{Value}
use Rattle.im_sqltype.specs.declared.values.Value.TheVariants.{Null, Integer, Boolean, Varchar, Blob}
use Rattle.im_expr.specs.declared.lent.Lent.{Lent}
use Rattle.im_expr.specs.declared.lent.Lent.TheVariants as lent

abbrev pub lent_value : Lent → Value
lent_value lent.Null = Null
lent_value (lent.Integer number) = Integer number
lent_value (lent.Boolean truth) = Boolean truth
lent_value (lent.Varchar octets) = Varchar octets.now
lent_value (lent.Blob octets) = Blob octets.now
