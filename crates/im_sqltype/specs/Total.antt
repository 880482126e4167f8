-- That the order of values is a total one, for the trait `Ord`.
use Rattle.std.specs.Prelude.{◌≡◌, ℕ, ℤ, pos, true, false, List, [], refl}
use Rattle.std.proofs.Common.{subst}
use Rattle.std.specs.declared.cmp.Ordering.{Ordering}
use Rattle.std.specs.declared.cmp.Ordering.TheVariants.{Less, Equal, Greater}
use Rattle.std.specs.Ordering.{ordering_then, nat_cmp, int_cmp, on, then_cmp}
use Rattle.std.specs.Cmp.{IsTotalOrder, then_total, on_total, nat_cmp_total, int_cmp_total}
use Rattle.std.specs.Cmp.Lexicographic.{nat_list_cmp_total}
use Rattle.im_sqltype.specs.Orders.{octets_cmp, rank_of, value_cmp}
use Rattle.im_sqltype.specs.declared.values.Value.{Value}
use Rattle.im_sqltype.specs.declared.values.Value.TheVariants.{Null, Integer, Boolean, Varchar, Blob}

-- the number in a value, where false is 0 and true is 1
abbrev value_number : Value → ℤ
value_number (Integer number) = number
value_number (Boolean true) = pos 1
value_number value = pos 0

-- the octets in a value
abbrev value_octets : Value → List ℕ
value_octets (Varchar octets) = octets
value_octets (Blob octets) = octets
value_octets value = []

-- the same order, by rank, number and octets
abbrev parts_cmp : Value → Value → Ordering
parts_cmp = then_cmp (on rank_of nat_cmp) (then_cmp (on value_number int_cmp) (on value_octets octets_cmp))

-- an order behind which nothing is told stays as it is
pub then-Equal : (o : Ordering) → ordering_then o Equal ≡ o
then-Equal Less = refl
then-Equal Equal = refl
then-Equal Greater = refl

parts_cmp-value_cmp : (x y : Value) → parts_cmp x y ≡ value_cmp x y
parts_cmp-value_cmp (Integer x) (Integer y) = then-Equal (int_cmp x y)
parts_cmp-value_cmp (Boolean false) (Boolean false) = refl
parts_cmp-value_cmp (Boolean false) (Boolean true) = refl
parts_cmp-value_cmp (Boolean true) (Boolean false) = refl
parts_cmp-value_cmp (Boolean true) (Boolean true) = refl
parts_cmp-value_cmp Null Null = refl
parts_cmp-value_cmp (Varchar x) (Varchar y) = refl
parts_cmp-value_cmp (Blob x) (Blob y) = refl
parts_cmp-value_cmp x y = refl

pub value_cmp-total : IsTotalOrder value_cmp
value_cmp-total =
    subst IsTotalOrder (λ i x y. parts_cmp-value_cmp x y i)
    (then_total (on_total rank_of nat_cmp_total) (then_total (on_total value_number int_cmp_total) (on_total value_octets nat_list_cmp_total)))
