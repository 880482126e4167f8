-- The order of octet strings, of values and of lists of values.
use Rattle.std.specs.Prelude.{ℕ, List}
use Rattle.std.specs.declared.cmp.Ordering.{Ordering}
use Rattle.std.specs.Ordering.{nat_cmp, int_cmp, bool_cmp}
use Rattle.std.specs.Cmp.Lexicographic.{slice_cmp}
use Rattle.im_sqltype.specs.declared.values.Value.{Value}
use Rattle.im_sqltype.specs.declared.values.Value.TheVariants.{Null, Integer, Boolean, Varchar, Blob}

-- octet strings: the first octet that differs decides, else the shorter is below
abbrev pub octets_cmp : List ℕ → List ℕ → Ordering
octets_cmp = slice_cmp nat_cmp

-- where values stand that are of different kinds: NULL before all others
abbrev pub rank_of : Value → ℕ
rank_of Null = 0
rank_of (Integer number) = 1
rank_of (Boolean truth) = 2
rank_of (Varchar octets) = 3
rank_of (Blob octets) = 4

-- values: numbers by their size, false below true, texts and blobs by their octets, NULL first
abbrev pub value_cmp : Value → Value → Ordering
value_cmp (Integer x) (Integer y) = int_cmp x y
value_cmp (Boolean x) (Boolean y) = bool_cmp x y
value_cmp (Varchar x) (Varchar y) = octets_cmp x y
value_cmp (Blob x) (Blob y) = octets_cmp x y
value_cmp x y = nat_cmp (rank_of x) (rank_of y)

-- lists of values: the first column that differs decides, else the shorter list is below
abbrev pub row_cmp : List Value → List Value → Ordering
row_cmp = slice_cmp value_cmp
