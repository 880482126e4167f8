-- Values that there are.
use Rattle.std.specs.Prelude.{⊤, FitsSigned}
use Rattle.std.specs.Int.{w64}
use Rattle.im_sqltype.specs.declared.values.Value.{Value}
use Rattle.im_sqltype.specs.declared.values.Value.TheVariants.{Integer}

-- an integer has 64 bits with a sign
abbrev pub IsInRange : Value → Type 0
IsInRange (Integer number) = FitsSigned w64 number
IsInRange other = ⊤
