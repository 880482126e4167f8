-- The texts of values, in keys and in rows.
use Rattle.std.specs.Prelude.{ℕ, zero, suc, ℤ, pos, negsuc, ◌+◌, ◌-◌, ◌^◌, List, [], ◌∷◌, ◌++◌, if◌then◌else◌}
use Rattle.std.specs.List.{flat_map}
use Rattle.im_octet.specs.Fields.{field8}
use Rattle.im_sqltype.specs.declared.values.Value.{Value}
use Rattle.im_sqltype.specs.declared.values.Value.TheVariants.{Null, Integer, Boolean, Varchar, Blob}

-- a number of 64 bits with a sign plus 2^63, which has none
abbrev pub raised : ℤ → ℕ
raised (pos n) = 2 ^ 63 + n
raised (negsuc n) = 2 ^ 63 - (n + 1)

-- 00 is written as 00 ff, each other octet as itself
abbrev pub octet_text : ℕ → List ℕ
octet_text zero = 0 ∷ 255 ∷ []
octet_text (suc n) = suc n ∷ []

-- octets of any number: each as above, and 00 00 behind the last
unfoldable pub octets_text : List ℕ → List ℕ
octets_text octets = flat_map octet_text octets ++ 0 ∷ 0 ∷ []

-- 00 for NULL; else 01 and the number plus 2^63 as 8 octets, 00 or 01 for false or true, or the octets
abbrev pub value_text : Value → List ℕ
value_text Null = 0 ∷ []
value_text (Integer number) = 1 ∷ field8 (raised number)
value_text (Boolean truth) = 1 ∷ (if truth then 1 else 0) ∷ []
value_text (Varchar octets) = 1 ∷ octets_text octets
value_text (Blob octets) = 1 ∷ octets_text octets

-- the texts of the columns, one behind the other
abbrev pub row_text : List Value → List ℕ
row_text values = flat_map value_text values
