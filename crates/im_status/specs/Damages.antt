-- How a damage of the files is told.
use Rattle.std.specs.Prelude.{ℕ, List, ◌++◌, codes}
use Rattle.std.specs.Fmt.{decimal}
use Rattle.hex.specs.Hex.{encode_lower}
use Rattle.im_format.specs.declared.damages.Damage.{Damage}
use Rattle.im_format.specs.declared.damages.Difference.{Difference}
use Rattle.im_format.specs.declared.damages.Difference.TheVariants.{Numbers, Digests}

-- what was wanted and what was found: numbers in decimal, digests in lower-case hex
abbrev pub difference_words : Difference → List ℕ
difference_words (Numbers want got) = decimal want ++ codes " " ++ decimal got
difference_words (Digests want got) = encode_lower want ++ codes " " ++ encode_lower got

-- the file, the place in it, what was wanted and what was found
unfoldable pub damage_words : Damage → List ℕ
damage_words d = decimal d.file ++ codes " " ++ decimal d.at ++ codes " " ++ difference_words d.found
