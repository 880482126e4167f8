use Rattle.std.proofs.Common.{◌≡◌, ◌++◌, length}
use Rattle.std.specs.List.{flat_map}
use Rattle.im_sqltype.specs.Texts.{octet_text}
use Rattle.im_sqltype.proofs.reading.read_octets.Given as goal

-- the text is that of the octets so far, and of what is left
abbrev pub invariant-loop-octet : goal.invariant-loop-octet
invariant-loop-octet l = l.text ≡ flat_map octet_text l.octets.items ++ l.left

abbrev pub decreases-loop-octet : goal.decreases-loop-octet
decreases-loop-octet l = length l.left
