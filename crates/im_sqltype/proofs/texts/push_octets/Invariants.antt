use Rattle.std.proofs.Common.{◌≡◌, ◌++◌, take}
use Rattle.std.specs.List.{flat_map}
use Rattle.im_sqltype.specs.Texts.{octet_text}
use Rattle.im_sqltype.proofs.texts.push_octets.Given as goal

-- the texts of the octets so far were written
abbrev pub invariant-loop-octet : goal.invariant-loop-octet
invariant-loop-octet l = l.out ≡ l.initial.out ++ flat_map octet_text (take l.octet-index l.octets)
