use Rattle.std.proofs.Common.{◌≡◌, ◌++◌, take}
use Rattle.std.specs.List.{flat_map}
use Rattle.im_sqlreply.specs.Replies.{quoted_octet}
use Rattle.im_sqlreply.proofs.rows.push_text.Given as goal

-- the octets so far were added
abbrev pub invariant-loop-octet : goal.invariant-loop-octet
invariant-loop-octet l = l.out.items ≡ l.initial.out.items ++ flat_map quoted_octet (take l.octet-index l.octets)
