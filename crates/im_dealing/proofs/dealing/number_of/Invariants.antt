use Rattle.std.proofs.Common.{◌≡◌, true, drop}
use Rattle.im_script.specs.Script.{has_name}
use Rattle.im_dealing.proofs.dealing.number_of.Given as goal

-- it is one of the names ahead
abbrev pub invariant-loop-number : goal.invariant-loop-number
invariant-loop-number l = has_name (drop l.number l.names) l.name ≡ true
