use Rattle.std.proofs.Common.{◌≡◌, map, take}
use Rattle.im_sql.proofs.names.names_of.Given as goal

abbrev pub invariant-loop-name : goal.invariant-loop-name
invariant-loop-name l = map (λ n. n.now) l.lent.items ≡ map (λ n. n) (take l.name-index l.names)
