use Rattle.std.proofs.Common.{◌≡◌, [], map, take, drop}
use Rattle.im_sqlmodel.specs.Creations.{twice_behind}
use Rattle.im_sql.proofs.names.twice_fault.Given as goal

-- none of those so far stood earlier
abbrev pub invariant-loop-at : goal.invariant-loop-at
invariant-loop-at l = twice_behind (map (λ n. n.now) (take l.at l.names)) (map (λ n. n.now) (drop l.at l.names)) ≡ twice_behind [] (map (λ n. n.now) l.names)
