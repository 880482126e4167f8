use Rattle.std.proofs.Common.{◌≡◌, ◌∷◌, map, filter, take}
use Rattle.im_sqlmodel.specs.Writes.{is_guarded}
use Rattle.im_sql.proofs.placing.guarded.Given as goal

abbrev pub invariant-loop-one : goal.invariant-loop-one
invariant-loop-one l = l.keys.items ≡ l.fn.next ∷ filter is_guarded (map (λ w. w.key) (take l.one-index l.written))
