use Rattle.std.proofs.Common.{◌≡◌, ◌≤◌, ◌<◌, All, MatchOption, length, take}
use Rattle.im_sqlmodel.specs.declared.tables.SqlIndex.{SqlIndex}
use Rattle.im_plan.specs.Bounds.{leading}
use Rattle.im_plan.specs.Plans.{index_at}
use Rattle.im_plan.proofs.ways.best_index.Given as goal

-- no index so far has more leading columns bound; the one that was found has so many, and those before it fewer
abbrev pub invariant-loop-at : goal.invariant-loop-at
invariant-loop-at l =
    All (λ (i : SqlIndex). length (leading l.conjuncts l.table i.columns) ≤ l.most) (take l.at l.indexes)
    × MatchOption l.best (l.most ≡ l.least)
    (λ best. (best < l.at) × (l.least < l.most) × (l.most ≡ length (leading l.conjuncts l.table (index_at l.indexes best).columns))
    × All (λ (i : SqlIndex). length (leading l.conjuncts l.table i.columns) < l.most) (take best l.indexes))
