use Rattle.std.proofs.Common.{◌≡◌, ◌+◌, ◌∙◌, ℕ, List, Option, Some, length, sym, ap, subst}
use Rattle.im_plan.specs.Bounds.{leading}
use Rattle.im_plan.proofs.BestLemmas.{Best, bound_of, best-more, best-same, best-if-some, first-if-some, best-if-none}
use Rattle.im_plan.proofs.ways.best_index.Goals as goal
use Rattle.im_plan.proofs.ways.best_index.Goals.{then-most-count, else-most-count}

pub loop-at-preserved : goal.loop-at-preserved
loop-at-preserved c =
    let cs = c.args.conjuncts.now in
    let t = c.args.table.now in
    let indexes = c.args.indexes.now in
    let count : ℕ = c.leading_count-count.result in
    let counted : count ≡ bound_of cs t c.index-indexes-at.result = c.leading_count-count.ensures ∙ ap (λ (ns : List ℕ). length (leading cs t ns)) c.as_slice.ensures in
    elim c.if-most-count.branch [
      | then-most-count w ↦
          subst (λ (best : Option ℕ). Best cs t indexes c.args.least (c.loop-at.at + 1) c.if-most-count.most best) (sym w.best-is)
          (subst (λ (most : ℕ). Best cs t indexes c.args.least (c.loop-at.at + 1) most (Some c.loop-at.at)) (sym w.most-is)
          (best-more cs t indexes c.args.least c.loop-at.at c.loop-at.most count c.loop-at.best c.index-indexes-at.result c.loop-at-test.true c.index-indexes-at.is counted w.if-most-count.true c.loop-at.invariant))
      | else-most-count w ↦
          subst (λ (best : Option ℕ). Best cs t indexes c.args.least (c.loop-at.at + 1) c.if-most-count.most best) (sym w.best-is)
          (subst (λ (most : ℕ). Best cs t indexes c.args.least (c.loop-at.at + 1) most c.loop-at.best) (sym w.most-is)
          (best-same cs t indexes c.args.least c.loop-at.at c.loop-at.most count c.loop-at.best c.index-indexes-at.result c.loop-at-test.true c.index-indexes-at.is counted w.if-most-count.false c.loop-at.invariant))
    ]

pub returns-clause-most : goal.returns-clause-most
returns-clause-most c = best-if-some c.args.conjuncts.now c.args.table.now c.args.indexes.now c.args.least c.loop-at.at c.loop-at.most c.loop-at.best c.loop-at-test.false c.loop-at.invariant

pub returns-clause-first : goal.returns-clause-first
returns-clause-first c = first-if-some c.args.conjuncts.now c.args.table.now c.args.indexes.now c.args.least c.loop-at.at c.loop-at.most c.loop-at.best c.loop-at.invariant

pub returns-clause-none : goal.returns-clause-none
returns-clause-none c = best-if-none c.args.conjuncts.now c.args.table.now c.args.indexes.now c.args.least c.loop-at.at c.loop-at.most c.loop-at.best c.loop-at-test.false c.loop-at.invariant
