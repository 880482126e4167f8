use Rattle.std.proofs.Common.{◌≡◌, ◌≤◌, ◌+◌, ◌++◌, ℕ}
use Rattle.std.specs.List.{All, sum_by}
use mathlib.Core.List.{IsPrefix}
use Rattle.im_model.specs.Counts.{times}
use Rattle.im_store.specs.Closing.{failures_told, leaves_linked, own_count, weight_in, HoldsAll}
use Rattle.im_store.proofs.store.closing.take_in.Given as goal

abbrev pub invariant-loop-pass : goal.invariant-loop-pass
invariant-loop-pass g l = record {
  can : (goal.iterator-loop-pass g).can_next l.pass-iterator;
  finite : (goal.iterator-loop-pass g).is_finite l.pass-iterator;
  all : l.fn.passes.items ≡ l.yielded ++ l.pass-iterator.rest.items;
  keeper : HoldsAll l.tip.table l.keeper;
  same : (l.keeper.view.seen ≡ l.initial.keeper.view.seen) × (l.keeper.view.least ≡ l.initial.keeper.view.least);
  begins : All (λ p. IsPrefix p.view.seen l.keeper.view.seen) l.yielded;
  durable : All (λ p. p.view.least.durable ≤ l.keeper.view.least.durable) l.yielded;
  failed : All (λ p. p.view.least.failed ≤ l.keeper.view.least.failed) l.yielded;
  linked : All (λ p. p.view.least.linked ≤ l.keeper.view.least.linked) l.yielded;
  weight : l.keeper.view.weight ≡ l.initial.keeper.view.weight + sum_by weight_in l.yielded;
  leaves : l.keeper.view.leaves ≡ l.initial.keeper.view.leaves + sum_by leaves_linked l.yielded;
  faults : l.keeper.view.faults ≡ l.initial.keeper.view.faults + sum_by failures_told l.yielded;
  own : (k : ℕ) → times k l.keeper.view.own ≡ times k l.initial.keeper.view.own + sum_by (own_count k) l.yielded;
}
