use Rattle.std.proofs.Common.{◌≤◌, None, length, refl, subst, sym}
use Rattle.im_store.specs.Placing.{reach_of, TellsNotPlaced}
use Rattle.im_store.specs.declared.errors.CommitError.TheVariants as commits
use Rattle.im_store.specs.declared.store.committing.NotPlaced.{NotPlaced}
use Rattle.im_store.proofs.GainLemmas.{follows_self}
use Rattle.im_store.proofs.store.Store.refuse.Goals as goal

-- memory ran out
pub returns-in-Memory-clause-follows : goal.returns-in-Memory-clause-follows
returns-in-Memory-clause-follows g c = follows_self c.args.pass.now

pub returns-in-Memory-clause-told : goal.returns-in-Memory-clause-told
returns-in-Memory-clause-told g c =
    subst (λ (u : NotPlaced). TellsNotPlaced c.args.pass.now c.args.pass.now u (commits.Memory None)) (sym c.in-Memory.is) refl

-- it was refused
pub refuse_behind-requires-clause-seen : goal.refuse_behind-requires-clause-seen
refuse_behind-requires-clause-seen g c = subst (λ (u : NotPlaced). reach_of u ≤ length c.args.pass.now.view.seen) c.in-Refused.is c.requires.seen

pub returns-in-Refused-clause-told : goal.returns-in-Refused-clause-told
returns-in-Refused-clause-told g c =
    subst (λ (u : NotPlaced). TellsNotPlaced c.args.pass.now c.refuse_behind.new.pass u c.refuse_behind.result) (sym c.in-Refused.is) c.refuse_behind.ensures.told
