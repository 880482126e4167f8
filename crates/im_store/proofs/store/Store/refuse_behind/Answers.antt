use Rattle.std.proofs.Common.{◌∙◌, ℕ, None, inl, inr, ap, subst, sym}
use Rattle.im_store.specs.Commits.{faults_of_error, number_told, IsStop}
use Rattle.im_store.specs.Gains.{HasStepped}
use Rattle.im_store.specs.declared.errors.CommitError.{CommitError}
use Rattle.im_store.proofs.ReceiptLemmas.{halted_faults, halted_going, halted_none, refused_faults, refused_none}
use Rattle.im_store.proofs.store.Store.refuse_behind.Goals as goal

-- what it was judged behind is durable
pub returns-in-Ok-clause-none : goal.returns-in-Ok-clause-none
returns-in-Ok-clause-none g c = ap (λ (e : CommitError). number_told e) c.refused.ensures ∙ refused_none c.args.why c.args.at

pub returns-in-Ok-clause-follows : goal.returns-in-Ok-clause-follows
returns-in-Ok-clause-follows g c =
    subst (λ (k : ℕ). HasStepped k c.args.pass.now c.settle_to.new.pass)
    (sym (ap (λ (e : CommitError). faults_of_error e) c.refused.ensures ∙ refused_faults c.args.why c.args.at)) c.in-Ok.ensures.follows

pub returns-in-Ok-clause-told : goal.returns-in-Ok-clause-told
returns-in-Ok-clause-told g c = inl (c.refused.ensures, c.in-Ok.ensures.ok)

pub returns-in-Ok-clause-failed : goal.returns-in-Ok-clause-failed
returns-in-Ok-clause-failed g c going = c.in-Ok.ensures.failed (λ h. h)

-- the journal halted
pub returns-in-Err-clause-none : goal.returns-in-Err-clause-none
returns-in-Err-clause-none g c = ap (λ (e : CommitError). number_told e) c.halted.ensures ∙ halted_none c.in-Err.cause

pub returns-in-Err-clause-follows : goal.returns-in-Err-clause-follows
returns-in-Err-clause-follows g c =
    let told = subst (λ (k : ℕ). HasStepped k c.args.pass.now c.settle_to.new.pass) (halted_faults (Unit {0}) c.in-Err.cause None) c.in-Err.ensures.follows in
    subst (λ (e : CommitError). HasStepped (faults_of_error e) c.args.pass.now c.settle_to.new.pass) (sym c.halted.ensures) told

pub returns-in-Err-clause-told : goal.returns-in-Err-clause-told
returns-in-Err-clause-told g c = inr (c.in-Err.cause, c.halted.ensures, c.in-Err.ensures.err, c.in-Err.ensures.fewer)

pub returns-in-Err-clause-failed : goal.returns-in-Err-clause-failed
returns-in-Err-clause-failed g c going =
    c.in-Err.ensures.failed (halted_going (Unit {0}) c.in-Err.cause None (subst (λ (e : CommitError). IsStop e → ⊥) c.halted.ensures going))
