use Rattle.std.proofs.Common.{◌∙◌, ℕ, Some, subst, sym}
use Rattle.im_store.specs.Gains.{HasStepped}
use Rattle.im_store.specs.Commits.{faults_of_error, IsStop}
use Rattle.im_store.specs.declared.errors.CommitError.{CommitError}
use Rattle.im_store.proofs.GainLemmas.{follows_then}
use Rattle.im_store.proofs.ReceiptLemmas.{halted_faults, halted_going, memory_halts}
use Rattle.im_store.proofs.store.Store.acknowledge.Goals as goal

-- it is durable
pub returns-in-Ok-clause-follows : goal.returns-in-Ok-clause-follows
returns-in-Ok-clause-follows g c =
    follows_then _ c.args.pass.now c.settle_to.new.pass c.receipt.new.pass c.in-Ok.ensures.follows c.receipt.ensures.follows

pub returns-in-Ok-clause-err : goal.returns-in-Ok-clause-err
returns-in-Ok-clause-err g c = memory_halts c.args.pass.now c.receipt.new.pass c.args.id c.receipt.result c.receipt.ensures.err

pub returns-in-Ok-clause-failed : goal.returns-in-Ok-clause-failed
returns-in-Ok-clause-failed g c going = c.receipt.ensures.failed ∙ c.in-Ok.ensures.failed (λ h. h)

-- it isn't
pub returns-in-Err-clause-follows : goal.returns-in-Err-clause-follows
returns-in-Err-clause-follows g c =
    let told = subst (λ (k : ℕ). HasStepped k c.args.pass.now c.settle_to.new.pass) (halted_faults (Unit {0}) c.in-Err.cause (Some c.args.id)) c.in-Err.ensures.follows in
    subst (λ (e : CommitError). HasStepped (faults_of_error e) c.args.pass.now c.settle_to.new.pass) (sym c.halted.ensures) told

pub returns-in-Err-clause-err : goal.returns-in-Err-clause-err
returns-in-Err-clause-err g c = (c.in-Err.cause, c.halted.ensures, c.in-Err.ensures.err)

pub returns-in-Err-clause-failed : goal.returns-in-Err-clause-failed
returns-in-Err-clause-failed g c going =
    c.in-Err.ensures.failed (halted_going (Unit {0}) c.in-Err.cause (Some c.args.id) (subst (λ (e : CommitError). IsStop e → ⊥) c.halted.ensures going))
