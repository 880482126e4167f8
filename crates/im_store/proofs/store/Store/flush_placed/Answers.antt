use Rattle.std.proofs.Common.{◌≡◌, ◌∙◌, ℕ, ap, subst, sym, arith, Err}
use Rattle.im_journal.specs.declared.errors.JournalError.{JournalError}
use Rattle.im_journal.specs.declared.errors.JournalError.TheVariants as halts
use Rattle.im_octet.proofs.Common.{if-err}
use Rattle.im_table.specs.declared.view.AllLooks.{AllLooks}
use Rattle.im_store.specs.Gains.{HasStepped}
use Rattle.im_store.specs.Settling.{faults_told, ExplainsHalt}
use Rattle.im_store.proofs.FlushLemmas.{always_ok, explains_on, passed_told}
use Rattle.im_store.proofs.GainLemmas.{follows_then}
use Rattle.im_store.proofs.store.Store.flush_placed.Goals as goal

pub returns-clause-follows : goal.returns-clause-follows
returns-clause-follows g c =
    follows_then _ c.args.pass.now c.begin.new.pass c.finish.new.pass c.begin.ensures.follows c.finish.ensures.follows

pub returns-clause-failed : goal.returns-clause-failed
returns-clause-failed g c = ap (λ (l : AllLooks). l.failed) c.finish.ensures.looks ∙ c.begin.ensures.failed

pub returns-clause-durable : goal.returns-clause-durable
returns-clause-durable g c = ap (λ (l : AllLooks). l.durable) c.finish.ensures.looks ∙ c.begin.ensures.durable

pub returns-clause-err : goal.returns-clause-err
returns-clause-err g c =
    explains_on c.args.pass.now c.begin.new.pass c.finish.new.pass c.finish.result c.begin.ensures.follows.later.failed c.begin.ensures.follows.looks c.finish.ensures.err

pub returns-clause-placed : goal.returns-clause-placed
returns-clause-placed g c = omega (arith, c.begin.ensures.placed, ap (λ (l : AllLooks). l.placed.last) c.finish.ensures.looks)

pub returns-clause-words : goal.returns-clause-words
returns-clause-words g c = always_ok c.finish.result _ c.finish.ensures.words

-- there is no memory for a batch
pub returns-in_err-begin-clause-follows : goal.returns-in_err-begin-clause-follows
returns-in_err-begin-clause-follows g c =
    let cause : JournalError = c.in_err-begin.field-0.0 in
    let memory : cause ≡ halts.Memory = c.in_err-begin.ensures.memory in
    let none : 0 ≡ faults_told {T = Unit {0}} (Err cause) = ap (λ (k : JournalError). faults_told {T = Unit {0}} (Err k)) (sym memory) in
    subst (λ (k : ℕ). HasStepped k c.args.pass.now c.begin.new.pass) (none ∙ passed_told (Unit {0}) _ cause c.from_residual.result c.from_residual.ensures.1) c.begin.ensures.follows

pub returns-in_err-begin-clause-err : goal.returns-in_err-begin-clause-err
returns-in_err-begin-clause-err g c =
    let cause : JournalError = c.in_err-begin.field-0.0 in
    if-err (λ why. ExplainsHalt c.args.pass.now c.begin.new.pass why) c.from_residual.result cause c.from_residual.ensures.1
    (subst (λ (why : JournalError). ExplainsHalt c.args.pass.now c.begin.new.pass why) (sym c.in_err-begin.ensures.memory) tt)

-- a batch that was begun leaves the count of failures as it was
pub finish-requires-clause-none : goal.finish-requires-clause-none
finish-requires-clause-none g c = omega (arith, c.in_ok-begin.ensures.words.1, c.begin.ensures.going)
