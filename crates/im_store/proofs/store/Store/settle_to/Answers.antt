use Rattle.std.proofs.Common.{◌∙◌, ap, arith}
use Rattle.im_table.specs.declared.view.AllLooks.{AllLooks}
use Rattle.im_table.proofs.PassLemmas.{later_both}
use Rattle.im_store.proofs.FlushLemmas.{always_err, explains_on}
use Rattle.im_store.proofs.GainLemmas.{follows_shown, follows_then, saw_fewer_still}
use Rattle.im_store.proofs.store.Store.settle_to.Goals as goal

-- the journal is shown, behind the wait for its lock
pub returns-clause-follows : goal.returns-clause-follows
returns-clause-follows g c =
    let wait = c.journal_for in
    let show = c.show in
    let last = c.flush_to in
    let a = follows_then 0 c.args.pass.now wait.new.pass show.new.pass wait.ensures.follows (follows_shown wait.new.pass show.new.pass show.ensures.later show.ensures.adds show.ensures.looks) in
    follows_then _ c.args.pass.now show.new.pass last.new.pass a last.ensures.follows

pub returns-clause-err : goal.returns-clause-err
returns-clause-err g c =
    let wait = c.journal_for in
    let show = c.show in
    let last = c.flush_to in
    let a = follows_then 0 c.args.pass.now wait.new.pass show.new.pass wait.ensures.follows (follows_shown wait.new.pass show.new.pass show.ensures.later show.ensures.adds show.ensures.looks) in
    explains_on c.args.pass.now show.new.pass last.new.pass last.result a.later.failed a.looks last.ensures.err

pub returns-clause-failed : goal.returns-clause-failed
returns-clause-failed g c going =
    c.flush_to.ensures.failed going ∙ ap (λ (l : AllLooks). l.failed) c.show.ensures.looks ∙ c.journal_for.ensures.failed

-- fewer were durable when the lock was had
pub returns-clause-fewer : goal.returns-clause-fewer
returns-clause-fewer g c =
    let wait = c.journal_for in
    let show = c.show in
    let last = c.flush_to in
    let saw = saw_fewer_still c.args.pass.now wait.new.pass last.new.pass c.args.n c.in-Some.ensures.some (later_both wait.new.pass show.new.pass last.new.pass show.ensures.later last.ensures.follows.later)
    (last.ensures.durable ∙ ap (λ (l : AllLooks). l.durable) show.ensures.looks) in
    always_err last.result _ saw

pub returns-clause-placed : goal.returns-clause-placed
returns-clause-placed g c last =
    c.flush_to.ensures.placed (omega (arith, last, ap (λ l. l.last) (ap (λ (l : AllLooks). l.placed) c.show.ensures.looks ∙ c.journal_for.ensures.placed)))

-- they are durable before the lock is had
pub returns-in_default-clause-failed : goal.returns-in_default-clause-failed
returns-in_default-clause-failed g c going = c.journal_for.ensures.failed

pub returns-in_default-clause-placed : goal.returns-in_default-clause-placed
returns-in_default-clause-placed g c last = omega (arith, last, ap (λ l. l.last) c.journal_for.ensures.placed)
