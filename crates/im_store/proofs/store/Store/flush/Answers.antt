use Rattle.std.proofs.Common.{ap, arith}
use Rattle.im_table.specs.declared.view.AllLooks.{AllLooks}
use Rattle.im_table.specs.declared.view.View.{View}
use Rattle.im_store.proofs.FlushLemmas.{always_ok}
use Rattle.im_store.proofs.GainLemmas.{load_failed_follows, load_failed_saw}
use Rattle.im_store.proofs.store.Store.flush.Goals as goal

-- calls of the disk had failed
pub returns-then-failures-gt0-clause-follows : goal.returns-then-failures-gt0-clause-follows
returns-then-failures-gt0-clause-follows g c =
    let l = c.load_failed-faults in
    load_failed_follows c.args.pass.now l.new.pass l.result l.ensures.table l.ensures.view l.ensures.finds.least

pub returns-then-failures-gt0-clause-err : goal.returns-then-failures-gt0-clause-err
returns-then-failures-gt0-clause-err g c =
    let l = c.load_failed-faults in
    load_failed_saw c.args.pass.now l.new.pass l.result l.ensures.table l.ensures.view l.ensures.finds.least
    (omega (arith, l.ensures.finds.least, c.requires.words.1, c.failures.ensures, ap (λ k. k.failures) c.journal.ensures))

-- a batch is begun and finished
pub returns-then-eq-clause-placed : goal.returns-then-eq-clause-placed
returns-then-eq-clause-placed g c n seen last = omega (arith, seen, c.flush_placed.ensures.placed)

-- or the one in progress is finished
pub returns-clause-durable : goal.returns-clause-durable
returns-clause-durable g c = ap (λ (l : AllLooks). l.durable) c.finish.ensures.looks

pub returns-then-failures-gt0-clause-failed : goal.returns-then-failures-gt0-clause-failed
returns-then-failures-gt0-clause-failed g c going = absurd (going tt)

pub returns-then-failures-gt0-clause-placed : goal.returns-then-failures-gt0-clause-placed
returns-then-failures-gt0-clause-placed g c n seen last = omega (arith, last, ap (λ (v : View). v.looks.placed.last) c.load_failed-faults.ensures.view)

pub returns-then-failures-gt0-clause-durable : goal.returns-then-failures-gt0-clause-durable
returns-then-failures-gt0-clause-durable g c = ap (λ (v : View). v.looks.durable) c.load_failed-faults.ensures.view

pub returns-then-eq-clause-failed : goal.returns-then-eq-clause-failed
returns-then-eq-clause-failed g c going = c.flush_placed.ensures.failed

pub returns-clause-words : goal.returns-clause-words
returns-clause-words g c = always_ok c.finish.result _ c.finish.ensures.words

pub returns-clause-failed : goal.returns-clause-failed
returns-clause-failed g c going = ap (λ (l : AllLooks). l.failed) c.finish.ensures.looks

pub returns-clause-placed : goal.returns-clause-placed
returns-clause-placed g c n seen last = omega (arith, last, ap (λ (l : AllLooks). l.placed.last) c.finish.ensures.looks)

-- the pass knows of no failure then
pub flush_placed-requires-clause-none : goal.flush_placed-requires-clause-none
flush_placed-requires-clause-none g c = omega (arith, c.requires.words.1, c.failures.ensures, ap (λ k. k.failures) c.journal.ensures)

pub finish-requires-clause-none : goal.finish-requires-clause-none
finish-requires-clause-none g c = omega (arith, c.requires.words.1, c.failures.ensures, ap (λ k. k.failures) c.journal.ensures)
