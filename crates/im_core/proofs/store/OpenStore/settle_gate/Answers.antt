use Rattle.std.proofs.Common.{sym, subst}
use Rattle.im_core.proofs.CallLemmas.{ready, step-same, settled-step}
use Rattle.im_journal.specs.Kept.{HasSealed}
use Rattle.im_journal.proofs.Mids.{err_then}
use Rattle.im_journal.specs.declared.errors.JournalError.TheVariants.{DiskFault}
use Rattle.im_journal.specs.declared.batches.Step.TheVariants.{Gated}
use Rattle.im_core.proofs.store.OpenStore.settle_gate.Goals as goal

pub settle-answer-requires-clause-sealed : goal.settle-answer-requires-clause-sealed
settle-answer-requires-clause-sealed c none = subst HasSealed (sym (step-same c.args.self.now.journal c.foretell.new.journal Gated c.foretell.ensures c.requires.step)) tt

pub settle-answer-requires-clause-mid : goal.settle-answer-requires-clause-mid
settle-answer-requires-clause-mid c none =
    let up = c.requires.up in
    let b = ready up.0 c.args.self.now up.1 c.foretell.new.journal Gated up.2 c.requires.going c.requires.step (λ e. cc) c.foretell.ensures in
    (up.0, up.1.placed, up.1.batches, b.0.records, b.1.mid)

pub returns : goal.returns
returns c hash m u =
    settled-step hash c.args.self.now m c.foretell.new.journal c.settle-answer.new.self c.args.fails c.settle-answer.result c.in_ok-output.output u c.requires.going c.requires.step c.foretell.ensures
    (c.settle-answer.ensures.settled hash) (λ fault. (err_then c.settle-answer.result DiskFault _ c.settle-answer.ensures.kept fault).1) c.settle-answer.ensures.calls c.settle-answer.ensures.counted.failures c.in_ok-output.ensures
