use Rattle.im_core.proofs.CallLemmas.{ready, step-same, gated-step}
use Rattle.im_journal.specs.declared.batches.Step.TheVariants.{Sealed}
use Rattle.im_core.proofs.store.OpenStore.open_gate.Goals as goal

pub open_gate-answer-requires-clause-sealed : goal.open_gate-answer-requires-clause-sealed
open_gate-answer-requires-clause-sealed c none = step-same c.args.self.now.journal c.foretell.new.journal Sealed c.foretell.ensures c.requires.step

pub open_gate-answer-requires-clause-mid : goal.open_gate-answer-requires-clause-mid
open_gate-answer-requires-clause-mid c none =
    let up = c.requires.up in
    let b = ready up.0 c.args.self.now up.1 c.foretell.new.journal Sealed up.2 c.requires.going c.requires.step (λ e. cc) c.foretell.ensures in
    (up.0, up.1.placed, up.1.batches, b.0.records, b.1.mid)

pub returns : goal.returns
returns c hash m u =
    gated-step hash c.args.self.now m c.foretell.new.journal c.open_gate-answer.new.self c.args.fails c.open_gate-answer.result c.in_ok-output.output u c.requires.going c.requires.step c.foretell.ensures
    (c.open_gate-answer.ensures.ok hash) c.open_gate-answer.ensures.step c.open_gate-answer.ensures.pieces c.open_gate-answer.ensures.kept.1 c.open_gate-answer.ensures.calls c.open_gate-answer.ensures.counted.failures c.in_ok-output.ensures
