use Rattle.std.proofs.Common.{sym, subst}
use Rattle.im_core.proofs.CallLemmas.{sealed-step, step-same}
use Rattle.im_journal.specs.Kept.{HasStaged}
use Rattle.im_journal.specs.declared.batches.Step.TheVariants.{Staged}
use Rattle.im_core.proofs.store.OpenStore.seal_pieces.Goals as goal

pub seal-answer-requires : goal.seal-answer-requires
seal-answer-requires c = record { staged = λ none. subst HasStaged (sym (step-same c.args.self.now.journal c.foretell.new.journal Staged c.foretell.ensures c.requires.step)) tt }

pub returns : goal.returns
returns c hash m u =
    sealed-step hash c.args.self.now m c.foretell.new.journal c.seal-answer.new.self c.args.fails c.seal-answer.result c.in_ok-output.output u c.requires.going c.requires.step c.foretell.ensures
    (c.seal-answer.ensures.sealed hash) c.seal-answer.ensures.step c.seal-answer.ensures.pieces.0 c.seal-answer.ensures.kept.1 c.seal-answer.ensures.calls c.seal-answer.ensures.counted.failures c.in_ok-output.ensures
