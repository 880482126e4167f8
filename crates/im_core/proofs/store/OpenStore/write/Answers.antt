use Rattle.std.proofs.Common.{◌≡◌, ◌<◌, length, subst}
use Rattle.im_machine.specs.Kept.{IsDone}
use Rattle.im_core.proofs.CallLemmas.{ready, step-same}
use Rattle.im_core.proofs.StageLemmas.{written-step}
use Rattle.im_journal.specs.declared.batches.Step.{Step}
use Rattle.im_journal.specs.declared.batches.Step.TheVariants.{Staging}
use Rattle.im_core.proofs.store.OpenStore.write.Goals as goal

pub stage_piece-answer-requires-clause-staging : goal.stage_piece-answer-requires-clause-staging
stage_piece-answer-requires-clause-staging c none = step-same c.args.self.now.journal c.foretell.new.journal Staging c.foretell.ensures c.requires.step

pub stage_piece-answer-requires-clause-left : goal.stage_piece-answer-requires-clause-left
stage_piece-answer-requires-clause-left c none =
    let up = c.requires.up in
    let k = c.foretell.new.journal in
    let b = ready up.0 c.args.self.now up.1 k Staging up.2 c.requires.going c.requires.step (λ e. cc) c.foretell.ensures in
    let staging = step-same c.args.self.now.journal k Staging c.foretell.ensures c.requires.step in
    let done : (b.0.done ≡ k.batch.written) × (k.batch.written < length k.batch.pieces) =
    subst (λ (st : Step). IsDone st (length k.batch.pieces) k.batch.written b.0.done) staging b.1.done in
    done.1

pub stage_piece-answer-requires-clause-mid : goal.stage_piece-answer-requires-clause-mid
stage_piece-answer-requires-clause-mid c none =
    let up = c.requires.up in
    let b = ready up.0 c.args.self.now up.1 c.foretell.new.journal Staging up.2 c.requires.going c.requires.step (λ e. cc) c.foretell.ensures in
    (up.0, up.1.placed, up.1.batches, b.0.records, b.1.mid)

pub returns : goal.returns
returns c hash m p u is =
    let ens = c.stage_piece-answer.ensures in
    written-step hash c.args.self.now m c.foretell.new.journal c.stage_piece-answer.new.self p c.args.fails c.stage_piece-answer.result c.in_ok-output.output u c.requires.going c.requires.step is
    c.foretell.ensures (ens.ok hash) ens.step ens.written ens.pieces.0 ens.kept.1 ens.calls ens.counted.failures c.in_ok-output.ensures
