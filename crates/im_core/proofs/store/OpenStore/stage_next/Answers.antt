use Rattle.std.proofs.Common.{◌≡◌, ◌∙◌, refl, sym}
use Rattle.std.proofs.lemmas.Result.{IfOk-weaker}
use Rattle.im_core.specs.declared.store.OpenStore.{OpenStore}
use Rattle.im_core.proofs.CallLemmas.{progress-of}
use Rattle.im_core.proofs.StageLemmas.{next-staged}
use Rattle.im_journal.specs.declared.batches.Step.TheVariants.{Idle, Staging}
use Rattle.im_core.proofs.store.OpenStore.stage_next.Goals as goal

pub returns : goal.returns
returns c hash m u =
    let s : OpenStore = c.args.self.now in
    let found = progress-of hash m s.journal m.progress refl (u.going (sym u.stopped ∙ c.requires.going)).far (λ idle. let never : Staging ≡ Idle = sym c.requires.step ∙ idle in cc) in
    IfOk-weaker c.write.result _ _
    (λ output next. next-staged hash s c.write.new.self m c.args.last c.args.fails found.0 output u c.requires.going found.1 c.requires.step next)
    (c.write.ensures hash m found.0 u found.1)
