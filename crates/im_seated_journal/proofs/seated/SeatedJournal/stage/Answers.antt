use Rattle.std.proofs.Common.{rules, ◌≡◌, ℕ, List, ap, sym, subst, arith, ◌+◌, inr}
use Rattle.std.specs.Prelude.{◌⊎◌, OnOk}
use Rattle.im_disk.specs.Moments.{Leaves}
use Rattle.im_format.specs.Standing.{StandsFrom}
use Rattle.im_table.specs.Histories.{history_of}
use Rattle.im_table.specs.declared.items.LogItem.{LogItem}
use Rattle.im_table.specs.declared.view.View.{View}
use Rattle.im_journal.specs.Kept.{Kept}
use Rattle.im_seated_journal.specs.Seats.{ServesItems}
use Rattle.im_journal.specs.declared.batches.Step.TheVariants.{Idle}
use Rattle.im_octet.proofs.Common.{on-ok}
use Rattle.im_seated_journal.proofs.ServeLemmas.{batch_in, counted_one, serves_later}
use Rattle.im_seated_journal.proofs.StepLemmas.{batch_same, stage_goes}
use Rattle.im_seated_journal.proofs.seated.SeatedJournal.stage.Goals as goal

pub stage-answer-requires : goal.stage-answer-requires
stage-answer-requires g c = record {
  next = λ sound.
      let s = c.self.invariant.3 in
      let busy = subst (λ (k : Kept g.row.D.Denot). k.failures ≡ 0 → k.batch.step ≡ Idle → ⊥) (sym c.self.view_is) c.requires.begun in
      let mid = batch_in c.self.inside.pass.view.seen c.self.inside.journal s sound (busy sound) in
      (g.N.TipName.digest, history_of s.items, s.batches, s.last, inr mid.batch);
}

pub put_back-requires-clause-one : goal.put_back-requires-clause-one
put_back-requires-clause-one g c =
    let one = counted_one _ _ c.self.inside.journal.failures c.stage-answer.new.self.failures c.stage-answer.result (omega arith) c.stage-answer.ensures.counted in
    subst (λ (n : ℕ). (n ≡ c.failures-before.result) ⊎ (n ≡ c.failures-before.result + 1)) (sym c.failures.ensures)
    (subst (λ (n : ℕ). (c.stage-answer.new.self.failures ≡ n) ⊎ (c.stage-answer.new.self.failures ≡ n + 1)) (sym c.failures-before.ensures) one)

pub invariant_of-self : goal.invariant_of-self
invariant_of-self g c =
    let old = c.self.inside.journal in
    let new = c.stage-answer.new.self in
    let call = c.stage-answer.ensures in
    let seen : View → List LogItem = λ v. v.seen in
    let busy = subst (λ (k : Kept g.row.D.Denot). k.failures ≡ 0 → k.batch.step ≡ Idle → ⊥) (sym c.self.view_is) c.requires.begun in
    let goes = stage_goes c.fetch.new.pass.view.seen old new c.stage-answer.result (serves_later c.fetch.ensures.theirs c.self.invariant.3) busy call.staged call.again call.held call.any_moment call.kept call.counted call.calls call.step
    (λ sound has. (call.nothing sound has).1) call.unstaged (λ failed. (call.stopped failed).1) call.going in (
      search rules,
      search rules,
      search rules,
      subst (λ (l : List LogItem). ServesItems g.D.Disk.told g.D.Disk.faults g.N.TipName.digest g.N.TipName.found g.N.TipName.synced g.N.TipName.faults l new) (sym (ap seen c.put_back.ensures.keeper.1)) goes.0,
    )

pub returns-clause-any_moment : goal.returns-clause-any_moment
returns-clause-any_moment g c =
    let told = g.D.Disk.told in
    let old = c.self.inside.journal in
    let new = c.stage-answer.new.self in
    let call = c.stage-answer.ensures in
    let seen : View → List LogItem = λ v. v.seen in
    let busy = subst (λ (k : Kept g.row.D.Denot). k.failures ≡ 0 → k.batch.step ≡ Idle → ⊥) (sym c.self.view_is) c.requires.begun in
    let goes = stage_goes c.fetch.new.pass.view.seen old new c.stage-answer.result (serves_later c.fetch.ensures.theirs c.self.invariant.3) busy call.staged call.again call.held call.any_moment call.kept call.counted call.calls call.step
    (λ sound has. (call.nothing sound has).1) call.unstaged (λ failed. (call.stopped failed).1) call.going in
    subst (λ (k : Kept g.row.D.Denot). Leaves (StandsFrom g.N.TipName.digest k.durable (history_of c.put_back.new.pass.view.seen)) (told k.disk) (told new.disk)) c.self.view_is
    (subst (λ (l : List LogItem). Leaves (StandsFrom g.N.TipName.digest old.durable (history_of l)) (told old.disk) (told new.disk)) (sym (ap seen c.put_back.ensures.pass.1)) goes.1)

pub returns-clause-staged : goal.returns-clause-staged
returns-clause-staged g c sound =
    let s = c.self.invariant.3 in
    let old = c.self.inside.journal in
    let here : old.failures ≡ 0 = subst (λ (k : Kept g.row.D.Denot). k.failures ≡ 0) (sym c.self.view_is) sound in
    let busy = subst (λ (k : Kept g.row.D.Denot). k.failures ≡ 0 → k.batch.step ≡ Idle → ⊥) (sym c.self.view_is) c.requires.begun in
    let mid = batch_in c.self.inside.pass.view.seen old s here (busy here) in
    on-ok _ _ c.stage-answer.result (λ h. h.1) (c.stage-answer.ensures.staged g.N.TipName.digest (history_of s.items) s.batches s.last (inr mid.batch))

pub returns-clause-batch : goal.returns-clause-batch
returns-clause-batch g c =
    let s = c.self.invariant.3 in
    let old = c.self.inside.journal in
    let call = c.stage-answer.ensures in
    let new = c.stage-answer.new.self in
    let busy = subst (λ (k : Kept g.row.D.Denot). k.failures ≡ 0 → k.batch.step ≡ Idle → ⊥) (sym c.self.view_is) c.requires.begun in
    subst (λ (k : Kept g.row.D.Denot). OnOk c.stage-answer.result ((new.batch.pieces ≡ k.batch.pieces) × (new.batch.ends ≡ k.batch.ends) × (new.batch.count ≡ k.batch.count))) c.self.view_is
    (batch_same c.self.inside.pass.view.seen old new c.stage-answer.result s busy call.staged call.kept (λ failed. (call.stopped failed).0))
