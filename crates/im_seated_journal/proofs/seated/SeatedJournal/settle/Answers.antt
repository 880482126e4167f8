use Rattle.std.proofs.Common.{rules, ◌≡◌, ◌∙◌, ℕ, List, ap, sym, subst, arith, ◌+◌, take}
use Rattle.std.specs.Prelude.{◌⊎◌, OnOk}
use Rattle.im_disk.specs.Moments.{Leaves, LeavesNow}
use Rattle.im_format.specs.Standing.{Stands, StandsFrom}
use Rattle.im_table.specs.Histories.{history_of}
use Rattle.im_table.specs.declared.items.LogItem.{LogItem}
use Rattle.im_table.specs.declared.view.View.{View}
use Rattle.im_journal.specs.Kept.{HasSealed, Kept}
use Rattle.im_seated_journal.specs.Seats.{ServesItems}
use Rattle.im_seated_journal.proofs.ServeLemmas.{batch_in, counted_one, durable_rises, durable_within, sealed_busy, serves_later}
use Rattle.im_seated_journal.proofs.StepLemmas.{settle_goes, settled_whole}
use Rattle.im_seated_journal.proofs.seated.SeatedJournal.settle.Goals as goal

pub settle-answer-requires-clause-sealed : goal.settle-answer-requires-clause-sealed
settle-answer-requires-clause-sealed g c = subst (λ (k : Kept g.row.D.Denot). k.failures ≡ 0 → HasSealed k.batch.step) (sym c.self.view_is) c.requires.sealed

pub settle-answer-requires-clause-mid : goal.settle-answer-requires-clause-mid
settle-answer-requires-clause-mid g c sound =
    let s = c.self.invariant.3 in
    let has = subst (λ (k : Kept g.row.D.Denot). k.failures ≡ 0 → HasSealed k.batch.step) (sym c.self.view_is) c.requires.sealed in
    let mid = batch_in c.self.inside.pass.view.seen c.self.inside.journal s sound (sealed_busy c.self.inside.journal.batch.step (has sound)) in
    (g.N.TipName.digest, history_of s.items, s.batches, s.last, mid.batch)

pub store_durable-requires-clause-more : goal.store_durable-requires-clause-more
store_durable-requires-clause-more g c =
    let known : c.fetch.new.pass.view.least.durable ≡ c.self.inside.journal.durable = search rules in
    let call = c.settle-answer.ensures in
    omega (arith, known, c.durable.ensures, durable_rises c.settle-answer.result _ _ _ c.self.inside.journal.durable c.settle-answer.new.self.durable call.moved call.kept)

pub store_durable-requires-clause-within : goal.store_durable-requires-clause-within
store_durable-requires-clause-within g c =
    let old = c.self.inside.journal in
    let new = c.settle-answer.new.self in
    let call = c.settle-answer.ensures in
    let seen : View → List LogItem = λ v. v.seen in
    let has = subst (λ (k : Kept g.row.D.Denot). k.failures ≡ 0 → HasSealed k.batch.step) (sym c.self.view_is) c.requires.sealed in
    let goes = settle_goes c.fetch.new.pass.view.seen old new c.settle-answer.result (serves_later c.fetch.ensures.theirs c.self.invariant.3) has call.settled call.again call.held call.any_moment call.kept call.counted call.calls call.step
    (λ failed. (call.stopped failed).1) call.going in
    omega (arith, durable_within c.fetch.new.pass.view.seen new goes.0, c.durable.ensures)

pub put_back-requires-clause-one : goal.put_back-requires-clause-one
put_back-requires-clause-one g c =
    let one = counted_one _ _ c.self.inside.journal.failures c.settle-answer.new.self.failures c.settle-answer.result (omega arith) c.settle-answer.ensures.counted in
    subst (λ (n : ℕ). (n ≡ c.failures-before.result) ⊎ (n ≡ c.failures-before.result + 1)) (sym c.failures.ensures)
    (subst (λ (n : ℕ). (c.settle-answer.new.self.failures ≡ n) ⊎ (c.settle-answer.new.self.failures ≡ n + 1)) (sym c.failures-before.ensures) one)

pub invariant_of-self : goal.invariant_of-self
invariant_of-self g c =
    let old = c.self.inside.journal in
    let new = c.settle-answer.new.self in
    let call = c.settle-answer.ensures in
    let seen : View → List LogItem = λ v. v.seen in
    let has = subst (λ (k : Kept g.row.D.Denot). k.failures ≡ 0 → HasSealed k.batch.step) (sym c.self.view_is) c.requires.sealed in
    let goes = settle_goes c.fetch.new.pass.view.seen old new c.settle-answer.result (serves_later c.fetch.ensures.theirs c.self.invariant.3) has call.settled call.again call.held call.any_moment call.kept call.counted call.calls call.step
    (λ failed. (call.stopped failed).1) call.going in (
      search rules,
      search rules,
      search rules,
      subst (λ (l : List LogItem). ServesItems g.D.Disk.told g.D.Disk.faults g.N.TipName.digest g.N.TipName.found g.N.TipName.synced g.N.TipName.faults l new) (sym (ap seen c.put_back.ensures.keeper.1 ∙ ap seen c.store_durable.ensures.view)) goes.0,
    )

pub returns-clause-any_moment : goal.returns-clause-any_moment
returns-clause-any_moment g c =
    let told = g.D.Disk.told in
    let old = c.self.inside.journal in
    let new = c.settle-answer.new.self in
    let call = c.settle-answer.ensures in
    let seen : View → List LogItem = λ v. v.seen in
    let has = subst (λ (k : Kept g.row.D.Denot). k.failures ≡ 0 → HasSealed k.batch.step) (sym c.self.view_is) c.requires.sealed in
    let goes = settle_goes c.fetch.new.pass.view.seen old new c.settle-answer.result (serves_later c.fetch.ensures.theirs c.self.invariant.3) has call.settled call.again call.held call.any_moment call.kept call.counted call.calls call.step
    (λ failed. (call.stopped failed).1) call.going in
    subst (λ (k : Kept g.row.D.Denot). Leaves (StandsFrom g.N.TipName.digest k.durable (history_of c.put_back.new.pass.view.seen)) (told k.disk) (told new.disk)) c.self.view_is
    (subst (λ (l : List LogItem). Leaves (StandsFrom g.N.TipName.digest old.durable (history_of l)) (told old.disk) (told new.disk)) (sym (ap seen c.put_back.ensures.pass.1 ∙ ap seen c.store_durable.ensures.view)) goes.1)

pub returns-clause-durable : goal.returns-clause-durable
returns-clause-durable g c =
    let told = g.D.Disk.told in
    let old = c.self.inside.journal in
    let new = c.settle-answer.new.self in
    let call = c.settle-answer.ensures in
    let seen : View → List LogItem = λ v. v.seen in
    let has = subst (λ (k : Kept g.row.D.Denot). k.failures ≡ 0 → HasSealed k.batch.step) (sym c.self.view_is) c.requires.sealed in
    let same = ap seen c.put_back.ensures.pass.1 ∙ ap seen c.store_durable.ensures.view in
    subst (λ (l : List LogItem). OnOk c.settle-answer.result (LeavesNow (λ image. Stands g.N.TipName.digest image (take new.durable (history_of l))) (told new.disk))) (sym same)
    (settled_whole c.fetch.new.pass.view.seen old new c.settle-answer.result (serves_later c.fetch.ensures.theirs c.self.invariant.3) has call.settled (λ failed. (call.stopped failed).0))
