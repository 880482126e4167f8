use Rattle.std.proofs.Common.{rules, ◌≡◌, ℕ, List, ap, sym, subst, arith, ◌+◌}
use Rattle.std.specs.Prelude.{◌⊎◌}
use Rattle.im_disk.specs.Moments.{Leaves}
use Rattle.im_format.specs.Standing.{StandsFrom}
use Rattle.im_table.specs.Histories.{history_of}
use Rattle.im_table.specs.declared.items.LogItem.{LogItem}
use Rattle.im_table.specs.declared.view.View.{View}
use Rattle.im_journal.specs.Kept.{HasStaged, Kept}
use Rattle.im_seated_journal.specs.Seats.{ServesItems}
use Rattle.im_octet.proofs.Common.{on-ok}
use Rattle.im_seated_journal.proofs.ServeLemmas.{batch_in, counted_one, serves_later, staged_busy}
use Rattle.im_seated_journal.proofs.StepLemmas.{seal_goes}
use Rattle.im_seated_journal.proofs.seated.SeatedJournal.seal.Goals as goal

pub seal-answer-requires : goal.seal-answer-requires
seal-answer-requires g c = record { staged = subst (λ (k : Kept g.row.D.Denot). k.failures ≡ 0 → HasStaged k.batch.step) (sym c.self.view_is) c.requires.staged }

pub put_back-requires-clause-one : goal.put_back-requires-clause-one
put_back-requires-clause-one g c =
    let one = counted_one _ _ c.self.inside.journal.failures c.seal-answer.new.self.failures c.seal-answer.result (omega arith) c.seal-answer.ensures.counted in
    subst (λ (n : ℕ). (n ≡ c.failures-before.result) ⊎ (n ≡ c.failures-before.result + 1)) (sym c.failures.ensures)
    (subst (λ (n : ℕ). (c.seal-answer.new.self.failures ≡ n) ⊎ (c.seal-answer.new.self.failures ≡ n + 1)) (sym c.failures-before.ensures) one)

pub invariant_of-self : goal.invariant_of-self
invariant_of-self g c =
    let old = c.self.inside.journal in
    let new = c.seal-answer.new.self in
    let call = c.seal-answer.ensures in
    let seen : View → List LogItem = λ v. v.seen in
    let has = subst (λ (k : Kept g.row.D.Denot). k.failures ≡ 0 → HasStaged k.batch.step) (sym c.self.view_is) c.requires.staged in
    let goes = seal_goes c.fetch.new.pass.view.seen old new c.seal-answer.result (serves_later c.fetch.ensures.theirs c.self.invariant.3) has call.sealed call.again call.held call.any_moment call.kept call.counted call.calls call.step
    (λ sound h. (call.nothing sound h).1) call.batch (λ failed. (call.stopped failed).1) call.going in (
      search rules,
      search rules,
      search rules,
      subst (λ (l : List LogItem). ServesItems g.D.Disk.told g.D.Disk.faults g.N.TipName.digest g.N.TipName.found g.N.TipName.synced g.N.TipName.faults l new) (sym (ap seen c.put_back.ensures.keeper.1)) goes.0,
    )

pub returns-clause-any_moment : goal.returns-clause-any_moment
returns-clause-any_moment g c =
    let told = g.D.Disk.told in
    let old = c.self.inside.journal in
    let new = c.seal-answer.new.self in
    let call = c.seal-answer.ensures in
    let seen : View → List LogItem = λ v. v.seen in
    let has = subst (λ (k : Kept g.row.D.Denot). k.failures ≡ 0 → HasStaged k.batch.step) (sym c.self.view_is) c.requires.staged in
    let goes = seal_goes c.fetch.new.pass.view.seen old new c.seal-answer.result (serves_later c.fetch.ensures.theirs c.self.invariant.3) has call.sealed call.again call.held call.any_moment call.kept call.counted call.calls call.step
    (λ sound h. (call.nothing sound h).1) call.batch (λ failed. (call.stopped failed).1) call.going in
    subst (λ (k : Kept g.row.D.Denot). Leaves (StandsFrom g.N.TipName.digest k.durable (history_of c.put_back.new.pass.view.seen)) (told k.disk) (told new.disk)) c.self.view_is
    (subst (λ (l : List LogItem). Leaves (StandsFrom g.N.TipName.digest old.durable (history_of l)) (told old.disk) (told new.disk)) (sym (ap seen c.put_back.ensures.pass.1)) goes.1)

pub returns-clause-sealed : goal.returns-clause-sealed
returns-clause-sealed g c sound =
    let s = c.self.invariant.3 in
    let old = c.self.inside.journal in
    let here : old.failures ≡ 0 = subst (λ (k : Kept g.row.D.Denot). k.failures ≡ 0) (sym c.self.view_is) sound in
    let has = subst (λ (k : Kept g.row.D.Denot). k.failures ≡ 0 → HasStaged k.batch.step) (sym c.self.view_is) c.requires.staged in
    let mid = batch_in c.self.inside.pass.view.seen old s here (staged_busy old.batch.step (has here)) in
    on-ok _ _ c.seal-answer.result (λ h. h.1) (c.seal-answer.ensures.sealed g.N.TipName.digest (history_of s.items) s.batches s.last mid.batch)
