use Rattle.std.proofs.Common.{arith, true, ℕ, refl, ◌≡◌, ◌∙◌, ◌+◌, ◌∷◌, ◌++◌, [], length, sym, ap, subst, List, Err}
use Rattle.im_disk.specs.Moments.{Leaves}
use Rattle.im_disk.proofs.Leaving.{leaves_both}
use Rattle.std.specs.Prelude.{OnOk}
use Rattle.im_journal.specs.Kept.{HasSealed, IsAtRest, StandsBy}
use Rattle.im_journal.specs.declared.batches.Step.TheVariants.{Sealed, Gated}
use Rattle.im_journal.specs.declared.errors.JournalError.TheVariants.{DiskFault, Memory}
use Rattle.im_journal.proofs.Held.{held_by}
use Rattle.im_journal.proofs.Mids.{durable_now, err_then, gated_left, on_err, settled_now, stays_at_last}
use Rattle.im_disk.specs.declared.calls.Call.{Call}
use Rattle.im_disk.specs.declared.calls.Call.TheVariants.{Wrote, Synced}
use Rattle.im_journal.specs.Made.{Makes, calls_to_settle}
use Rattle.im_journal.specs.declared.batches.Step.{Step}
use Rattle.im_journal.specs.declared.ends.Ends.{Ends}
use Rattle.im_journal.proofs.Making.{left_as, makes_before, makes_then}
use Rattle.im_journal.proofs.journal.Journal.settle.Goals as goal

pub returns-in_err-go-clause-any_moment : goal.returns-in_err-go-clause-any_moment
returns-in_err-go-clause-any_moment g c hash history batches rs mid = stays_at_last g.D.Disk.told hash history batches rs c.args.self.now mid

pub settle_batch-requires-clause-mid : goal.settle_batch-requires-clause-mid
settle_batch-requires-clause-mid g c =
    let m = c.requires.mid (c.in_ok-go.ensures.going refl) in
    (m.0, m.1, m.2, m.3, c.in-Ok.ensures.ok m.0 m.1 m.2 m.3 m.4)

pub returns-in-Ok-clause-settled : goal.returns-in-Ok-clause-settled
returns-in-Ok-clause-settled g c hash history batches rs mid =
    let now = c.args.self.now in
    let k = c.open_batch.new.self in
    let kept = c.open_batch.ensures.kept in
    subst (λ (n : ℕ). OnOk c.settle_batch.result (IsAtRest g.D.Disk.told hash history (batches ++ rs ∷ []) c.settle_batch.new.self × (c.settle_batch.new.self.durable ≡ n + length rs))) kept.1
    (settled_now g.D.Disk.told hash history batches rs k c.settle_batch.new.self c.settle_batch.result (kept.3 ∙ mid.count)
    (c.settle_batch.ensures.ok hash history batches rs (c.in-Ok.ensures.ok hash history batches rs mid)) c.settle_batch.ensures.moved)

pub returns-in-Ok-clause-durable : goal.returns-in-Ok-clause-durable
returns-in-Ok-clause-durable g c hash history batches rs mid =
    durable_now g.D.Disk.told hash history (batches ++ rs ∷ []) c.settle_batch.new.self c.settle_batch.result
    (c.settle_batch.ensures.ok hash history batches rs (c.in-Ok.ensures.ok hash history batches rs mid))

pub returns-in-Ok-clause-again : goal.returns-in-Ok-clause-again
returns-in-Ok-clause-again g c hash history batches rs mid memory =
    let k = c.open_batch.new.self in
    let new = c.settle_batch.new.self in
    let err = err_then c.settle_batch.result Memory ((new.ends ≡ k.ends) × (new.durable ≡ k.durable) × (new.batch ≡ k.batch)) c.settle_batch.ensures.err memory in (
      c.settle_batch.ensures.memory hash history batches rs (c.in-Ok.ensures.ok hash history batches rs mid) memory,
      subst HasSealed (sym (ap (λ b. b.step) err.2 ∙ c.in-Ok.ensures.step)) tt,
    )

pub returns-in-Ok-clause-any_moment : goal.returns-in-Ok-clause-any_moment
returns-in-Ok-clause-any_moment g c hash history batches rs mid =
    let told = g.D.Disk.told in
    let now = c.args.self.now in
    let k = c.open_batch.new.self in
    let new = c.settle_batch.new.self in
    let P = StandsBy Gated hash history now.durable (length rs) in
    let first = c.open_batch.ensures.any_moment hash history batches rs mid in
    let second = subst (λ (n : ℕ). Leaves (StandsBy Gated hash history n (length rs)) (told k.disk) (told new.disk)) c.open_batch.ensures.kept.1
    (c.settle_batch.ensures.any_moment hash history batches rs (c.in-Ok.ensures.ok hash history batches rs mid)) in
    leaves_both P (told now.disk) (told k.disk) (told new.disk) first second

pub returns-in-Err-clause-again : goal.returns-in-Err-clause-again
returns-in-Err-clause-again g c hash history batches rs mid e =
    let now = c.args.self.now in
    let k = c.open_batch.new.self in
    let memory = c.in-Err.is ∙ e in
    let same = err_then c.open_batch.result Memory (k.batch ≡ now.batch) c.open_batch.ensures.err memory in (
      c.open_batch.ensures.memory hash history batches rs mid memory,
      subst HasSealed (sym (ap (λ b. b.step) same ∙ sym (ap (λ j. j.batch.step) c.self.view_is) ∙ c.in-Sealed.is)) tt,
    )

pub returns-in_default : goal.returns-in_default
returns-in_default g c =
    let now = c.args.self.now in
    let call = c.settle_batch-in_default in
    let new = call.new.self in
    let zero : now.failures ≡ 0 = c.in_ok-go.ensures.going (refl {a = true}) in
    let gated : now.batch.step ≡ Gated = gated_left now.batch.step (c.requires.sealed zero) (λ e. c.in_default.not-Sealed (ap (λ k. k.batch.step) c.self.view_is ∙ e)) in
    record {
      settled = λ hash history batches rs mid.
          settled_now g.D.Disk.told hash history batches rs now new call.result mid.count (call.ensures.ok hash history batches rs mid) call.ensures.moved;
      durable = λ hash history batches rs mid. durable_now g.D.Disk.told hash history (batches ++ rs ∷ []) new call.result (call.ensures.ok hash history batches rs mid);
      moved = call.ensures.moved;
      step = call.ensures.step;
      again = λ hash history batches rs mid memory. (
        call.ensures.memory hash history batches rs mid memory,
        subst HasSealed (sym (ap (λ b. b.step) (err_then call.result Memory ((new.ends ≡ now.ends) × (new.durable ≡ now.durable) × (new.batch ≡ now.batch)) call.ensures.err memory).2 ∙ gated)) tt,
      );
      any_moment = λ hash history batches rs mid. call.ensures.any_moment hash history batches rs mid;
      held = λ hash history batches rs mid e.
          let same = err_then call.result DiskFault ((new.ends ≡ now.ends) × (new.durable ≡ now.durable) × (new.batch ≡ now.batch)) call.ensures.err e in
          held_by g.D.Disk.told hash history batches rs now new Gated mid same.0 same.1
          (call.ensures.any_moment hash history batches rs mid).1 (call.ensures.here hash history batches rs mid);
      kept = on_err call.result ((new.ends ≡ now.ends) × (new.durable ≡ now.durable) × (new.batch ≡ now.batch)) ((new.ends ≡ now.ends) × (new.durable ≡ now.durable)) call.ensures.err (λ h. (h.0, h.1));
      left = λ fault.
          subst HasSealed (sym (ap (λ b. b.step) (err_then call.result DiskFault ((new.ends ≡ now.ends) × (new.durable ≡ now.durable) × (new.batch ≡ now.batch)) call.ensures.err fault).2 ∙ gated)) tt;
      calls =
          let gate = now.ends.commits in
          let left = calls_to_settle new.batch.step new.ends.commits in
          let o = g.D.Disk.told now.disk in
          let n = g.D.Disk.told new.disk in
          subst (λ (s : Step). Makes DiskFault Memory (calls_to_settle s gate) left o n call.result) (sym gated)
          (left_as (Synced ∷ []) (Synced ∷ []) left o n call.result
          (λ e. ap (λ (s : Step). calls_to_settle s new.ends.commits)
          (sym (ap (λ b. b.step) (err_then call.result Memory ((new.ends ≡ now.ends) × (new.durable ≡ now.durable) × (new.batch ≡ now.batch)) call.ensures.err e).2 ∙ gated)))
          call.ensures.calls);
      counted = call.ensures.counted;
      stopped = λ lt. absurd (omega (arith, zero, lt));
      going = λ faults e. absurd (call.ensures.going faults e);
    }

pub returns-in-Ok-clause-calls : goal.returns-in-Ok-clause-calls
returns-in-Ok-clause-calls g c =
    let told = g.D.Disk.told in
    let now = c.args.self.now in
    let k = c.open_batch.new.self in
    let new = c.settle_batch.new.self in
    let gate : List Call = Wrote 1 now.ends.commits (1 ∷ []) ∷ [] in
    let left = calls_to_settle new.batch.step new.ends.commits in
    let sealed : now.batch.step ≡ Sealed = sym (ap (λ k. k.batch.step) c.self.view_is) ∙ c.in-Sealed.is in
    subst (λ (s : Step). Makes DiskFault Memory (calls_to_settle s now.ends.commits) left (told now.disk) (told new.disk) c.settle_batch.result) (sym sealed)
    (makes_then gate (Synced ∷ []) left (told now.disk) (told k.disk) (told new.disk) c.settle_batch.result c.in-Ok.ensures.calls.ok
    (left_as (Synced ∷ []) (Synced ∷ []) left (told k.disk) (told new.disk) c.settle_batch.result
    (λ e. ap (λ (s : Step). calls_to_settle s new.ends.commits)
    (sym (ap (λ b. b.step) (err_then c.settle_batch.result Memory ((new.ends ≡ k.ends) × (new.durable ≡ k.durable) × (new.batch ≡ k.batch)) c.settle_batch.ensures.err e).2 ∙ c.in-Ok.ensures.step)))
    c.settle_batch.ensures.calls))

pub returns-in-Err-clause-calls : goal.returns-in-Err-clause-calls
returns-in-Err-clause-calls g c =
    let told = g.D.Disk.told in
    let now = c.args.self.now in
    let k = c.open_batch.new.self in
    let gate : List Call = Wrote 1 now.ends.commits (1 ∷ []) ∷ [] in
    let all : List Call = Wrote 1 now.ends.commits (1 ∷ []) ∷ Synced ∷ [] in
    let left = calls_to_settle k.batch.step k.ends.commits in
    let sealed : now.batch.step ≡ Sealed = sym (ap (λ k. k.batch.step) c.self.view_is) ∙ c.in-Sealed.is in
    subst (λ (s : Step). Makes DiskFault Memory (calls_to_settle s now.ends.commits) left (told now.disk) (told k.disk) (Err c.in-Err.error)) (sym sealed)
    (left_as all all left (told now.disk) (told k.disk) (Err c.in-Err.error)
    (λ e.
    let same = err_then c.open_batch.result Memory (k.batch ≡ now.batch) c.open_batch.ensures.err (c.in-Err.is ∙ e) in
    let step : k.batch.step ≡ Sealed = ap (λ b. b.step) same ∙ sealed in
    ap (λ (s : Step). calls_to_settle s now.ends.commits) (sym step) ∙ ap (λ (ends : Ends). calls_to_settle k.batch.step ends.commits) (sym c.open_batch.ensures.kept.0))
    (makes_before _ gate gate (Synced ∷ []) (told now.disk) (told k.disk) c.in-Err.error c.in-Err.ensures.calls))

pub returns-in-Ok-clause-left : goal.returns-in-Ok-clause-left
returns-in-Ok-clause-left g c fault =
    let k = c.open_batch.new.self in
    let new = c.settle_batch.new.self in
    let err = err_then c.settle_batch.result DiskFault ((new.ends ≡ k.ends) × (new.durable ≡ k.durable) × (new.batch ≡ k.batch)) c.settle_batch.ensures.err fault in
    subst HasSealed (sym (ap (λ b. b.step) err.2 ∙ c.in-Ok.ensures.step)) tt

pub returns-in-Err-clause-left : goal.returns-in-Err-clause-left
returns-in-Err-clause-left g c e =
    let same = err_then c.open_batch.result DiskFault (c.open_batch.new.self.batch ≡ c.args.self.now.batch) c.open_batch.ensures.err (c.in-Err.is ∙ e) in
    subst HasSealed (sym (ap (λ b. b.step) same ∙ sym (ap (λ j. j.batch.step) c.self.view_is) ∙ c.in-Sealed.is)) tt

pub returns-in-Ok-clause-step : goal.returns-in-Ok-clause-step
returns-in-Ok-clause-step g c = c.settle_batch.ensures.step

pub returns-in-Ok-clause-held : goal.returns-in-Ok-clause-held
returns-in-Ok-clause-held g c hash history batches rs mid e =
    let k = c.open_batch.new.self in
    let new = c.settle_batch.new.self in
    let at = c.in-Ok.ensures.ok hash history batches rs mid in
    let same = err_then c.settle_batch.result DiskFault ((new.ends ≡ k.ends) × (new.durable ≡ k.durable) × (new.batch ≡ k.batch)) c.settle_batch.ensures.err e in
    held_by g.D.Disk.told hash history batches rs k new Gated at same.0 same.1
    (c.settle_batch.ensures.any_moment hash history batches rs at).1 (c.settle_batch.ensures.here hash history batches rs at)

pub returns-in-Err-clause-held : goal.returns-in-Err-clause-held
returns-in-Err-clause-held g c hash history batches rs mid e =
    held_by g.D.Disk.told hash history batches rs c.args.self.now c.open_batch.new.self Gated mid c.open_batch.ensures.kept.0 c.open_batch.ensures.kept.1
    (c.open_batch.ensures.any_moment hash history batches rs mid).1 (c.open_batch.ensures.here hash history batches rs mid)
