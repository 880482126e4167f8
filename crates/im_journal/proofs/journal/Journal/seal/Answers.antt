use Rattle.std.proofs.Common.{arith, true, refl, ◌≡◌, ◌∙◌, length, sym, ap, subst, List, Ok, [], ◌∷◌}
use Rattle.im_disk.specs.Moments.{Leaves}
use Rattle.im_journal.specs.Kept.{HasSealed, HasStaged, StandsBy}
use Rattle.im_journal.specs.declared.batches.Step.{Step}
use Rattle.im_journal.specs.declared.errors.JournalError.TheVariants.{DiskFault, Memory, Stopped}
use Rattle.im_journal.proofs.Held.{held_by}
use Rattle.im_journal.proofs.Mids.{err_then, ok_isnt, sealed_left, stays}
use Rattle.im_disk.specs.declared.calls.Call.{Call}
use Rattle.im_disk.specs.declared.calls.Call.TheVariants.{Synced}
use Rattle.im_journal.specs.declared.batches.Step.TheVariants.{Staged}
use Rattle.im_journal.specs.Made.{Makes, calls_to_seal}
use Rattle.im_journal.proofs.Making.{left_as, none_makes, seal_none}
use Rattle.im_journal.proofs.journal.Journal.seal.Goals as goal

pub returns-in_err-go-clause-any_moment : goal.returns-in_err-go-clause-any_moment
returns-in_err-go-clause-any_moment g c hash history batches rs mid = stays g.D.Disk.told hash history batches rs c.args.self.now mid

pub returns-in-Staged-clause-again : goal.returns-in-Staged-clause-again
returns-in-Staged-clause-again g c hash history batches rs mid memory =
    let same = err_then c.seal_batch.result Memory (c.seal_batch.new.self.batch ≡ c.args.self.now.batch) c.seal_batch.ensures.err memory in (
      c.seal_batch.ensures.memory hash history batches rs mid memory,
      subst HasStaged (sym (ap (λ b. b.step) same ∙ sym (ap (λ k. k.batch.step) c.self.view_is) ∙ c.in-Staged.is)) tt,
    )

pub returns-in-Staged-clause-any_moment : goal.returns-in-Staged-clause-any_moment
returns-in-Staged-clause-any_moment g c hash history batches rs mid =
    subst (λ (s : Step). Leaves (StandsBy s hash history c.args.self.now.durable (length rs)) (g.D.Disk.told c.args.self.now.disk) (g.D.Disk.told c.seal_batch.new.self.disk))
    (sym (sym (ap (λ k. k.batch.step) c.self.view_is) ∙ c.in-Staged.is)) (c.seal_batch.ensures.any_moment hash history batches rs mid)

pub returns-in_default : goal.returns-in_default
returns-in_default g c =
    let zero : c.args.self.now.failures ≡ 0 = c.in_ok-go.ensures.going (refl {a = true}) in
    record {
      sealed = λ hash history batches rs mid.
          (mid, sealed_left c.args.self.now.batch.step (c.requires.staged zero) (λ e. c.in_default.not-Staged (ap (λ k. k.batch.step) c.self.view_is ∙ e)));
      again = λ hash history batches rs mid e. absurd (ok_isnt tt Memory e);
      any_moment = λ hash history batches rs mid. stays g.D.Disk.told hash history batches rs c.args.self.now mid;
      held = λ hash history batches rs mid e. absurd (ok_isnt tt DiskFault e);
      kept = (refl, refl);
      batch = tt;
      pieces = (refl, refl, refl);
      calls = subst (λ (l : List Call). Makes DiskFault Memory l (calls_to_seal c.args.self.now.batch.step) (g.D.Disk.told c.args.self.now.disk) (g.D.Disk.told c.args.self.now.disk) (Ok tt))
          (sym (seal_none c.args.self.now.batch.step (λ e. c.in_default.not-Staged (ap (λ k. k.batch.step) c.self.view_is ∙ e)))) (none_makes tt (calls_to_seal c.args.self.now.batch.step) (g.D.Disk.told c.args.self.now.disk));
      counted = record { later = omega arith; rose = λ e. absurd (ok_isnt tt DiskFault e); more = λ e. absurd (ok_isnt tt DiskFault e); faults = λ n. refl; failures = λ n. refl };
      stopped = λ lt. absurd (omega (arith, zero, lt));
      nothing = λ none has. (refl, refl);
      going = λ faults e. absurd (ok_isnt tt (Stopped faults) e);
      step = λ staged. absurd (c.in_default.not-Staged (ap (λ k. k.batch.step) c.self.view_is ∙ staged));
    }

pub returns-in-Staged-clause-nothing : goal.returns-in-Staged-clause-nothing
returns-in-Staged-clause-nothing g c zero has = absurd (subst HasSealed (sym (ap (λ k. k.batch.step) c.self.view_is) ∙ c.in-Staged.is) has)

pub returns-in-Staged-clause-calls : goal.returns-in-Staged-clause-calls
returns-in-Staged-clause-calls g c =
    let now = c.args.self.now in
    let new = c.seal_batch.new.self in
    let o = g.D.Disk.told now.disk in
    let n = g.D.Disk.told new.disk in
    let staged : now.batch.step ≡ Staged = sym (ap (λ k. k.batch.step) c.self.view_is) ∙ c.in-Staged.is in
    subst (λ (s : Step). Makes DiskFault Memory (calls_to_seal s) (calls_to_seal new.batch.step) o n c.seal_batch.result) (sym staged)
    (left_as (Synced ∷ []) (Synced ∷ []) (calls_to_seal new.batch.step) o n c.seal_batch.result
    (λ e. ap calls_to_seal (sym (ap (λ b. b.step) (err_then c.seal_batch.result Memory (new.batch ≡ now.batch) c.seal_batch.ensures.err e) ∙ staged)))
    c.seal_batch.ensures.calls)

pub returns-in-Staged-clause-batch : goal.returns-in-Staged-clause-batch
returns-in-Staged-clause-batch g c = c.seal_batch.ensures.err

pub returns-in-Staged-clause-pieces : goal.returns-in-Staged-clause-pieces
returns-in-Staged-clause-pieces g c = c.seal_batch.ensures.pieces

pub returns-in-Staged-clause-held : goal.returns-in-Staged-clause-held
returns-in-Staged-clause-held g c hash history batches rs mid e =
    held_by g.D.Disk.told hash history batches rs c.args.self.now c.seal_batch.new.self Staged mid c.seal_batch.ensures.kept.0 c.seal_batch.ensures.kept.1
    (c.seal_batch.ensures.any_moment hash history batches rs mid).1 (c.seal_batch.ensures.here hash history batches rs mid)
