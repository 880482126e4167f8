use Rattle.std.proofs.Common.{true, refl, ◌≡◌, length, sym, subst}
use Rattle.im_disk.specs.Moments.{Leaves}
use Rattle.im_journal.specs.Kept.{StandsBy}
use Rattle.im_journal.specs.declared.batches.Step.{Step}
use Rattle.im_journal.specs.declared.batches.Step.TheVariants.{Staging}
use Rattle.im_journal.proofs.Held.{held_by}
use Rattle.im_journal.proofs.Mids.{stays}
use Rattle.im_journal.proofs.journal.Journal.stage_piece.Goals as goal

pub returns-in_err-go-clause-any_moment : goal.returns-in_err-go-clause-any_moment
returns-in_err-go-clause-any_moment g c hash history batches rs mid = stays g.D.Disk.told hash history batches rs c.args.self.now mid

pub returns-clause-any_moment : goal.returns-clause-any_moment
returns-clause-any_moment g c hash history batches rs mid =
    let now = c.args.self.now in
    let staging : now.batch.step ≡ Staging = c.requires.staging (c.in_ok-go.ensures.going (refl {a = true})) in
    subst (λ (s : Step). Leaves (StandsBy s hash history now.durable (length rs)) (g.D.Disk.told now.disk) (g.D.Disk.told c.put_one.new.self.disk)) (sym staging)
    (c.put_one.ensures.any_moment hash history batches rs mid)

pub returns-clause-ok : goal.returns-clause-ok
returns-clause-ok g c = c.put_one.ensures.ok

pub returns-clause-again : goal.returns-clause-again
returns-clause-again g c = c.put_one.ensures.memory

pub returns-clause-err : goal.returns-clause-err
returns-clause-err g c = c.put_one.ensures.err

pub returns-clause-calls : goal.returns-clause-calls
returns-clause-calls g c = c.put_one.ensures.calls

pub returns-clause-step : goal.returns-clause-step
returns-clause-step g c = c.put_one.ensures.step

pub returns-clause-written : goal.returns-clause-written
returns-clause-written g c = c.put_one.ensures.written

pub returns-clause-kept : goal.returns-clause-kept
returns-clause-kept g c = c.put_one.ensures.kept

pub returns-clause-pieces : goal.returns-clause-pieces
returns-clause-pieces g c = c.put_one.ensures.pieces

pub returns-clause-held : goal.returns-clause-held
returns-clause-held g c hash history batches rs mid e =
    held_by g.D.Disk.told hash history batches rs c.args.self.now c.put_one.new.self Staging mid c.put_one.ensures.kept.0 c.put_one.ensures.kept.1
    (c.put_one.ensures.any_moment hash history batches rs mid).1 (c.put_one.ensures.here hash history batches rs mid)
