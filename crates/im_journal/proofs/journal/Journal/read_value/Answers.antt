use Rattle.std.proofs.Common.{◌≡◌, ◌∙◌, ap, subst}
use Rattle.std.specs.Prelude.{IfErr, IfOk, IfSome}
use Rattle.im_disk.specs.Disk.{seen}
use Rattle.im_vlog.specs.Showing.{IsCorrupt, shown}
use Rattle.im_journal.proofs.Same.{same_kept}
use Rattle.im_journal.proofs.Shown.{holds_shows, placed_read, sound_read}
use Rattle.im_journal.proofs.journal.Journal.read_value.Goals as goal

pub returns-clause-placed : goal.returns-clause-placed
returns-clause-placed g c history batches octets holds some has =
    placed_read (λ x. x.items) c.read_value-answer.result (g.D.Disk.told c.args.self.now.disk) (g.H.Hash32.digest c.args.hash.now) octets c.args.value.now some
    (holds_shows g.D.Disk.told (g.H.Hash32.digest c.args.hash.now) history batches c.args.self.now octets c.args.value.now holds has)
    (subst (λ k. IfOk c.read_value-answer.result (λ x. IfSome (g.D.Disk.told k.disk) (λ t. x.items ≡ shown (seen t) c.args.value.now))) c.self.view_is c.read_value-answer.ensures.octets)

pub returns-clause-sound : goal.returns-clause-sound
returns-clause-sound g c history batches octets want got holds some has =
    sound_read c.read_value-answer.result (g.D.Disk.told c.args.self.now.disk) (g.H.Hash32.digest c.args.hash.now) octets c.args.value.now want got some
    (holds_shows g.D.Disk.told (g.H.Hash32.digest c.args.hash.now) history batches c.args.self.now octets c.args.value.now holds has)
    (subst (λ k. IfErr c.read_value-answer.result (λ e. IsCorrupt (g.H.Hash32.digest c.args.hash.now) (g.D.Disk.told k.disk) c.args.value.now e)) c.self.view_is c.read_value-answer.ensures.corrupt)

pub returns-clause-none : goal.returns-clause-none
returns-clause-none g c log =
    let is = c.self.view_is in
    let kept = c.count_read.ensures.kept in
    let still = c.count_read.ensures.others (c.read_value-answer.ensures.hashed log).0 in
    same_kept c.count_read.new.self c.args.self.now (kept.0 ∙ c.read_value-answer.ensures.none log ∙ ap (λ k. k.disk) is) (kept.1 ∙ ap (λ k. k.ends) is) (kept.2 ∙ ap (λ k. k.durable) is)
    (kept.3 ∙ ap (λ k. k.batch) is) (still ∙ ap (λ k. k.failures) is)

pub returns-clause-hashed : goal.returns-clause-hashed
returns-clause-hashed g c log = c.read_value-answer.ensures.hashed log
