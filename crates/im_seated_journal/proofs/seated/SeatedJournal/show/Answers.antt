use Rattle.std.proofs.Common.{rules, List, ap, sym, subst}
use Rattle.im_disk.specs.Moments.{LeavesNow}
use Rattle.im_format.specs.Standing.{StandsFrom}
use Rattle.im_table.specs.Histories.{history_of}
use Rattle.im_table.specs.declared.items.LogItem.{LogItem}
use Rattle.im_table.specs.declared.view.View.{View}
use Rattle.im_seated_journal.specs.Seats.{ServesItems}
use Rattle.im_seated_journal.proofs.ServeLemmas.{serves_images, serves_later}
use Rattle.im_seated_journal.proofs.seated.SeatedJournal.show.Goals as goal

pub invariant_of-self : goal.invariant_of-self
invariant_of-self g c =
    let seen : View → List LogItem = λ v. v.seen in
    let s = serves_later c.fetch.ensures.theirs c.self.invariant.3 in (
      search rules,
      search rules,
      search rules,
      subst (λ (l : List LogItem). ServesItems g.D.Disk.told g.D.Disk.faults g.N.TipName.digest g.N.TipName.found g.N.TipName.synced g.N.TipName.faults l c.self.inside.journal) (sym (ap seen c.split.ensures.right.1)) s,
    )

pub returns-clause-images : goal.returns-clause-images
returns-clause-images g c =
    let told = g.D.Disk.told in
    let old = c.self.inside.journal in
    let seen : View → List LogItem = λ v. v.seen in
    subst (λ (l : List LogItem). LeavesNow (StandsFrom g.N.TipName.digest old.durable (history_of l)) (told old.disk)) (sym (ap seen c.split.ensures.left.1))
    (serves_images c.fetch.new.pass.view.seen old (serves_later c.fetch.ensures.theirs c.self.invariant.3))
