use Rattle.std.proofs.Common.{◌≡◌, ◌≤◌, length, take, subst}
use Rattle.std.specs.Prelude.{IfSome}
use Rattle.im_disk.specs.Disk as disks
use Rattle.im_disk.specs.Moments.{Leaves, LeavesNow}
use Rattle.im_format.specs.Standing.{Stands, StandsFrom}
use Rattle.im_table.specs.Histories.{history_of}
use Rattle.im_journal.specs.Kept.{Kept}
use Rattle.im_seated_journal.specs.Calls.{MakesBatches, StandsPut}
use Rattle.im_seated_journal.specs.Seats.{RoseBy}
use Rattle.im_journal.specs.declared.batches.Step.TheVariants.{Idle}
use Rattle.im_seated_journal.proofs.BatchLemmas.{serves_batches, serves_put}
use Rattle.im_seated_journal.proofs.ServeLemmas.{durable_within, serves_images, serves_later, serves_moments, serves_settled, serves_whole}
use Rattle.im_seated_journal.proofs.seated.SeatedJournal.into_parts.Goals as goal

pub returns-clause-images : goal.returns-clause-images
returns-clause-images g c =
    let told = g.D.Disk.told in
    let hash = g.N.TipName.digest in
    let seen = c.self.inside.pass.view.seen in
    subst (λ (k : Kept g.row.D.Denot). LeavesNow (StandsFrom hash k.durable (history_of seen)) (told k.disk)) c.self.view_is
    (serves_images seen c.self.inside.journal c.self.invariant.3)

pub returns-clause-whole : goal.returns-clause-whole
returns-clause-whole g c =
    let told = g.D.Disk.told in
    let hash = g.N.TipName.digest in
    let seen = c.self.inside.pass.view.seen in
    subst (λ (k : Kept g.row.D.Denot). k.failures ≡ 0 → k.batch.step ≡ Idle → LeavesNow (λ image. Stands hash image (take k.durable (history_of seen))) (told k.disk)) c.self.view_is
    (serves_whole seen c.self.inside.journal c.self.invariant.3)

pub returns-clause-moments : goal.returns-clause-moments
returns-clause-moments g c =
    let told = g.D.Disk.told in
    let hash = g.N.TipName.digest in
    let seen = c.self.inside.pass.view.seen in
    subst (λ (k : Kept g.row.D.Denot). Leaves (StandsFrom hash (length g.N.TipName.found) (history_of seen)) g.N.TipName.synced (told k.disk)) c.self.view_is
    (serves_moments seen c.self.inside.journal c.self.invariant.3)

pub returns-clause-rose : goal.returns-clause-rose
returns-clause-rose g c =
    subst (λ (k : Kept g.row.D.Denot). RoseBy g.N.TipName.faults (g.D.Disk.faults k.disk) k.failures) c.self.view_is c.self.invariant.3.rose

pub returns-clause-within : goal.returns-clause-within
returns-clause-within g c =
    let seen = c.self.inside.pass.view.seen in
    subst (λ (k : Kept g.row.D.Denot). k.durable ≤ length seen) c.self.view_is
    (durable_within seen c.self.inside.journal c.self.invariant.3)

pub returns-clause-settled : goal.returns-clause-settled
returns-clause-settled g c =
    let told = g.D.Disk.told in
    let hash = g.N.TipName.digest in
    let seen = c.self.inside.pass.view.seen in
    subst (λ (k : Kept g.row.D.Denot). k.failures ≡ 0 → length seen ≤ k.durable → LeavesNow (λ image. Stands hash image (history_of seen)) (told k.disk)) c.self.view_is
    (serves_settled seen c.self.inside.journal c.self.invariant.3)

pub returns-clause-calls : goal.returns-clause-calls
returns-clause-calls g c w list begins goes laid =
    let told = g.D.Disk.told in
    subst (λ (k : Kept g.row.D.Denot). MakesBatches g.N.TipName.digest w (length g.N.TipName.found) k.durable (history_of list) g.N.TipName.synced (told k.disk)) c.self.view_is
    (serves_batches w list c.self.inside.journal (serves_later begins c.self.invariant.3) goes laid)

pub returns-clause-here : goal.returns-clause-here
returns-clause-here g c w list begins goes laid =
    let told = g.D.Disk.told in
    subst (λ (k : Kept g.row.D.Denot). k.failures ≡ 0 → length list ≤ k.durable → IfSome (told k.disk) (λ t. StandsPut g.N.TipName.digest w (length g.N.TipName.found) (history_of list) (disks.seen t))) c.self.view_is
    (serves_put w list c.self.inside.journal (serves_later begins c.self.invariant.3) goes laid)

pub returns-clause-calm : goal.returns-clause-calm
returns-clause-calm g c =
    subst (λ (k : Kept g.row.D.Denot). k.failures ≡ 0 → g.D.Disk.faults k.disk ≡ g.N.TipName.faults) c.self.view_is c.self.invariant.3.calm

pub returns-clause-old : goal.returns-clause-old
returns-clause-old g c = subst (λ (k : Kept g.row.D.Denot). length g.N.TipName.found ≤ k.durable) c.self.view_is c.self.invariant.3.old
