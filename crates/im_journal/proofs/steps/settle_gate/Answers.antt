use Rattle.std.proofs.Common.{inr}
use Rattle.std.specs.Prelude.{Option, IfSome}
use Rattle.im_disk.specs.Disk.{Told, after, seen}
use Rattle.im_disk.specs.declared.calls.Call.TheVariants.{Synced, Missed}
use Rattle.im_disk.proofs.Leaving.{by_answer, if_told, leaves_by_answer, on_ok_after}
use Rattle.im_format.specs.Spans.{Reads}
use Rattle.im_alog.proofs.Outcomes.{if_mapped}
use Rattle.im_journal.specs.Phases.{IsEither, IsDone, IsGated, ReadsAll}
use Rattle.im_journal.proofs.Calls.{done_now}
use Rattle.im_journal.proofs.Making.{one_makes}
use Rattle.im_journal.proofs.steps.settle_gate.Goals as goal
use Rattle.im_octet.proofs.Common.{all-left}

pub returns-clause-ok : goal.returns-clause-ok
returns-clause-ok g c ends spans gate pieces s =
    on_ok_after (λ o. IfSome o (IsDone ends spans gate pieces)) _ _ c.sync.result c.sync.ensures.ok (if_mapped _ _ _ (done_now ends spans gate pieces) (g.D.Disk.told c.args.disk.now) s)

pub returns-clause-any_moment : goal.returns-clause-any_moment
returns-clause-any_moment g c ends spans gate pieces s =
    let told = g.D.Disk.told c.args.disk.now in
    leaves_by_answer (IsEither ends spans gate pieces) Synced Missed _ _ c.sync.result c.sync.ensures.ok c.sync.ensures.failed c.sync.ensures.memory
    (if_told _ _ (λ t h. h.either) told s)
    (if_mapped _ _ (after Synced) (λ t h image now. inr ((done_now ends spans gate pieces t h).opened image now)) told s)
    (if_mapped _ _ (after Missed) (λ t h. h.either) told s)

pub returns-clause-calls : goal.returns-clause-calls
returns-clause-calls g c = one_makes Synced _ _ c.sync.result c.sync.ensures.ok c.sync.ensures.failed c.sync.ensures.memory

pub returns-clause-here : goal.returns-clause-here
returns-clause-here g c ends spans gate pieces s =
    let o = g.D.Disk.told c.args.disk.now in
    let P : Told → Type 0 = IsGated ends spans gate pieces in
    let front : (t : Told) → P t → ReadsAll spans t = λ t h. all-left (Reads (seen t)) spans pieces h.here.reads in
    by_answer (λ (m : Option Told). IfSome m (ReadsAll spans)) Synced Missed o _ c.sync.result c.sync.ensures.ok c.sync.ensures.failed c.sync.ensures.memory
    (if_mapped P (ReadsAll spans) (after Synced) (λ t h. all-left (Reads (seen (after Synced t))) spans pieces (done_now ends spans gate pieces t h).here.reads) o s)
    (if_mapped P (ReadsAll spans) (after Missed) (λ t h. front t h) o s)
    (if_told P (ReadsAll spans) front o s)
