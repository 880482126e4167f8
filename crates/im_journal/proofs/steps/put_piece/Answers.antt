use Rattle.std.proofs.Common.{[], ◌∷◌, ◌++◌, length}
use Rattle.std.specs.Prelude.{Option, IfSome}
use Rattle.im_disk.specs.Disk.{Told, after, seen}
use Rattle.im_disk.specs.declared.calls.Call.TheVariants.{Wrote, Tore}
use Rattle.im_disk.proofs.Leaving.{by_answer, if_told, leaves_by_answer, on_ok_after}
use Rattle.im_format.specs.Spans.{Reads}
use Rattle.im_alog.proofs.Outcomes.{if_mapped}
use Rattle.im_journal.specs.Phases.{IsSafe, IsStaging, ReadsAll}
use Rattle.im_journal.proofs.Calls.{wrote, torn_safe}
use Rattle.im_journal.proofs.Making.{one_makes}
use Rattle.im_journal.proofs.steps.put_piece.Goals as goal
use Rattle.im_octet.proofs.Common.{all-left}

pub returns-clause-ok : goal.returns-clause-ok
returns-clause-ok g c ends spans gate pieces left s =
    let p = c.args.piece.now in
    on_ok_after (λ o. IfSome o (IsStaging ends spans gate (pieces ++ p ∷ []) left)) _ _ c.put.result c.put.ensures.ok
    (if_mapped _ _ _ (wrote ends spans gate pieces p left) (g.D.Disk.told c.args.disk.now) s)

pub returns-clause-any_moment : goal.returns-clause-any_moment
returns-clause-any_moment g c ends spans gate pieces left s =
    let p = c.args.piece.now in
    let o = g.D.Disk.told c.args.disk.now in
    leaves_by_answer (IsSafe ends spans gate) (Wrote p.file p.at p.octets) (Tore p.file p.at (length p.octets)) _ _ c.put.result c.put.ensures.ok c.put.ensures.failed c.put.ensures.memory
    (if_told _ _ (λ t h. h.safe) o s)
    (if_mapped _ _ (after (Wrote p.file p.at p.octets)) (λ t h image from. torn_safe ends spans gate pieces p left t h from.0 image from.1 from.2) o s)
    (if_mapped _ _ (after (Tore p.file p.at (length p.octets))) (λ t h image from. torn_safe ends spans gate pieces p left t h from.0 image from.1 from.2) o s)

pub returns-clause-here : goal.returns-clause-here
returns-clause-here g c ends spans gate pieces left s =
    let p = c.args.piece.now in
    let o = g.D.Disk.told c.args.disk.now in
    let good = Wrote p.file p.at p.octets in
    let bad = Tore p.file p.at (length p.octets) in
    let P : Told → Type 0 = IsStaging ends spans gate pieces (p ∷ left) in
    let front : (t : Told) → P t → ReadsAll spans t = λ t h. all-left (Reads (seen t)) spans pieces h.here.reads in
    by_answer (λ (m : Option Told). IfSome m (ReadsAll spans)) good bad o _ c.put.result c.put.ensures.ok c.put.ensures.failed c.put.ensures.memory
    (if_mapped P (ReadsAll spans) (after good) (λ t h. all-left (Reads (seen (after good t))) spans (pieces ++ p ∷ []) (wrote ends spans gate pieces p left t h).here.reads) o s)
    (if_mapped P (ReadsAll spans) (after bad) (λ t h. front t h) o s)
    (if_told P (ReadsAll spans) front o s)

pub returns-clause-calls : goal.returns-clause-calls
returns-clause-calls g c =
    let p = c.args.piece.now in
    one_makes (Wrote p.file p.at p.octets) _ _ c.put.result c.put.ensures.ok c.put.ensures.failed c.put.ensures.memory
