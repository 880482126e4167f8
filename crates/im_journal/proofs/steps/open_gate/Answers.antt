use Rattle.std.proofs.Common.{[], ◌∷◌, inl}
use Rattle.std.specs.Prelude.{Option, IfSome}
use Rattle.im_disk.specs.Disk.{Told, after, seen}
use Rattle.im_disk.specs.declared.calls.Call.TheVariants.{Wrote, Tore}
use Rattle.im_disk.proofs.Leaving.{by_answer, if_told, leaves_by_answer, on_ok_after}
use Rattle.im_format.specs.Spans.{Reads}
use Rattle.im_alog.proofs.Outcomes.{if_mapped}
use Rattle.im_journal.specs.Phases.{IsEither, IsGated, IsSealed, ReadsAll}
use Rattle.im_journal.proofs.Calls.{gated, torn_gate, safe_front}
use Rattle.im_journal.proofs.Making.{one_makes}
use Rattle.im_journal.proofs.steps.open_gate.Goals as goal
use Rattle.im_octet.proofs.Common.{all-left}

pub returns-clause-ok : goal.returns-clause-ok
returns-clause-ok g c ends spans pieces s =
    on_ok_after (λ o. IfSome o (IsGated ends spans c.args.gate pieces)) _ _ c.write_at.result c.write_at.ensures.ok (if_mapped _ _ _ (gated ends spans c.args.gate pieces) (g.D.Disk.told c.args.disk.now) s)

pub returns-clause-any_moment : goal.returns-clause-any_moment
returns-clause-any_moment g c ends spans pieces s =
    let told = g.D.Disk.told c.args.disk.now in
    leaves_by_answer (IsEither ends spans c.args.gate pieces) (Wrote 1 c.args.gate (1 ∷ [])) (Tore 1 c.args.gate 1) _ _ c.write_at.result c.write_at.ensures.ok c.write_at.ensures.failed c.write_at.ensures.memory
    (if_told _ _ (λ t h image now. inl (safe_front ends spans pieces c.args.gate image (h.safe image now))) told s)
    (if_mapped _ _ (after (Wrote 1 c.args.gate (1 ∷ []))) (λ t h image from. torn_gate ends spans c.args.gate pieces t h from.0 image from.1 from.2) told s)
    (if_mapped _ _ (after (Tore 1 c.args.gate 1)) (λ t h image from. torn_gate ends spans c.args.gate pieces t h from.0 image from.1 from.2) told s)

pub returns-clause-calls : goal.returns-clause-calls
returns-clause-calls g c = one_makes (Wrote 1 c.args.gate (1 ∷ [])) _ _ c.write_at.result c.write_at.ensures.ok c.write_at.ensures.failed c.write_at.ensures.memory

pub returns-clause-here : goal.returns-clause-here
returns-clause-here g c ends spans pieces s =
    let o = g.D.Disk.told c.args.disk.now in
    let P : Told → Type 0 = IsSealed ends spans c.args.gate pieces in
    let front : (t : Told) → P t → ReadsAll spans t = λ t h. all-left (Reads (seen t)) spans pieces h.here.reads in
    by_answer (λ (m : Option Told). IfSome m (ReadsAll spans)) (Wrote 1 c.args.gate (1 ∷ [])) (Tore 1 c.args.gate 1) o _ c.write_at.result c.write_at.ensures.ok c.write_at.ensures.failed c.write_at.ensures.memory
    (if_mapped P (ReadsAll spans) (after (Wrote 1 c.args.gate (1 ∷ []))) (λ t h. all-left (Reads (seen (after (Wrote 1 c.args.gate (1 ∷ [])) t))) spans pieces (gated ends spans c.args.gate pieces t h).here.reads) o s)
    (if_mapped P (ReadsAll spans) (after (Tore 1 c.args.gate 1)) (λ t h. front t h) o s)
    (if_told P (ReadsAll spans) front o s)
