use Rattle.std.proofs.Common.{arith, ◌≡◌, ℕ, [], ◌∷◌, refl, sym, ◌∙◌, ap, subst, Option, Some, None}
use Rattle.std.specs.Option.{option_map}
use Rattle.std.specs.Prelude.{IfSome}
use Rattle.im_disk.specs.Disk.{Files, Told, after, seen}
use Rattle.im_format.specs.Spans.{Reads, octet_span}
use Rattle.im_disk.specs.declared.calls.Call.TheVariants.{Wrote, Tore, Synced, Missed}
use Rattle.im_disk.proofs.Growing.{grows_both, grows_by_answer}
use Rattle.im_disk.proofs.Leaving.{if_told, leaves_both, leaves_weaker, on_ok_after}
use Rattle.im_disk.specs.Fused.{TellsCall}
use Rattle.im_format.specs.Standing.{Stands}
use Rattle.im_alog.proofs.Outcomes.{if_mapped, leaves_of_sync, leaves_of_write, reads_of_write, seen_of_write}
use Rattle.im_opening.specs.Cut.{IsCutOff, IsHalfShut, IsShut, shut_at}
use Rattle.im_opening.proofs.GateLemmas.{cut-kept, same-torn}
use Rattle.im_octet.proofs.Common.{if-err}
use Rattle.im_opening.proofs.OpenLemmas.{failed-sync, failed-write}
use Rattle.im_opening.proofs.repair.shut_gate.Goals as goal

pub returns-in_err-write_at-clause-leaves : goal.returns-in_err-write_at-clause-leaves
returns-in_err-write_at-clause-leaves g c hash history before here =
    let P = IsCutOff hash history c.args.gate in
    leaves_weaker P (λ image. Stands hash image history) (λ image cut. cut.stands) _ _
    (leaves_of_write P 1 c.args.gate (0 ∷ []) _ _ c.write_at.result
    (record { ok = c.write_at.ensures.ok; failed = c.write_at.ensures.failed; memory = c.write_at.ensures.memory })
    (cut-kept hash history c.args.gate) before)

pub returns-clause-leaves : goal.returns-clause-leaves
returns-clause-leaves g c hash history before here =
    let P = IsCutOff hash history c.args.gate in
    let a : TellsCall (Wrote 1 c.args.gate (0 ∷ [])) (Tore 1 c.args.gate 1) _ _ c.write_at.result =
    record { ok = c.write_at.ensures.ok; failed = c.write_at.ensures.failed; memory = c.write_at.ensures.memory } in
    let one = leaves_of_write P 1 c.args.gate (0 ∷ []) _ _ c.write_at.result a (cut-kept hash history c.args.gate) before in
    let now = seen_of_write P 1 c.args.gate (0 ∷ []) _ _ c.write_at.result a c.requires.within (cut-kept hash history c.args.gate) here in
    leaves_weaker P (λ image. Stands hash image history) (λ image cut. cut.stands) _ _
    (leaves_both P (g.D.Disk.told c.args.disk.now) (g.D.Disk.told c.write_at.new.self) (g.D.Disk.told c.sync.new.disk) one
    (leaves_of_sync P (g.D.Disk.told c.write_at.new.self) (g.D.Disk.told c.sync.new.disk) c.sync.result
    (record { ok = c.sync.ensures.ok; failed = c.sync.ensures.failed; memory = c.sync.ensures.memory }) one.1
    (if_told (λ t. P (seen t)) (λ t. (image : Files) → ((k : ℕ) → image k ≡ seen t k) → P image) (λ t cut image same. cut-kept hash history c.args.gate (seen t) image (same-torn 1 c.args.gate 1 (seen t) image same) cut) _ now)))

pub returns-clause-shut : goal.returns-clause-shut
returns-clause-shut g c =
    let o = g.D.Disk.told c.args.disk.now in
    let Q : Told → Type 0 = λ t. IsShut (seen t) c.args.gate in
    on_ok_after (λ m. IfSome m Q) (g.D.Disk.told c.sync.new.disk) _ c.sync.result c.sync.ensures.ok
    (if_mapped Q Q (after Synced) (λ t h. h) (g.D.Disk.told c.write_at.new.self)
    (subst (λ (m : Option Told). IfSome m Q) (sym c.in_ok-write_at.ensures.ok)
    (if_told (λ t. Reads (seen t) (octet_span 1 c.args.gate 0)) Q (λ t r. record { octet = 0; closed = λ e. omega (arith, e); reads = r }) _
    (reads_of_write 1 c.args.gate (0 ∷ []) o c.requires.within))))

both-calls : (gate : ℕ) (o : Option Told) → option_map (after Synced) (option_map (after (Wrote 1 gate (0 ∷ []))) o) ≡ option_map (shut_at gate) o
both-calls gate None = refl
both-calls gate (Some t) = refl

pub returns-clause-written : goal.returns-clause-written
returns-clause-written g c =
    let o = g.D.Disk.told c.args.disk.now in
    on_ok_after (λ (m : Option Told). m ≡ option_map (shut_at c.args.gate) o) (g.D.Disk.told c.sync.new.disk) _ c.sync.result c.sync.ensures.ok
    (ap (λ (m : Option Told). option_map (after Synced) m) c.in_ok-write_at.ensures.ok ∙ both-calls c.args.gate o)

pub returns-in_err-write_at-clause-grows : goal.returns-in_err-write_at-clause-grows
returns-in_err-write_at-clause-grows g c =
    grows_by_answer (Wrote 1 c.args.gate (0 ∷ [])) (Tore 1 c.args.gate 1) (g.D.Disk.told c.args.disk.now) (g.D.Disk.told c.write_at.new.self) c.write_at.result
    c.write_at.ensures.ok c.write_at.ensures.failed c.write_at.ensures.memory

pub returns-clause-grows : goal.returns-clause-grows
returns-clause-grows g c =
    grows_both (g.D.Disk.told c.args.disk.now) (g.D.Disk.told c.write_at.new.self) (g.D.Disk.told c.sync.new.disk)
    (grows_by_answer (Wrote 1 c.args.gate (0 ∷ [])) (Tore 1 c.args.gate 1) (g.D.Disk.told c.args.disk.now) (g.D.Disk.told c.write_at.new.self) c.write_at.result
    c.write_at.ensures.ok c.write_at.ensures.failed c.write_at.ensures.memory)
    (grows_by_answer Synced Missed (g.D.Disk.told c.write_at.new.self) (g.D.Disk.told c.sync.new.disk) c.sync.result
    c.sync.ensures.ok c.sync.ensures.failed c.sync.ensures.memory)

pub returns-in_err-write_at-clause-half : goal.returns-in_err-write_at-clause-half
returns-in_err-write_at-clause-half g c t is =
    if-err (λ e. IsHalfShut e c.args.gate t (g.D.Disk.told c.write_at.new.self)) c.from_residual.result c.in_err-write_at.field-0.0 c.from_residual.ensures.1
    (failed-write c.args.gate t (g.D.Disk.told c.args.disk.now) (g.D.Disk.told c.write_at.new.self) c.in_err-write_at.field-0.0 is
    (c.in_err-write_at.ensures.failed, c.in_err-write_at.ensures.memory))

pub returns-clause-half : goal.returns-clause-half
returns-clause-half g c t is =
    failed-sync c.args.gate t (g.D.Disk.told c.write_at.new.self) (g.D.Disk.told c.sync.new.disk) c.sync.result
    (c.in_ok-write_at.ensures.ok ∙ ap (λ (m : Option Told). option_map (after (Wrote 1 c.args.gate (0 ∷ []))) m) is)
    c.sync.ensures.failed c.sync.ensures.memory
