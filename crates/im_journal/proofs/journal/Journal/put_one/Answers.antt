use Rattle.std.proofs.Common.{ℕ, ◌+◌, List, length, take, drop, sym, ◌∙◌, ap, subst}
use Rattle.std.specs.Prelude.{IfSome, Ok, Err}
use Rattle.im_disk.specs.declared.disk.DiskError.TheVariants.{Failed, Memory}
use Rattle.im_format.specs.Batches.{gate_of, spans_of}
use Rattle.im_format.specs.declared.spans.Span.{Span}
use Rattle.im_journal.specs.Kept.{IsAtStep, IsInBatch, step_behind}
use Rattle.im_journal.specs.Phases.{IsStaging}
use Rattle.im_journal.specs.Pieces.{end_of}
use Rattle.im_journal.specs.declared.batches.Step.{Step}
use Rattle.im_journal.specs.declared.batches.Step.TheVariants.{Staging}
use Rattle.im_journal.proofs.Held.{put_here}
use Rattle.im_journal.proofs.Mids.{at_step, put_leaves}
use Rattle.im_journal.proofs.Single.{one_put, put_at}
use Rattle.im_journal.proofs.journal.Journal.put_one.Goals as goal

pub returns-in-Ok-clause-ok : goal.returns-in-Ok-clause-ok
returns-in-Ok-clause-ok g c hash history batches rs mid =
    let told = g.D.Disk.told in
    let old = c.self.inside in
    let m = subst (λ k. IsInBatch told hash history batches rs k) (sym c.self.view_is) mid in
    let staging = at_step told hash history batches rs _ m Staging (ap (λ k. k.batch.step) c.self.view_is ∙ c.requires.staging) in
    let ends = end_of old.ends in
    let spans = spans_of batches in
    let gate = gate_of (length batches) in
    let w = old.batch.written in
    let o = told c.put_next.new.disk in
    let call = c.in-Ok.ensures.ok ends spans gate
    (subst (λ (l : List Span). IfSome (told old.disk) (IsStaging ends spans gate (take w l) (drop w l))) (sym c.as_slice.ensures.value) staging) in
    let there = subst (λ (l : List Span). IfSome o (IsStaging ends spans gate (take (w + 1) l) (drop (w + 1) l))) c.as_slice.ensures.value call in
    let now = subst (λ (n : ℕ). IfSome o (IsStaging ends spans gate (take n old.batch.pieces.items) (drop n old.batch.pieces.items))) (sym c.in-Ok.ensures.one) there in
    record {
      first = m.first;
      next = m.next;
      pieces = m.pieces;
      ends = m.ends;
      count = m.count;
      at = subst (λ (s : Step). IsAtStep s o ends spans gate old.batch.pieces.items c.put_next.new.written) (sym c.step_behind-self-inside.ensures)
          (put_at o ends spans gate old.batch.pieces.items c.put_next.new.written now);
    }

pub returns-in-Ok-clause-step : goal.returns-in-Ok-clause-step
returns-in-Ok-clause-step g c =
    c.step_behind-self-inside.ensures ∙ ap (λ (n : ℕ). step_behind n (length c.self.inside.batch.pieces.items)) c.in-Ok.ensures.one
    ∙ ap (λ k. step_behind (k.batch.written + 1) (length k.batch.pieces)) c.self.view_is

pub returns-in-Ok-clause-written : goal.returns-in-Ok-clause-written
returns-in-Ok-clause-written g c = c.in-Ok.ensures.one ∙ ap (λ k. k.batch.written + 1) c.self.view_is

pub returns-in-Ok-clause-any_moment : goal.returns-in-Ok-clause-any_moment
returns-in-Ok-clause-any_moment g c hash history batches rs mid =
    put_leaves g.D.Disk.told hash history batches rs _ c.args.self.now c.self.view_is mid c.requires.staging c.as_slice.result.now c.as_slice.ensures.value (g.D.Disk.told c.put_next.new.disk)
    (c.put_next.ensures.any_moment (end_of c.self.inside.ends) (spans_of batches) (gate_of (length batches)))

pub returns-in-Err-Failed-clause-any_moment : goal.returns-in-Err-Failed-clause-any_moment
returns-in-Err-Failed-clause-any_moment g c hash history batches rs mid =
    put_leaves g.D.Disk.told hash history batches rs _ c.args.self.now c.self.view_is mid c.requires.staging c.as_slice.result.now c.as_slice.ensures.value (g.D.Disk.told c.put_next.new.disk)
    (c.put_next.ensures.any_moment (end_of c.self.inside.ends) (spans_of batches) (gate_of (length batches)))

pub returns-in-Err-Memory-clause-any_moment : goal.returns-in-Err-Memory-clause-any_moment
returns-in-Err-Memory-clause-any_moment g c hash history batches rs mid =
    put_leaves g.D.Disk.told hash history batches rs _ c.args.self.now c.self.view_is mid c.requires.staging c.as_slice.result.now c.as_slice.ensures.value (g.D.Disk.told c.put_next.new.disk)
    (c.put_next.ensures.any_moment (end_of c.self.inside.ends) (spans_of batches) (gate_of (length batches)))

pub returns-in-Ok-clause-calls : goal.returns-in-Ok-clause-calls
returns-in-Ok-clause-calls g c =
    one_put g.D.Disk.told _ c.args.self.now c.self.view_is c.as_slice.result.now c.as_slice.ensures.value (g.D.Disk.told c.put_next.new.disk) (Ok tt) c.in-Ok.ensures.calls

pub returns-in-Err-Failed-clause-calls : goal.returns-in-Err-Failed-clause-calls
returns-in-Err-Failed-clause-calls g c =
    one_put g.D.Disk.told _ c.args.self.now c.self.view_is c.as_slice.result.now c.as_slice.ensures.value (g.D.Disk.told c.put_next.new.disk) (Err Failed) (rw c.in-Err-Failed.field-0-is at c.in-Err-Failed.ensures.calls)

pub returns-in-Err-Memory-clause-calls : goal.returns-in-Err-Memory-clause-calls
returns-in-Err-Memory-clause-calls g c =
    one_put g.D.Disk.told _ c.args.self.now c.self.view_is c.as_slice.result.now c.as_slice.ensures.value (g.D.Disk.told c.put_next.new.disk) (Err Memory) (rw c.in-Err-Memory.field-0-is at c.in-Err-Memory.ensures.calls)

pub returns-in-Ok-clause-here : goal.returns-in-Ok-clause-here
returns-in-Ok-clause-here g c hash history batches rs mid =
    put_here g.D.Disk.told hash history batches rs _ c.args.self.now c.self.view_is mid c.requires.staging c.as_slice.result.now c.as_slice.ensures.value (g.D.Disk.told c.put_next.new.disk) (c.put_next.ensures.here (end_of c.self.inside.ends) (spans_of batches) (gate_of (length batches)))

pub returns-in-Err-Failed-clause-here : goal.returns-in-Err-Failed-clause-here
returns-in-Err-Failed-clause-here g c hash history batches rs mid =
    put_here g.D.Disk.told hash history batches rs _ c.args.self.now c.self.view_is mid c.requires.staging c.as_slice.result.now c.as_slice.ensures.value (g.D.Disk.told c.put_next.new.disk) (c.put_next.ensures.here (end_of c.self.inside.ends) (spans_of batches) (gate_of (length batches)))

pub returns-in-Err-Memory-clause-here : goal.returns-in-Err-Memory-clause-here
returns-in-Err-Memory-clause-here g c hash history batches rs mid =
    put_here g.D.Disk.told hash history batches rs _ c.args.self.now c.self.view_is mid c.requires.staging c.as_slice.result.now c.as_slice.ensures.value (g.D.Disk.told c.put_next.new.disk) (c.put_next.ensures.here (end_of c.self.inside.ends) (spans_of batches) (gate_of (length batches)))
