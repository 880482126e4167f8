use Rattle.std.proofs.Common.{◌+◌, List, take, drop, subst, sym, Ok, Err}
use Rattle.std.specs.Prelude.{Option, IfSome}
use Rattle.im_disk.specs.Disk.{Told}
use Rattle.im_format.specs.declared.spans.Span.{Span}
use Rattle.im_disk.specs.declared.disk.DiskError.TheVariants as Disk
use Rattle.im_journal.specs.Made.{Makes, writes_of}
use Rattle.im_journal.specs.Phases.{IsStaging}
use Rattle.im_journal.proofs.Calls.{next_left, next_taken, next_within}
use Rattle.im_journal.proofs.steps.put_next.Goals as goal

pub put_piece-requires-clause-within : goal.put_piece-requires-clause-within
put_piece-requires-clause-within g c =
    let s = c.requires.staging in
    next_within _ s.0 s.1 s.2 c.args.pieces.now c.args.written.now c.index-pieces-written.result c.requires.left c.index-pieces-written.is s.3

pub returns-in-Ok-clause-ok : goal.returns-in-Ok-clause-ok
returns-in-Ok-clause-ok g c ends spans gate h =
    let ps = c.args.pieces.now in
    let k = c.args.written.now in
    let p = c.index-pieces-written.result in
    let here = subst (λ (l : List Span). IfSome (g.D.Disk.told c.args.disk.now) (IsStaging ends spans gate (take k ps) l)) (next_left ps k p c.requires.left c.index-pieces-written.is) h in
    subst (λ (l : List Span). IfSome (g.D.Disk.told c.put_piece.new.disk) (IsStaging ends spans gate l (drop (k + 1) ps))) (next_taken ps k p c.requires.left c.index-pieces-written.is)
    (c.in-Ok.ensures.ok ends spans gate (take k ps) (drop (k + 1) ps) here)

pub returns-in-Ok-clause-any_moment : goal.returns-in-Ok-clause-any_moment
returns-in-Ok-clause-any_moment g c ends spans gate h =
    let ps = c.args.pieces.now in
    let k = c.args.written.now in
    c.put_piece.ensures.any_moment ends spans gate (take k ps) (drop (k + 1) ps)
    (subst (λ (l : List Span). IfSome (g.D.Disk.told c.args.disk.now) (IsStaging ends spans gate (take k ps) l)) (next_left ps k c.index-pieces-written.result c.requires.left c.index-pieces-written.is) h)

pub returns-in-Err-clause-any_moment : goal.returns-in-Err-clause-any_moment
returns-in-Err-clause-any_moment g c ends spans gate h =
    let ps = c.args.pieces.now in
    let k = c.args.written.now in
    c.put_piece.ensures.any_moment ends spans gate (take k ps) (drop (k + 1) ps)
    (subst (λ (l : List Span). IfSome (g.D.Disk.told c.args.disk.now) (IsStaging ends spans gate (take k ps) l)) (next_left ps k c.index-pieces-written.result c.requires.left c.index-pieces-written.is) h)

pub returns-in-Err-clause-again : goal.returns-in-Err-clause-again
returns-in-Err-clause-again g c ends spans gate h e =
    subst (λ (o : Option Told). IfSome o (IsStaging ends spans gate (take c.args.written.now c.args.pieces.now) (drop c.args.written.now c.args.pieces.now))) (sym (c.in-Err.ensures.memory e)) h

pub returns-in-Ok-clause-calls : goal.returns-in-Ok-clause-calls
returns-in-Ok-clause-calls g c =
    let ps = c.args.pieces.now in
    let k = c.args.written.now in
    subst (λ (l : List Span). Makes {T = Unit {0}} Disk.Failed Disk.Memory (writes_of (take 1 l)) (writes_of (take 1 l)) (g.D.Disk.told c.args.disk.now) (g.D.Disk.told c.put_piece.new.disk) (Ok tt))
    (sym (next_left ps k c.index-pieces-written.result c.requires.left c.index-pieces-written.is)) c.in-Ok.ensures.calls

pub returns-in-Err-clause-calls : goal.returns-in-Err-clause-calls
returns-in-Err-clause-calls g c =
    let ps = c.args.pieces.now in
    let k = c.args.written.now in
    subst (λ (l : List Span). Makes {T = Unit {0}} Disk.Failed Disk.Memory (writes_of (take 1 l)) (writes_of (take 1 l)) (g.D.Disk.told c.args.disk.now) (g.D.Disk.told c.put_piece.new.disk) (Err c.in-Err.error))
    (sym (next_left ps k c.index-pieces-written.result c.requires.left c.index-pieces-written.is)) c.in-Err.ensures.calls

pub returns-in-Ok-clause-here : goal.returns-in-Ok-clause-here
returns-in-Ok-clause-here g c ends spans gate h =
    let ps = c.args.pieces.now in
    let k = c.args.written.now in
    c.put_piece.ensures.here ends spans gate (take k ps) (drop (k + 1) ps)
    (subst (λ (l : List Span). IfSome (g.D.Disk.told c.args.disk.now) (IsStaging ends spans gate (take k ps) l)) (next_left ps k c.index-pieces-written.result c.requires.left c.index-pieces-written.is) h)

pub returns-in-Err-clause-here : goal.returns-in-Err-clause-here
returns-in-Err-clause-here g c ends spans gate h =
    let ps = c.args.pieces.now in
    let k = c.args.written.now in
    c.put_piece.ensures.here ends spans gate (take k ps) (drop (k + 1) ps)
    (subst (λ (l : List Span). IfSome (g.D.Disk.told c.args.disk.now) (IsStaging ends spans gate (take k ps) l)) (next_left ps k c.index-pieces-written.result c.requires.left c.index-pieces-written.is) h)
