use Rattle.std.proofs.Common.{rules, ◌+◌, List, take, drop, subst, sym, Err}
use Rattle.std.specs.Prelude.{IfSome}
use Rattle.im_octet.proofs.Common.{ok-isnt, all-left}
use Rattle.im_disk.proofs.Leaving.{if_told, leaves_both}
use Rattle.im_disk.specs.Disk.{seen}
use Rattle.im_format.specs.Spans.{Reads}
use Rattle.im_format.specs.declared.spans.Span.{Span}
use Rattle.im_journal.specs.Phases.{IsSafe, IsStaging, ReadsAll}
use Rattle.im_journal.proofs.Calls.{next_left, next_taken, next_within}
use Rattle.im_disk.specs.declared.calls.Call.TheVariants.{Wrote}
use Rattle.im_disk.specs.declared.disk.DiskError.TheVariants as Disk
use Rattle.im_journal.specs.Made.{MadeUpTo, Makes, writes_of}
use Rattle.std.proofs.lemmas.List.{drop_all}
use Rattle.im_journal.proofs.Making.{all_made, next_made, stops_makes}
use Rattle.im_journal.proofs.steps.put_pieces.Goals as goal

pub put_piece-requires-clause-within : goal.put_piece-requires-clause-within
put_piece-requires-clause-within g c =
    let s = c.requires.staging in
    next_within _ s.0 s.1 s.2 c.args.pieces.now c.loop-written.written c.index-pieces-written.result c.loop-written-test.true c.index-pieces-written.is
    (c.loop-written.invariant.staging s.0 s.1 s.2 s.3).0

pub returns-in-Err-clause-any_moment : goal.returns-in-Err-clause-any_moment
returns-in-Err-clause-any_moment g c ends spans gate h =
    let ps = c.args.pieces.now in
    let k = c.loop-written.written in
    let p = c.index-pieces-written.result in
    let now = c.loop-written.invariant.staging ends spans gate h in
    let one = c.put_piece.ensures.any_moment ends spans gate (take k ps) (drop (k + 1) ps)
    (subst (λ (l : List Span). IfSome (g.D.Disk.told c.loop-written.disk) (IsStaging ends spans gate (take k ps) l)) (next_left ps k p c.loop-written-test.true c.index-pieces-written.is) now.0) in
    leaves_both (IsSafe ends spans gate) _ _ _ now.1 one

pub loop-written-preserved : goal.loop-written-preserved
loop-written-preserved g c = record {
  forth = search rules;
  within = search rules;
  staging = λ ends spans gate h.
      let ps = c.args.pieces.now in
      let k = c.loop-written.written in
      let p = c.index-pieces-written.result in
      let now = c.loop-written.invariant.staging ends spans gate h in
      let here = subst (λ (l : List Span). IfSome (g.D.Disk.told c.loop-written.disk) (IsStaging ends spans gate (take k ps) l)) (next_left ps k p c.loop-written-test.true c.index-pieces-written.is) now.0 in
      let one = c.put_piece.ensures.any_moment ends spans gate (take k ps) (drop (k + 1) ps) here in (
        subst (λ (l : List Span). IfSome (g.D.Disk.told c.put_piece.new.disk) (IsStaging ends spans gate l (drop (k + 1) ps))) (next_taken ps k p c.loop-written-test.true c.index-pieces-written.is)
            (c.in-Ok.ensures.ok ends spans gate (take k ps) (drop (k + 1) ps) here),
        leaves_both (IsSafe ends spans gate) _ _ _ now.1 one,
      );
  made =
      let ps = c.args.pieces.now in
      let k = c.loop-written.written in
      let p = c.index-pieces-written.result in
      next_made (writes_of (drop c.args.written.now ps)) (Wrote p.file p.at p.octets) (writes_of (drop (k + 1) ps)) _ _ _
      (subst (λ (l : List Span). MadeUpTo (writes_of (drop c.args.written.now ps)) (writes_of l) (g.D.Disk.told c.args.disk.now) (g.D.Disk.told c.loop-written.disk)) (next_left ps k p c.loop-written-test.true c.index-pieces-written.is) c.loop-written.invariant.made)
      c.in-Ok.ensures.calls.ok;
  faults = search (rules, c.in-Ok.ensures.cause, c.loop-written.invariant.faults);
}

pub returns-in-Err-clause-calls : goal.returns-in-Err-clause-calls
returns-in-Err-clause-calls g c =
    let ps = c.args.pieces.now in
    let k = c.loop-written.written in
    let p = c.index-pieces-written.result in
    let calls = writes_of (drop c.args.written.now ps) in
    let o = g.D.Disk.told c.args.disk.now in
    let m = g.D.Disk.told c.loop-written.disk in
    let next = next_left ps k p c.loop-written-test.true c.index-pieces-written.is in
    subst (λ (l : List Span). Makes {T = Unit {0}} Disk.Failed Disk.Memory calls (writes_of l) o (g.D.Disk.told c.put_piece.new.disk) (Err c.in-Err.error)) (sym next)
    (stops_makes (Unit {0}) calls (Wrote p.file p.at p.octets) (writes_of (drop (k + 1) ps)) o m (g.D.Disk.told c.put_piece.new.disk) c.in-Err.error
    (subst (λ (l : List Span). MadeUpTo calls (writes_of l) o m) next c.loop-written.invariant.made) c.in-Err.ensures.calls)

pub returns-clause-calls : goal.returns-clause-calls
returns-clause-calls g c =
    let ps = c.args.pieces.now in
    let calls = writes_of (drop c.args.written.now ps) in record {
      ok = all_made calls _ _
          (subst (λ (l : List Span). MadeUpTo calls (writes_of l) (g.D.Disk.told c.args.disk.now) (g.D.Disk.told c.loop-written.disk)) (drop_all c.loop-written.written ps c.loop-written-test.false) c.loop-written.invariant.made);
      failed = λ e. absurd (ok-isnt tt Disk.Failed e);
      ran_out = λ e. absurd (ok-isnt tt Disk.Memory e);
    }

pub returns-in-Err-clause-here : goal.returns-in-Err-clause-here
returns-in-Err-clause-here g c ends spans gate h =
    let ps = c.args.pieces.now in
    let k = c.loop-written.written in
    let now = c.loop-written.invariant.staging ends spans gate h in
    c.put_piece.ensures.here ends spans gate (take k ps) (drop (k + 1) ps)
    (subst (λ (l : List Span). IfSome (g.D.Disk.told c.loop-written.disk) (IsStaging ends spans gate (take k ps) l)) (next_left ps k c.index-pieces-written.result c.loop-written-test.true c.index-pieces-written.is) now.0)

pub returns-clause-here : goal.returns-clause-here
returns-clause-here g c ends spans gate h =
    let ps = c.args.pieces.now in
    let k = c.loop-written.written in
    if_told (IsStaging ends spans gate (take k ps) (drop k ps)) (ReadsAll spans) (λ t s. all-left (Reads (seen t)) spans (take k ps) s.here.reads) (g.D.Disk.told c.loop-written.disk)
    (c.loop-written.invariant.staging ends spans gate h).0
