use Rattle.std.proofs.Common.{◌≡◌, ◌⊎◌, ◌∙◌, Err, ap, inl, inr, refl, subst, sym}
use Rattle.im_verify.specs.Judged.{StopsHeld}
use Rattle.im_verify.specs.Runs.{Verifies}
use Rattle.im_verify.specs.Stops.{ended_by}
use Rattle.im_verify.specs.declared.ended.Ended.{Ended}
use Rattle.im_verify.specs.declared.ended.Ended.TheVariants as ended
use Rattle.im_verify.specs.declared.lines.LineEnd.{LineEnd}
use Rattle.im_verify.specs.declared.stops.Stop.TheVariants as stops
use Rattle.im_verify.proofs.EndedLemmas.{took-done, took-is, took-none}
use Rattle.im_verify.proofs.KeepLemmas.{stops_held, takes_held}
use Rattle.im_verify.proofs.RunLemmas.{breaks-at, breaks-into, breaks-off, verifies}
use Rattle.im_verify.proofs.verify.verify_behind.Goals as goal

pub returns-clause-ok : goal.returns-clause-ok
returns-clause-ok g c = λ source is how.
    let hash = g.H.Hash32.digest c.args.hash.now in
    let held = g.P.Keeper.kept c.args.keeper.now in
    let kept = g.P.Keeper.kept c.take_lines-took.new.keeper in
    let before = g.K.Sink.written c.args.sink.now in
    let after = g.K.Sink.written c.take_lines-took.new.sink in
    let took = c.in-Ok.ensures.ok in
    let said = c.ended_by.ensures in
    let P : Ended → Type 0 = λ e. Verifies hash e source before after held kept in
    let H : Ended → Type 0 = λ e. (e ≡ ended.Ok) ⊎ (e ≡ ended.Refused) ⊎ (e ≡ ended.Forked) in
    subst P (sym said) (took-done P _ c.take_lines-took.result c.take_lines-took.ensures.ok
    (λ (e : LineEnd) all. verifies hash source held held c.args.stream.now took.0 e before after kept is refl (takes_held hash held c.args.lines.now c.args.lines.now took.0 c.requires refl took.2)
    ((rw c.in-Ok.ensures.hash at all) took.0 took.1))
    (subst H said how))

pub returns-clause-into : goal.returns-clause-into
returns-clause-into g c = λ source is e.
    let held = g.P.Keeper.kept c.args.keeper.now in
    let took = c.in-Ok.ensures.ok in
    breaks-into (g.H.Hash32.digest c.args.hash.now) source held held c.args.stream.now took.0
    (g.K.Sink.written c.args.sink.now) (g.K.Sink.written c.take_lines-took.new.sink) (g.P.Keeper.kept c.take_lines-took.new.keeper)
    is refl (takes_held (g.H.Hash32.digest c.args.hash.now) held c.args.lines.now c.args.lines.now took.0 c.requires refl took.2)
    ((rw c.in-Ok.ensures.hash at (c.take_lines-took.ensures.into (took-is c.ended_by.result c.take_lines-took.result (Err stops.WriteFault) c.ended_by.ensures e))) took.0 took.1)

pub returns-clause-off : goal.returns-clause-off
returns-clause-off g c = λ source is e. inr (
    let held = g.P.Keeper.kept c.args.keeper.now in
    let took = c.in-Ok.ensures.ok in
    breaks-off (g.H.Hash32.digest c.args.hash.now) source held held c.args.stream.now took.0
    (g.K.Sink.written c.args.sink.now) (g.K.Sink.written c.take_lines-took.new.sink) (g.P.Keeper.kept c.take_lines-took.new.keeper)
    is refl (takes_held (g.H.Hash32.digest c.args.hash.now) held c.args.lines.now c.args.lines.now took.0 c.requires refl took.2)
    ((rw c.in-Ok.ensures.hash at (c.take_lines-took.ensures.some (took-is c.ended_by.result c.take_lines-took.result (Err stops.Memory) c.ended_by.ensures e))) took.0 took.1))

pub returns-clause-fault : goal.returns-clause-fault
returns-clause-fault g c = λ source is e. inr (
    let held = g.P.Keeper.kept c.args.keeper.now in
    let took = c.in-Ok.ensures.ok in
    breaks-at (g.H.Hash32.digest c.args.hash.now) source held held c.args.stream.now took.0
    (g.K.Sink.written c.args.sink.now) (g.K.Sink.written c.take_lines-took.new.sink) (g.P.Keeper.kept c.take_lines-took.new.keeper)
    is refl (takes_held (g.H.Hash32.digest c.args.hash.now) held c.args.lines.now c.args.lines.now took.0 c.requires refl took.2)
    ((rw c.in-Ok.ensures.hash at (c.take_lines-took.ensures.accepted (took-is c.ended_by.result c.take_lines-took.result (Err stops.KeeperFault) c.ended_by.ensures e))) took.0 took.1))

pub returns-clause-kept : goal.returns-clause-kept
returns-clause-kept g c = λ k e. absurd (took-none c.ended_by.result c.take_lines-took.result (ended.Kept k) c.ended_by.ensures e refl)

pub returns-clause-nothing : goal.returns-clause-nothing
returns-clause-nothing g c = λ k e. absurd (took-none c.ended_by.result c.take_lines-took.result (ended.Kept k) c.ended_by.ensures e refl)

pub returns-clause-never : goal.returns-clause-never
returns-clause-never g c = λ how.
    elim how [
      | inl read ↦ took-none c.ended_by.result c.take_lines-took.result ended.ReadFault c.ended_by.ensures read refl
      | inr long ↦ took-none c.ended_by.result c.take_lines-took.result ended.Long c.ended_by.ensures long refl
    ]

pub returns-clause-write : goal.returns-clause-write
returns-clause-write g c = λ e. c.take_lines-took.ensures.write (took-is c.ended_by.result c.take_lines-took.result (Err stops.WriteFault) c.ended_by.ensures e)

pub returns-clause-keep : goal.returns-clause-keep
returns-clause-keep g c = λ e. c.take_lines-took.ensures.keep (took-is c.ended_by.result c.take_lines-took.result (Err stops.KeeperFault) c.ended_by.ensures e)

pub returns-clause-sink_count : goal.returns-clause-sink_count
returns-clause-sink_count g c = λ other. c.take_lines-took.ensures.sink_count (λ is. other (c.ended_by.ensures ∙ ap ended_by is))

pub returns-clause-keeper_count : goal.returns-clause-keeper_count
returns-clause-keeper_count g c = λ other. c.take_lines-took.ensures.keeper_count (λ is. other (c.ended_by.ensures ∙ ap ended_by is))

pub returns-clause-sink_once : goal.returns-clause-sink_once
returns-clause-sink_once g c = c.take_lines-took.ensures.sink_once

pub returns-clause-keeper_once : goal.returns-clause-keeper_once
returns-clause-keeper_once g c = c.take_lines-took.ensures.keeper_once

pub returns-in-Err-Line-clause-kept : goal.returns-in-Err-Line-clause-kept
returns-in-Err-Line-clause-kept g c = λ k e.
    let same : c.in-Err-Line.line ≡ k = cc in
    subst (StopsHeld (g.H.Hash32.digest c.args.hash.now) (g.P.Keeper.kept c.args.keeper.now)) same
    (stops_held (g.H.Hash32.digest c.args.hash.now) (g.P.Keeper.kept c.args.keeper.now) c.args.lines.now c.args.lines.now c.in-Err-Line.line c.requires refl
    (c.in-Err-Line.ensures.line c.in-Err-Line.line (ap Err c.in-Err-Line.field-0-is)))
