use Rattle.std.proofs.Common.{◌≡◌, ◌+◌, ◌<◌, ◌≤◌, ℕ, List, length, Err, refl, sym, subst, ◌∙◌, arith, inl, inr}
use Rattle.std.proofs.lemmas.Bool.{both_ways}
use Rattle.im_verify.specs.Turns.{done, WrittenAndKept, TakesAll}
use Rattle.im_verify.specs.declared.lines.LineEnd.{LineEnd}
use Rattle.im_verify.specs.declared.stops.Stop.TheVariants as stops
use Rattle.im_verify.proofs.TurnLemmas.{follows-first, follows-fork, follows-next, no-octets, ok-no-err, takes-all, takes-at, takes-into, takes-some}
use Rattle.im_verify.proofs.lines.take_lines.Goals as goal

pub loop-rest-init : goal.loop-rest-init
loop-rest-init g c = record {
  following = follows-first (g.H.Hash32.digest c.args.client.now.hash) c.args.client.now.kept c.args.stream.now (done (g.K.Sink.written c.args.sink.now) (g.P.Keeper.kept c.args.keeper.now));
  led = c.requires;
  hash = refl;
  few = omega arith;
  sink = refl;
  keeper = refl;
}

pub loop-rest-preserved : goal.loop-rest-preserved
loop-rest-preserved g c =
    let hash : List ℕ → List ℕ = g.H.Hash32.digest c.args.client.now.hash in
    let from : WrittenAndKept = done (g.K.Sink.written c.args.sink.now) (g.P.Keeper.kept c.args.keeper.now) in
    let mid : WrittenAndKept = done (g.K.Sink.written c.loop-rest.sink) (g.P.Keeper.kept c.loop-rest.keeper) in
    let to : WrittenAndKept = done (g.K.Sink.written c.take_line.new.sink) (g.P.Keeper.kept c.take_line.new.keeper) in
    let some : 0 < length c.loop-rest.rest.now = grind arith in
    let fewer : c.loop-rest.number + 1 + length c.first_line.result.1.now ≤ length c.args.stream.now = omega arith in
    record {
      following = follows-next hash c.args.client.now.kept c.loop-rest.client.kept c.take_line.new.client.kept c.args.stream.now c.loop-rest.rest.now c.first_line.result.0.now c.first_line.result.1.now
          c.loop-rest.number c.loop-rest.refused c.is_refused-refused.result
          c.in_ok-end.end from mid to some c.first_line.ensures.first c.loop-rest.invariant.following (rw c.loop-rest.invariant.hash at c.in_ok-end.ensures.ok)
          (λ e. both_ways c.is_forked.result c.if-is_forked.false (c.is_forked.ensures.1 e)) c.is_refused-refused.ensures;
      led = c.in_ok-end.ensures.led;
      hash = c.in_ok-end.ensures.hash ∙ c.loop-rest.invariant.hash;
      few = fewer;
      sink = c.in_ok-end.ensures.sink_count (ok-no-err c.in_ok-end.end stops.WriteFault) ∙ c.loop-rest.invariant.sink;
      keeper = c.in_ok-end.ensures.keeper_count (ok-no-err c.in_ok-end.end stops.KeeperFault) ∙ c.loop-rest.invariant.keeper;
    }

pub returns-then-is_forked-clause-ok : goal.returns-then-is_forked-clause-ok
returns-then-is_forked-clause-ok g c =
    let hash : List ℕ → List ℕ = g.H.Hash32.digest c.args.client.now.hash in
    let from : WrittenAndKept = done (g.K.Sink.written c.args.sink.now) (g.P.Keeper.kept c.args.keeper.now) in
    let mid : WrittenAndKept = done (g.K.Sink.written c.loop-rest.sink) (g.P.Keeper.kept c.loop-rest.keeper) in
    let to : WrittenAndKept = done (g.K.Sink.written c.take_line.new.sink) (g.P.Keeper.kept c.take_line.new.keeper) in
    let some : 0 < length c.loop-rest.rest.now = grind arith in
    follows-fork hash c.args.client.now.kept c.loop-rest.client.kept c.take_line.new.client.kept c.args.stream.now c.loop-rest.rest.now c.first_line.result.0.now c.first_line.result.1.now
    c.loop-rest.number c.loop-rest.refused c.in_ok-end.end from mid to (g.met.H.Hash32.size c.args.client.now.hash)
    (rw (c.in_ok-end.ensures.hash, c.loop-rest.invariant.hash) at c.in_ok-end.ensures.led) some c.first_line.ensures.first
    c.loop-rest.invariant.following (rw c.loop-rest.invariant.hash at c.in_ok-end.ensures.ok) (c.is_forked.ensures.0 c.if-is_forked.true)

pub returns-in_err-end-clause-into : goal.returns-in_err-end-clause-into
returns-in_err-end-clause-into g c = λ e known knows.
    let now = c.loop-rest.invariant.following known knows in
    let hash : List ℕ → List ℕ = g.H.Hash32.digest c.args.client.now.hash in
    let from : WrittenAndKept = done (g.K.Sink.written c.args.sink.now) (g.P.Keeper.kept c.args.keeper.now) in
    let mid : WrittenAndKept = done (g.K.Sink.written c.loop-rest.sink) (g.P.Keeper.kept c.loop-rest.keeper) in
    let to : WrittenAndKept = done (g.K.Sink.written c.take_line.new.sink) (g.P.Keeper.kept c.take_line.new.keeper) in
    let some : 0 < length c.loop-rest.rest.now = grind arith in
    let failed : c.take_line.result ≡ Err stops.WriteFault = grind arith in
    takes-into hash known c.args.stream.now c.loop-rest.rest.now c.first_line.result.0.now c.first_line.result.1.now c.loop-rest.number c.loop-rest.refused
    now.0 from mid to some c.first_line.ensures.first now.2 ((rw c.loop-rest.invariant.hash at (c.take_line.ensures.part failed)) now.0 now.1)

pub returns-in_err-end-clause-some : goal.returns-in_err-end-clause-some
returns-in_err-end-clause-some g c = λ e known knows.
    let now = c.loop-rest.invariant.following known knows in
    let hash : List ℕ → List ℕ = g.H.Hash32.digest c.args.client.now.hash in
    let from : WrittenAndKept = done (g.K.Sink.written c.args.sink.now) (g.P.Keeper.kept c.args.keeper.now) in
    let mid : WrittenAndKept = done (g.K.Sink.written c.loop-rest.sink) (g.P.Keeper.kept c.loop-rest.keeper) in
    let to : WrittenAndKept = done (g.K.Sink.written c.take_line.new.sink) (g.P.Keeper.kept c.take_line.new.keeper) in
    let failed : c.take_line.result ≡ Err stops.Memory = grind arith in
    let same = c.take_line.ensures.nothing (inr failed) in
    takes-some hash known c.args.stream.now c.loop-rest.rest.now c.loop-rest.number c.loop-rest.refused now.0 from mid to same.0 same.1 now.2

pub returns-in_err-end-clause-accepted : goal.returns-in_err-end-clause-accepted
returns-in_err-end-clause-accepted g c = λ e known knows.
    let now = c.loop-rest.invariant.following known knows in
    let hash : List ℕ → List ℕ = g.H.Hash32.digest c.args.client.now.hash in
    let from : WrittenAndKept = done (g.K.Sink.written c.args.sink.now) (g.P.Keeper.kept c.args.keeper.now) in
    let mid : WrittenAndKept = done (g.K.Sink.written c.loop-rest.sink) (g.P.Keeper.kept c.loop-rest.keeper) in
    let to : WrittenAndKept = done (g.K.Sink.written c.take_line.new.sink) (g.P.Keeper.kept c.take_line.new.keeper) in
    let some : 0 < length c.loop-rest.rest.now = grind arith in
    let failed : c.take_line.result ≡ Err stops.KeeperFault = grind arith in
    let same = c.take_line.ensures.nothing (inl failed) in
    takes-at hash known c.args.stream.now c.loop-rest.rest.now c.first_line.result.0.now c.first_line.result.1.now c.loop-rest.number c.loop-rest.refused
    now.0 from mid to some c.first_line.ensures.first same.0 same.1 now.2
    ((rw c.loop-rest.invariant.hash at (c.take_line.ensures.accepted failed)) now.0 now.1)

pub returns-clause-ok : goal.returns-clause-ok
returns-clause-ok g c = λ known knows.
    let now = c.loop-rest.invariant.following known knows in
    let hash : List ℕ → List ℕ = g.H.Hash32.digest c.args.client.now.hash in
    let from : WrittenAndKept = done (g.K.Sink.written c.args.sink.now) (g.P.Keeper.kept c.args.keeper.now) in
    let to : WrittenAndKept = done (g.K.Sink.written c.loop-rest.sink) (g.P.Keeper.kept c.loop-rest.keeper) in
    subst (λ (end : LineEnd). TakesAll hash known c.args.stream.now end from to) (sym c.end_by.ensures)
    (takes-all hash known c.args.stream.now c.loop-rest.rest.now c.loop-rest.number c.loop-rest.refused now.0 from to
    (no-octets c.loop-rest.rest.now (sym c.is_empty.ensures ∙ c.loop-rest-test.false)) now.2)
