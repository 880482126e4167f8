use Rattle.std.proofs.Common.{◌≡◌, ◌<◌, ◌≤◌, ◌+◌, [], ap, length, subst, sym, ◌∙◌, arith}
use Rattle.im_script.specs.Arguments.{ReadSoFar, with_end}
use Rattle.im_script.specs.Script.{IsScript, lines_of, names_of}
use Rattle.im_script.specs.contracts.scripts.SoFar.{the_view}
use Rattle.im_script.proofs.NameLemmas.{names-end, names-next}
use Rattle.im_script.proofs.ScriptLemmas.{refused-at, stops-here, read-next, stops-next, script-end}
use Rattle.im_script.proofs.scripts.read_script.Goals as goal

pub returns-then-not-branch-clause-line : goal.returns-then-not-branch-clause-line
returns-then-not-branch-clause-line c = λ k e.
    let some : 0 < length c.loop-rest.rest.now = grind arith in
    let number : k ≡ c.loop-rest.number + 1 = cc in
    refused-at c.args.octets.now c.loop-rest.number k number
    (c.loop-rest.invariant.stops 0 (stops-here c.loop-rest.so_far.names c.loop-rest.rest.now c.first_line.result.0.now c.first_line.result.1.now some c.first_line.ensures.first (c.in_ok-take_text.ensures.refused c.if-not-branch.true)))

pub loop-rest-preserved : goal.loop-rest-preserved
loop-rest-preserved c =
    let some : 0 < length c.loop-rest.rest.now = grind arith in
    let taken = c.in_ok-take_text.ensures.taken c.if-not-branch.false in
    let before = c.loop-rest.so_far in
    let after = c.take_text.new.so_far in
    let fewer : c.loop-rest.number + 1 + length c.first_line.result.1.now ≤ length c.args.octets.now = omega arith in
    record {
      read = read-next before after c.args.octets.now c.loop-rest.rest.now c.first_line.result.0.now c.first_line.result.1.now some c.first_line.ensures.first taken c.loop-rest.invariant.read;
      stops = stops-next before after c.args.octets.now c.loop-rest.rest.now c.first_line.result.0.now c.first_line.result.1.now c.loop-rest.number some c.first_line.ensures.first taken c.loop-rest.invariant.stops;
      names = names-next before after c.first_line.result.0.now taken c.loop-rest.invariant.names;
      few = fewer;
    }

pub returns-clause-ok : goal.returns-clause-ok
returns-clause-ok c =
    let read : (the_view c.so_far-2.inside).phases ≡ (with_end c.loop-rest.so_far).phases = ap (λ (s : ReadSoFar). s.phases) (c.so_far-2.view_is ∙ c.in_ok-end_phase.ensures) in
    subst (IsScript c.args.octets.now) (sym read)
    (script-end c.args.octets.now c.loop-rest.rest.now c.loop-rest.so_far (sym c.is_empty.ensures ∙ c.loop-rest-test.false) c.loop-rest.invariant.read)

pub returns-clause-names : goal.returns-clause-names
returns-clause-names c =
    let read : the_view c.so_far-2.inside ≡ with_end c.loop-rest.so_far = c.so_far-2.view_is ∙ c.in_ok-end_phase.ensures in
    ap (λ (s : ReadSoFar). s.names) read ∙ (names-end c.loop-rest.so_far c.loop-rest.invariant.names ∙ ap (λ (s : ReadSoFar). names_of [] (lines_of s.phases)) (sym read))
