use Rattle.std.proofs.Common.{rules, ◌≡◌, ◌≢◌, ◌++◌, ◌∷◌, [], ◌∙◌, ℕ, List, length, ap, sym, subst, arith, append_assoc, append-nil, Result, Err, Ok}
use Rattle.std.specs.Prelude.{AllPairs}
use Rattle.std.proofs.lemmas.List.{nil_from_length}
use Rattle.im_dealing.proofs.ScriptLemmas.{phase_named, well_done, well_next, well_none, well_stops}
use Rattle.im_dealing.specs.Dealing.{AreNamed}
use Rattle.im_dealing.specs.Scripts.{RunsPhases}
use Rattle.im_dealing.specs.declared.errors.Stopped.{Stopped}
use Rattle.im_script.specs.Script.{lines_of, names_of}
use Rattle.im_script.specs.declared.commands.Line.{Line}
use Rattle.im_script.proofs.NameLemmas.{names-apart}
use Rattle.im_session.proofs.serve.run_phases.Goals as goal

-- the lines of each phase have names among those of the script, which are apart
pub run_one-requires-clause-named : goal.run_one-requires-clause-named
run_one-requires-clause-named g c κs within =
    let rest : List (List Line) = c.next.new.self.rest.items in
    let all : c.args.script.phases.items ≡ c.loop-phase.yielded ++ c.in-Some.phase ∷ rest =
    c.loop-phase.invariant.all ∙ ap (λ (l : List (List Line)). c.loop-phase.yielded ++ l) c.in-Some.ensures.steps.0 in
    subst (λ (names : List (List ℕ)). AreNamed names c.in-Some.phase) {x = names_of [] (lines_of c.args.script.phases.items)} {y = c.deref.result.now} (sym c.requires.named ∙ sym c.deref.ensures.value)
    (phase_named c.args.script.phases.items c.loop-phase.yielded rest c.in-Some.phase all)

pub run_one-requires-clause-apart : goal.run_one-requires-clause-apart
run_one-requires-clause-apart g c κs within =
    subst (λ (names : List (List ℕ)). AllPairs (λ a b. a ≢ b) names) {x = names_of [] (lines_of c.args.script.phases.items)} {y = c.deref.result.now} (sym c.requires.named ∙ sym c.deref.ensures.value)
    (names-apart [] (lines_of c.args.script.phases.items) (λ i j d lt less. absurd (omega (arith, less))))

pub loop-phase-init : goal.loop-phase-init
loop-phase-init g c = record {
  can = tt;
  finite = tt;
  all = sym c.into_iter-phase-iterator.ensures.into_iter_gives.0;
  main = c.requires.pass;
  well = well_none g.N.TipName.digest c.args.links c.args.main.now (g.K.Sink.written c.args.sink.now) (g.K.Sink.faults c.args.sink.now);
}

-- one phase more was told whole
pub loop-phase-preserved : goal.loop-phase-preserved
loop-phase-preserved g c =
    let i = c.loop-phase.invariant in
    let told : c.run_one.result ≡ Ok tt = c.in_ok-run_one.was in
    record {
      can = tt;
      finite = tt;
      all = i.all ∙ ap (λ (l : List (List Line)). c.loop-phase.yielded ++ l) c.in-Some.ensures.steps.0 ∙ sym (append_assoc c.loop-phase.yielded (c.in-Some.phase ∷ []) c.next.new.self.rest.items);
      main = c.run_one.ensures.pass;
      well = well_next i.well c.run_one.result told c.run_one.ensures.ran;
    }

-- the script ended at a phase
pub returns-in_err-run_one-clause-ran : goal.returns-in_err-run_one-clause-ran
returns-in_err-run_one-clause-ran g c =
    let i = c.loop-phase.invariant in
    let rest : List (List Line) = c.next.new.self.rest.items in
    let all : c.args.script.phases.items ≡ c.loop-phase.yielded ++ c.in-Some.phase ∷ rest =
    i.all ∙ ap (λ (l : List (List Line)). c.loop-phase.yielded ++ l) c.in-Some.ensures.steps.0 in
    let why : Stopped = c.in_err-run_one.field-0.0 in
    let stopped : c.run_one.result ≡ Err why = c.in_err-run_one.was in
    let same : c.from_residual.result ≡ Err why = search rules in
    subst (λ (end : Result Unit Stopped). RunsPhases g.N.TipName.digest c.args.links c.args.main.now c.run_one.new.main c.args.script.phases.items (g.K.Sink.written c.args.sink.now)
    (g.K.Sink.written c.run_one.new.sink) (g.K.Sink.faults c.args.sink.now) (g.K.Sink.faults c.run_one.new.sink) end) (sym same)
    (well_stops i.well c.args.script.phases.items rest c.run_one.result why stopped all c.run_one.ensures.ran)

-- all phases were told
pub returns-clause-ran : goal.returns-clause-ran
returns-clause-ran g c =
    let i = c.loop-phase.invariant in
    let rest = c.loop-phase.phase-iterator.rest in
    let none : length rest.items ≡ 0 = sym rest.ok.0 ∙ c.in-None.ensures.steps.0 in
    well_done c.args.script.phases.items (i.all ∙ ap (λ (l : List (List Line)). c.loop-phase.yielded ++ l) (nil_from_length rest.items none) ∙ append-nil c.loop-phase.yielded) i.well
