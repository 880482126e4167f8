use Rattle.std.proofs.Common.{rules, ◌≡◌, ◌∙◌, ℕ, List, [], length, sym, subst, Err, Ok}
use Rattle.std.proofs.lemmas.List.{nil_from_length}
use Rattle.im_dealing.proofs.ScriptLemmas.{ran_none, ran_played, ran_refused}
use Rattle.im_dealing.specs.Scripts.{RunsPhase}
use Rattle.im_dealing.specs.declared.errors.LineError.TheVariants.{Memory}
use Rattle.im_dealing.specs.declared.errors.Stopped.TheVariants as stops
use Rattle.im_script.specs.declared.commands.Line.{Line}
use Rattle.im_table.specs.Known.{KnownPass}
use Rattle.im_session.proofs.serve.run_one.Goals as goal

-- a phase without lines
pub returns-then-is_empty-clause-ran : goal.returns-then-is_empty-clause-ran
returns-then-is_empty-clause-ran g c =
    let written = g.K.Sink.written c.args.sink.now in
    let faults : ℕ = g.K.Sink.faults c.args.sink.now in
    let same : c.as_slice.result.now ≡ c.args.phase = c.as_slice.ensures in
    let empty : length c.as_slice.result.now ≡ 0 = search rules in
    let none : c.args.phase ≡ [] = sym same ∙ nil_from_length c.as_slice.result.now empty in
    subst (λ (ls : List Line). RunsPhase g.N.TipName.digest c.args.links c.args.main.now c.args.main.now ls written written faults faults (Ok tt)) (sym none)
    (ran_none g.N.TipName.digest c.args.links c.args.main.now written faults)

-- it was played, and told
pub returns-in-Ok-clause-ran : goal.returns-in-Ok-clause-ran
returns-in-Ok-clause-ran g c =
    let p = c.in-Ok.ensures.played in
    ran_played g.N.TipName.digest c.args.links c.args.main.now c.play.new.main c.args.phase p.0 _ (g.K.Sink.written c.args.sink.now) (g.K.Sink.written c.tell.new.sink)
    (g.K.Sink.faults c.args.sink.now) (g.K.Sink.faults c.tell.new.sink) c.tell.result p.1 p.4 p.3 c.tell.ensures.by (c.tell.ensures.wrote p.0 p.2 p.3)

-- there was no memory for its lists
pub returns-in-Err-clause-ran : goal.returns-in-Err-clause-ran
returns-in-Err-clause-ran g c =
    let written = g.K.Sink.written c.args.sink.now in
    let faults : ℕ = g.K.Sink.faults c.args.sink.now in
    let same : c.play.new.main ≡ c.args.main.now = c.in-Err.ensures.nothing in
    let some : c.args.phase ≡ [] → ⊥ = λ none. search rules in
    subst (λ (p : KnownPass). RunsPhase g.N.TipName.digest c.args.links c.args.main.now p c.args.phase written written faults faults (Err (stops.Line Memory))) (sym same)
    (ran_refused g.N.TipName.digest c.args.links c.args.main.now c.args.phase written faults some)
