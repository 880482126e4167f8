use Rattle.std.proofs.Common.{◌≡◌, ◌++◌, ◌∷◌, [], ◌∙◌, ℕ, List, length, Result, OnOk, refl, ap, sym, subst, append_assoc}
use Rattle.std.specs.Prelude.{IfErr}
use Rattle.im_dealing.proofs.GatherLemmas.{all_of}
use Rattle.im_dealing.proofs.LineLemmas.{pass_later, run_cut, run_more, run_whole}
use Rattle.im_dealing.proofs.RunLemmas.{run_none}
use Rattle.im_dealing.specs.Lines.{IsStep, IsStuck}
use Rattle.im_dealing.specs.Runs.{Start, start_of}
use Rattle.im_dealing.specs.declared.errors.LineError.{LineError}
use Rattle.im_digest.specs.Digests.{Hash}
use Rattle.im_report.specs.Report.{Answered, answer_line}
use Rattle.im_script.specs.declared.commands.Line.{Line}
use Rattle.im_table.proofs.FrontLemmas.{prefix_self, prefix_trans}
use Rattle.im_table.specs.Known.{KnownPass, TableId}
use Rattle.im_session.proofs.lines.run_lines.Goals as goal

pub loop-line-init : goal.loop-line-init
loop-line-init g c =
    let ready = c.requires.ready in
    let p : KnownPass = c.args.session.now.pass in
    record {
      can = tt;
      finite = tt;
      all = sym c.into_iter-line-iterator.ensures.into_iter_gives.0;
      pass = ready.pass;
      weight = ready.weight;
      number = refl;
      seen = prefix_self p.view.seen;
      run = ([], ready.texts, refl, run_none g.N.TipName.digest p ready.none ready.linked_none ready.told_none);
    }

-- one line more was answered
pub loop-line-preserved : goal.loop-line-preserved
loop-line-preserved g c =
    let i = c.loop-line.invariant in
    let hash : Hash = g.N.TipName.digest in
    let table : TableId = g.N.TipName.table in
    let start : Start = start_of c.args.session.now in
    let old : KnownPass = c.loop-line.session.pass in
    let new : KnownPass = c.run_line-ran.new.pass in
    let texts : List (List ℕ) = c.loop-line.session.texts.items in
    let more : List (List ℕ) = c.run_line-ran.new.texts.items in
    let line : Line = c.in-Some.line in
    let later = c.run_line-ran.ensures.later in
    let ok = subst (λ (r : Result Unit LineError). OnOk r ((a : Answered) × (a.line ≡ line) × IsStep hash old new a × (more ≡ texts ++ answer_line a ∷ []))) c.in_default.is c.run_line-ran.ensures.ok in
    record {
      can = tt;
      finite = tt;
      all = i.all ∙ ap (λ (l : List Line). c.loop-line.yielded ++ l) c.in-Some.ensures.steps.0 ∙ sym (append_assoc c.loop-line.yielded (line ∷ []) c.next.new.self.rest.items);
      pass = pass_later table old new i.pass later;
      weight = later.weight ∙ i.weight;
      number = i.number;
      seen = prefix_trans c.args.session.now.pass.view.seen old.view.seen new.view.seen i.seen later.seen;
      run = run_more hash start old new texts more c.loop-line.yielded line i.run ok later;
    }

-- a line got no reply
pub returns-in-Err-clause-pass : goal.returns-in-Err-clause-pass
returns-in-Err-clause-pass g c =
    let i = c.loop-line.invariant in
    let later = c.run_line-ran.ensures.later in
    (pass_later g.N.TipName.table c.loop-line.session.pass c.run_line-ran.new.pass i.pass later, later.weight ∙ i.weight)

pub returns-in-Err-clause-seen : goal.returns-in-Err-clause-seen
returns-in-Err-clause-seen g c =
    prefix_trans c.args.session.now.pass.view.seen c.loop-line.session.pass.view.seen c.run_line-ran.new.pass.view.seen c.loop-line.invariant.seen c.run_line-ran.ensures.later.seen

pub returns-in-Err-clause-ran : goal.returns-in-Err-clause-ran
returns-in-Err-clause-ran g c =
    let i = c.loop-line.invariant in
    let old : KnownPass = c.loop-line.session.pass in
    let new : KnownPass = c.run_line-ran.new.pass in
    let texts : List (List ℕ) = c.loop-line.session.texts.items in
    let more : List (List ℕ) = c.run_line-ran.new.texts.items in
    let line : Line = c.in-Some.line in
    let rest : List Line = c.next.new.self.rest.items in
    let all : c.args.lines.items ≡ c.loop-line.yielded ++ line ∷ rest = i.all ∙ ap (λ (l : List Line). c.loop-line.yielded ++ l) c.in-Some.ensures.steps.0 in
    let stuck = subst (λ (r : Result Unit LineError). IfErr r (λ why. IsStuck old new line why × (more ≡ texts))) c.in-Err.is c.run_line-ran.ensures.err in
    run_cut g.N.TipName.digest (start_of c.args.session.now) old new texts more c.args.lines.items c.loop-line.yielded rest line c.in-Err.why all i.run stuck c.run_line-ran.ensures.later

-- all lines have one
pub returns-clause-ran : goal.returns-clause-ran
returns-clause-ran g c =
    let i = c.loop-line.invariant in
    let rest = c.loop-line.line-iterator.rest in
    let none : length rest.items ≡ 0 = sym rest.ok.0 ∙ c.in-None.ensures.steps.0 in
    run_whole g.N.TipName.digest (start_of c.args.session.now) c.loop-line.session.pass c.loop-line.session.texts.items c.args.lines.items c.loop-line.yielded
    (all_of c.args.lines.items c.loop-line.yielded rest.items i.all none) i.run
