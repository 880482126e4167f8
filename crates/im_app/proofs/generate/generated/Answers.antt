use Rattle.std.proofs.Common.{◌≡◌, ◌∙◌, ℕ, List, [], ◌∷◌, arith, length, subst, sym}
use Rattle.im_report.specs.Report.{Report}
use Rattle.im_script.specs.Script.{lines_of}
use Rattle.im_script.specs.declared.commands.Line.{Line}
use Rattle.im_script.proofs.Unique.{script-unique}
use Rattle.im_verify.specs.Judged.{IsVerified, kept_texts, up_to_fork}
use Rattle.im_gen.specs.Generator.{accepted_of, placed_of, script_text}
use Rattle.im_status.specs.GeneratedLines.{script_lines}
use Rattle.im_status.specs.Scripts.{IsGiven}
use Rattle.im_status.proofs.GrammarLemmas.{script-is}
use Rattle.im_app.specs.Runs.{HasOneSession}
use Rattle.im_app.proofs.GeneratedLemmas.{linked-all, one-script}
use Rattle.im_app.proofs.generate.generated.Goals as goal

pub returns : goal.returns
returns g c =
    let hash = g.H.Hash32.digest c.args.hash.now in
    let n : ℕ = c.args.n in
    let r = c.in_ok-ran.ensures in
    let a = c.in_ok-count.ensures in
    let l = c.in_ok-left.ensures r.history r.stands in
    let octets : List ℕ = c.in_ok-ran.ran.report.items in
    let many : length r.history ≡ placed_of n = omega (arith, l.0, c.placed_of-placed.ensures) in
    let taken : length (kept_texts (up_to_fork a.0)) ≡ accepted_of n = omega (arith, a.3, c.accepted_of-wanted.ensures) in
    let given : IsGiven (script_text n) r.phases = subst (λ (s : List ℕ). IsGiven s r.phases) (c.deref.ensures.value ∙ c.in_ok-script.ensures) r.given in
    let same : r.phases ≡ script_lines n ∷ [] = script-unique (script_text n) r.phases (script_lines n ∷ []) given.read (script-is n c.requires) in
    let one : HasOneSession r.phases = subst HasOneSession (sym same) (one-script n) in
    let report : Report hash [] r.history (lines_of (script_lines n ∷ [])) octets = subst (λ (ps : List (List Line)). Report hash [] r.history (lines_of ps) octets) same (r.report one) in
    record {
      phases = script_lines n ∷ [];
      given = subst (λ (ps : List (List Line)). IsGiven (script_text n) ps) same given;
      octets = octets;
      history = r.history;
      report = report;
      timed = r.timed;
      many = many;
      linked = linked-all hash n r.history octets report many;
      verdicts = a.0;
      judged = subst (λ (o : List ℕ). IsVerified hash [] o a.0) c.deref-2.ensures.value a.1;
      none = a.2;
      accepted = taken;
      told = cc (l.1, c.in_ok-line_of.ensures);
    }
