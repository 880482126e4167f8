use Rattle.std.proofs.Common.{◌≡◌, List, Vec, Global, ap, subst}
use Rattle.im_dealing.specs.Runs.{HasRun, start_of}
use Rattle.im_script.specs.declared.commands.Line.{Line}
use Rattle.im_session.proofs.lines.run_session.Goals as goal

pub returns : goal.returns
returns g c =
    let r = c.run_lines-session.ensures in
    let lines : c.replace-lines.result.items ≡ c.args.session.now.lines.items = ap (λ (v : Vec Line Global). v.items) c.replace-lines.ensures.value in
    record {
      done = record {
        pass = r.pass.0;
        weight = r.pass.1;
        number = r.name;
        seen = r.seen;
        answers = r.ran.0;
        texts = r.ran.1;
        ran = subst (λ (ls : List Line). HasRun g.N.TipName.digest (start_of c.args.session.now) c.run_lines-session.new.session.pass ls r.ran.0 c.run_lines-session.result) lines r.ran.2;
      };
    }
