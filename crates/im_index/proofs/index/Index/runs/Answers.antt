use Rattle.std.proofs.Common.{◌≡◌, ◌≤◌, length, ap, arith, ◌∙◌}
use Rattle.im_index.specs.Indexed.{Indexed}
use Rattle.im_index.proofs.IndexLemmas.{index-few}
use Rattle.im_index.proofs.index.Index.runs.Goals as goal

pub returns-clause-runs : goal.returns-clause-runs
returns-clause-runs c = c.len.ensures ∙ c.self.inside.runs.ok.0 ∙ ap (λ (k : Indexed). length k.runs) c.self.view_is

pub returns-clause-bound : goal.returns-clause-bound
returns-clause-bound c = λ history b is fits.
    let few : length c.args.self.now.runs ≤ b = index-few history b c.args.self.now is fits in
    let same : c.len.result ≡ length c.args.self.now.runs = c.len.ensures ∙ c.self.inside.runs.ok.0 ∙ ap (λ (k : Indexed). length k.runs) c.self.view_is in
    omega arith
