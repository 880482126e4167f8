use Rattle.std.proofs.Common.{◌∙◌, ℕ, List, ap}
use Rattle.im_index.specs.Marks.{found}
use Rattle.im_index.proofs.search.of_key.Goals as goal

pub returns-clause-versions : goal.returns-clause-versions
returns-clause-versions g c =
    c.all_of.ensures.versions ∙ ap (λ (k : List ℕ). found k c.args.n c.args.run.now) c.new-sought.ensures
