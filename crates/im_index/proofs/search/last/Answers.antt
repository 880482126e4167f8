use Rattle.std.proofs.Common.{◌∙◌, ℕ, List, None, ap}
use Rattle.std.specs.List.{last_or}
use Rattle.im_index.specs.Marks.{found}
use Rattle.im_index.proofs.HoldLemmas.{joined}
use Rattle.im_index.proofs.search.last.Goals as goal

pub returns-clause-last : goal.returns-clause-last
returns-clause-last g c =
    c.last_of.ensures.last ∙ ap (λ (k : List ℕ). last_or None (found k c.args.n (joined c.args.runs.now))) c.new-sought.ensures
