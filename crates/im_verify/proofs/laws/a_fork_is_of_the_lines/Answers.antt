use Rattle.im_facts.specs.Facts.{nothing}
use Rattle.im_facts.specs.Folds.{known_by_all}
use Rattle.im_verify.proofs.ForkLemmas.{fork-behind}
use Rattle.im_verify.proofs.laws.a_fork_is_of_the_lines.Goals as goal

pub returns : goal.returns
returns c = λ hash kept texts verdicts front x y judged. fork-behind hash (known_by_all nothing judged.before) texts verdicts front x y judged.fold
