use Rattle.im_format.proofs.EmptyLemmas.{empty-stands, none-stands, none-alone}
use Rattle.im_format.proofs.laws.no_batch_stands_for_the_empty_history.Goals as goal

pub returns-clause-stands : goal.returns-clause-stands
returns-clause-stands c = λ hash image none. none-stands hash image none

pub returns-clause-alone : goal.returns-clause-alone
returns-clause-alone c = λ hash image history none s. none-alone hash image history none s

pub returns-clause-empty : goal.returns-clause-empty
returns-clause-empty c = λ hash. empty-stands hash
