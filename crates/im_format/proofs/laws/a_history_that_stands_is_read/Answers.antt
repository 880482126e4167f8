use Rattle.im_format.proofs.StandReads.{stands-read}
use Rattle.im_format.proofs.laws.a_history_that_stands_is_read.Goals as goal

pub returns-clause-undamaged : goal.returns-clause-undamaged
returns-clause-undamaged c = λ hash image history long s. (stands-read hash image history (record { long = long }) s).0

pub returns-clause-read : goal.returns-clause-read
returns-clause-read c = λ hash image history long s. (stands-read hash image history (record { long = long }) s).1
