use Rattle.im_record.proofs.LengthLemmas.{lengths-serve}
use Rattle.im_record.proofs.laws.lengths_stand_for_the_value_logs.Goals as goal

pub returns : goal.returns
returns c = lengths-serve
