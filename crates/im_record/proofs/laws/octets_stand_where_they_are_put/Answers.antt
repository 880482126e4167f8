use Rattle.im_record.proofs.AtLemmas.{HasAt-between}
use Rattle.im_record.proofs.laws.octets_stand_where_they_are_put.Goals as goal

pub returns : goal.returns
returns c = HasAt-between
