use Rattle.im_entry.proofs.MetadataLemmas.{IsFirstBad-unique}
use Rattle.im_entry.proofs.laws.one_reading.Goals as goal

pub returns-clause-octet : goal.returns-clause-octet
returns-clause-octet c = IsFirstBad-unique
