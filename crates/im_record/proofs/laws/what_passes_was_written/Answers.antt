use Rattle.im_record.proofs.WrittenLemmas.{record-written}
use Rattle.im_record.proofs.laws.what_passes_was_written.Goals as goal

pub returns : goal.returns
returns c = record-written
