use Rattle.std.proofs.Common.{length}
use Rattle.im_format.specs.Records.{record_octets}
use Rattle.im_record.proofs.AtLemmas.{HasAt-between}
use Rattle.im_record.proofs.BackLemmas.{record-back}
use Rattle.im_record.proofs.laws.a_record_is_read_back.Goals as goal

pub returns-clause-held : goal.returns-clause-held
returns-clause-held c = record-back

pub returns-clause-put : goal.returns-clause-put
returns-clause-put c = λ before rest id r fits.
    record-back _ (length before) id r fits (HasAt-between before (record_octets id r) rest)
