use Rattle.im_vlog.proofs.StandLemmas.{records_stand, records_lie}
use Rattle.im_vlog.proofs.laws.written_values_stand.Goals as goal

pub returns-clause-stand : goal.returns-clause-stand
returns-clause-stand c hash history logs id before records image are put has =
    records_stand hash history logs id image before records are put (record { each = has })

pub returns-clause-lie : goal.returns-clause-lie
returns-clause-lie c hash history logs id before records image are put reach =
    records_lie hash history logs id image before records are put (record { each = reach })
