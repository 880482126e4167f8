use Rattle.im_machine_laws.proofs.AckLemmas.{end-told, image-told}
use Rattle.im_machine_laws.proofs.laws.what_is_acknowledged_stays.Goals as goal

pub returns-clause-placed : goal.returns-clause-placed
returns-clause-placed c = λ hash before behind told answered session number header end gives each many run.
    let t = end-told hash before behind told answered session number header end gives each many run in
    (t.some, t.durable, t.is)

pub returns-clause-on_disk : goal.returns-clause-on_disk
returns-clause-on_disk c = λ hash before behind told answered session number header end image gives each many run now.
    image-told hash before behind told answered session number header end gives each many run image now
