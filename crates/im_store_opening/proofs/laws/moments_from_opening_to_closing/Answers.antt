use Rattle.std.proofs.Common.{Some, refl}
use Rattle.im_disk.specs.Disk.{after}
use Rattle.im_disk.specs.declared.calls.Call.TheVariants.{Synced}
use Rattle.im_store_opening.proofs.MomentLemmas.{moments_both}
use Rattle.im_store_opening.proofs.laws.moments_from_opening_to_closing.Goals as goal

pub returns : goal.returns
returns g c = λ n t passes disk constant now closed opens.
    moments_both n.digest n.found closed.items (Some (after Synced t)) n.synced (g.D.Disk.told disk) closed.goes_on (opens.moments t refl) closed.moments
