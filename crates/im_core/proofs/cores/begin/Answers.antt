use Rattle.std.proofs.Common.{subst}
use Rattle.im_core.proofs.OpenLemmas.{begins-start, blank-down}
use Rattle.im_core.specs.Cores.{IsCore}
use Rattle.im_digest.specs.Digests.{Hash}
use Rattle.im_machine.specs.Machines.{blank, Machine}
use Rattle.im_core.proofs.cores.begin.Goals as goal

pub reopen-requires : goal.reopen-requires
reopen-requires g c = (blank, blank-down c.no_files-image.result c.no_files-image.ensures)

pub returns-in-Ok : goal.returns-in-Ok
returns-in-Ok g c =
    let hash : Hash = g.H.Hash32.digest c.args.hash.now in
    let one = c.in-Ok.ensures blank (blank-down c.no_files-image.result c.no_files-image.ensures) in
    subst (λ (m : Machine). IsCore hash c.reopen.new.core m) (begins-start hash c.in-Ok.output one.0 one.1) one.2
