use Rattle.std.proofs.Common.{subst}
use Rattle.std.proofs.lemmas.Result.{IfOk-weaker}
use Rattle.im_core.specs.Cores.{IsCore}
use Rattle.im_core.specs.declared.cores.Core.{Core}
use Rattle.im_core.proofs.OpenLemmas.{open-no, opens-down}
use Rattle.im_digest.specs.Digests.{Hash}
use Rattle.im_core.proofs.opening.opened.Goals as goal

pub open_files-requires : goal.open_files-requires
open_files-requires g c =
    let hash : Hash = g.H.Hash32.digest c.args.hash.now in
    let down = subst (λ (x : Core). IsCore hash x c.requires.0) c.in-Down.is c.requires.1 in
    down.few

pub returns-in-Up : goal.returns-in-Up
returns-in-Up g c m is =
    let hash : Hash = g.H.Hash32.digest c.args.hash.now in
    let up = subst (λ (x : Core). IsCore hash x m) c.in-Up.is is in
    λ allowed. open-no hash m up.up allowed

pub returns-in-Down : goal.returns-in-Down
returns-in-Down g c m is =
    let hash : Hash = g.H.Hash32.digest c.args.hash.now in
    let down = subst (λ (x : Core). IsCore hash x m) c.in-Down.is is in
    IfOk-weaker c.open_files.result _ _ (λ store opens. opens-down hash m c.in-Down.image store down opens) c.open_files.ensures
