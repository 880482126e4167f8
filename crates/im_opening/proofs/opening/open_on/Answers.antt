use Rattle.std.proofs.Common.{subst}
use Rattle.im_opening.specs.Opens.{AreFilesOpened}
use Rattle.im_opening.proofs.opening.open_on.Goals as goal

pub resumed-requires : goal.resumed-requires
resumed-requires g c =
    let hash = g.H.Hash32.digest c.args.hash.now in
    let ens = c.open_files-answer.ensures in
    let F : g.row.D.Denot → Type 0 = λ d. AreFilesOpened hash g.D.Disk.told g.D.Disk.faults d c.open_files-answer.new.disk c.open_files-answer.result in
    let files = subst F c.new-ahead.ensures (record { opened = ens.opened; first = ens.first; moments = ens.moments; left = ens.left; grows = ens.grows; cause = ens.cause }) in
    record { files = (hash, c.args.disk, record { size = (g.met.H.Hash32 g.world.𝓛 g.world.𝓜 g.world.𝓡 ((λ s x. x), (λ x. x), (λ x. x), λ x. x)).size c.args.hash.now }, files) }

pub returns-clause-opens : goal.returns-clause-opens
returns-clause-opens g c =
    let hash = g.H.Hash32.digest c.args.hash.now in
    let ens = c.open_files-answer.ensures in
    let F : g.row.D.Denot → Type 0 = λ d. AreFilesOpened hash g.D.Disk.told g.D.Disk.faults d c.open_files-answer.new.disk c.open_files-answer.result in
    let files = subst F c.new-ahead.ensures (record { opened = ens.opened; first = ens.first; moments = ens.moments; left = ens.left; grows = ens.grows; cause = ens.cause }) in
    c.resumed.ensures.opens hash c.args.disk (record { size = (g.met.H.Hash32 g.world.𝓛 g.world.𝓜 g.world.𝓡 ((λ s x. x), (λ x. x), (λ x. x), λ x. x)).size c.args.hash.now }) files

pub returns-clause-rests : goal.returns-clause-rests
returns-clause-rests g c =
    let hash = g.H.Hash32.digest c.args.hash.now in
    let ens = c.open_files-answer.ensures in
    let F : g.row.D.Denot → Type 0 = λ d. AreFilesOpened hash g.D.Disk.told g.D.Disk.faults d c.open_files-answer.new.disk c.open_files-answer.result in
    let files = subst F c.new-ahead.ensures (record { opened = ens.opened; first = ens.first; moments = ens.moments; left = ens.left; grows = ens.grows; cause = ens.cause }) in
    c.resumed.ensures.rests hash c.args.disk (record { size = (g.met.H.Hash32 g.world.𝓛 g.world.𝓜 g.world.𝓡 ((λ s x. x), (λ x. x), (λ x. x), λ x. x)).size c.args.hash.now }) files

pub returns-clause-held : goal.returns-clause-held
returns-clause-held g c t history is stands =
    let hash = g.H.Hash32.digest c.args.hash.now in
    let ens = c.open_files-answer.ensures in
    let F : g.row.D.Denot → Type 0 = λ d. AreFilesOpened hash g.D.Disk.told g.D.Disk.faults d c.open_files-answer.new.disk c.open_files-answer.result in
    let files = subst F c.new-ahead.ensures (record { opened = ens.opened; first = ens.first; moments = ens.moments; left = ens.left; grows = ens.grows; cause = ens.cause }) in
    c.resumed.ensures.held hash c.args.disk (record { size = (g.met.H.Hash32 g.world.𝓛 g.world.𝓜 g.world.𝓡 ((λ s x. x), (λ x. x), (λ x. x), λ x. x)).size c.args.hash.now }) files t history is stands

pub returns-clause-found : goal.returns-clause-found
returns-clause-found g c =
    let hash = g.H.Hash32.digest c.args.hash.now in
    let ens = c.open_files-answer.ensures in
    let F : g.row.D.Denot → Type 0 = λ d. AreFilesOpened hash g.D.Disk.told g.D.Disk.faults d c.open_files-answer.new.disk c.open_files-answer.result in
    let files = subst F c.new-ahead.ensures (record { opened = ens.opened; first = ens.first; moments = ens.moments; left = ens.left; grows = ens.grows; cause = ens.cause }) in
    c.resumed.ensures.found hash c.args.disk files

pub returns-clause-fresh : goal.returns-clause-fresh
returns-clause-fresh g c =
    let hash = g.H.Hash32.digest c.args.hash.now in
    let ens = c.open_files-answer.ensures in
    let F : g.row.D.Denot → Type 0 = λ d. AreFilesOpened hash g.D.Disk.told g.D.Disk.faults d c.open_files-answer.new.disk c.open_files-answer.result in
    let files = subst F c.new-ahead.ensures (record { opened = ens.opened; first = ens.first; moments = ens.moments; left = ens.left; grows = ens.grows; cause = ens.cause }) in
    c.resumed.ensures.fresh hash c.args.disk (record { size = (g.met.H.Hash32 g.world.𝓛 g.world.𝓜 g.world.𝓡 ((λ s x. x), (λ x. x), (λ x. x), λ x. x)).size c.args.hash.now }) files

pub returns-clause-failed : goal.returns-clause-failed
returns-clause-failed g c =
    let hash = g.H.Hash32.digest c.args.hash.now in
    let ens = c.open_files-answer.ensures in
    let F : g.row.D.Denot → Type 0 = λ d. AreFilesOpened hash g.D.Disk.told g.D.Disk.faults d c.open_files-answer.new.disk c.open_files-answer.result in
    let files = subst F c.new-ahead.ensures (record { opened = ens.opened; first = ens.first; moments = ens.moments; left = ens.left; grows = ens.grows; cause = ens.cause }) in
    c.resumed.ensures.failed hash c.args.disk (record { size = (g.met.H.Hash32 g.world.𝓛 g.world.𝓜 g.world.𝓡 ((λ s x. x), (λ x. x), (λ x. x), λ x. x)).size c.args.hash.now }) files

pub returns-clause-left : goal.returns-clause-left
returns-clause-left g c t is =
    let hash = g.H.Hash32.digest c.args.hash.now in
    let ens = c.open_files-answer.ensures in
    let F : g.row.D.Denot → Type 0 = λ d. AreFilesOpened hash g.D.Disk.told g.D.Disk.faults d c.open_files-answer.new.disk c.open_files-answer.result in
    let files = subst F c.new-ahead.ensures (record { opened = ens.opened; first = ens.first; moments = ens.moments; left = ens.left; grows = ens.grows; cause = ens.cause }) in
    c.resumed.ensures.left hash c.args.disk files t is
