use Rattle.std.proofs.Common.{take}
use Rattle.im_versions.proofs.VersionLemmas.{scan-unique}
use Rattle.im_plain.proofs.laws.both_forms_scan_the_same.Goals as goal

pub scan-requires : goal.scan-requires
scan-requires c = (c.requires.0, c.requires.1, c.requires.3)

pub scan-requires-2 : goal.scan-requires-2
scan-requires-2 c = (c.requires.0, c.requires.2, c.requires.3)

pub returns : goal.returns
returns c =
    scan-unique (take c.args.n c.requires.0) c.args.prefix.now _ _
    (c.in_ok-by_runs.ensures c.requires.0 c.requires.1 c.requires.3) (c.in_ok-by_list.ensures c.requires.0 c.requires.2 c.requires.3)
