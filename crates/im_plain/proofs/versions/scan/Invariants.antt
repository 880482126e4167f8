use Rattle.std.proofs.Common.{take}
use Rattle.im_versions.proofs.ScanLemmas.{IsScanOf}
use Rattle.im_plain.proofs.versions.scan.Given as goal

abbrev pub invariant-loop-version : goal.invariant-loop-version
invariant-loop-version l = IsScanOf l.history l.prefix (take l.version-index l.version-items) l.shown.items
