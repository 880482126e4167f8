use Rattle.std.proofs.Common.{◌≡◌, ◌++◌, codes, length, take}
use Rattle.std.specs.Fmt.{decimal}
use Rattle.std.specs.List.{flat_map}
use Rattle.im_report.specs.Reads.{version_text}
use Rattle.im_report.proofs.reads.history_text.Given as goal

abbrev pub invariant-loop-version : goal.invariant-loop-version
invariant-loop-version l = l.out.items ≡ (codes "history " ++ decimal (length l.fn.versions)) ++ flat_map version_text (take l.version-index l.fn.versions)
