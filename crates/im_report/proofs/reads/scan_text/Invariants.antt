use Rattle.std.proofs.Common.{◌≡◌, ◌++◌, codes, length, map, take}
use Rattle.std.specs.Fmt.{decimal}
use Rattle.std.specs.List.{flat_map}
use Rattle.im_report.specs.Reads.{scanned_text}
use Rattle.im_report.proofs.reads.scan_text.Given as goal

abbrev pub invariant-loop-version : goal.invariant-loop-version
invariant-loop-version l = l.out.items ≡ (codes "scan " ++ decimal (length l.fn.shown)) ++ flat_map scanned_text (map (λ v. v.now) (take l.version-index l.fn.shown))
