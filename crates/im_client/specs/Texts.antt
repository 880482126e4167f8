-- The line that tells which check of a stream's line failed.
use Rattle.std.specs.Prelude.{ℕ, List, ◌++◌, codes}
use Rattle.std.specs.Fmt.{decimal}
use Rattle.hex.specs.Hex.{encode_lower}
use Rattle.im_mtree.specs.declared.faults.PathFault.{PathFault}
use Rattle.im_mtree.specs.declared.faults.PathFault.TheVariants as path
use Rattle.im_proof.specs.declared.faults.HeaderFault.{HeaderFault}
use Rattle.im_proof.specs.declared.faults.HeaderFault.TheVariants.{Version, Entries, Tree}
use Rattle.im_proof.specs.declared.faults.DualFault.{DualFault}
use Rattle.im_proof.specs.declared.faults.DualFault.TheVariants as dual
use Rattle.im_client.specs.declared.faults.LineFault.{LineFault}
use Rattle.im_client.specs.declared.faults.LineFault.TheVariants as line

-- a name, and two numbers: wanted, then found
unfoldable pub with_numbers : List ℕ → ℕ → ℕ → List ℕ
with_numbers name want got = name ++ codes " " ++ decimal want ++ codes " " ++ decimal got

-- a name, and two digests in lower-case hex: wanted, then found
unfoldable pub with_digests : List ℕ → List ℕ → List ℕ → List ℕ
with_digests name want got = name ++ codes " " ++ encode_lower want ++ codes " " ++ encode_lower got

-- the check of a header that failed, behind the header's role
unfoldable pub header_fault_text : List ℕ → HeaderFault → List ℕ
header_fault_text role (Version got) = with_numbers (role ++ codes "-version") 1 got
header_fault_text role (Entries want got) = with_numbers (role ++ codes "-entries") want got
header_fault_text role (Tree id bl) = with_numbers (role ++ codes "-tree") id bl

-- the check of a dual proof that failed
unfoldable pub dual_fault_text : DualFault → List ℕ
dual_fault_text (dual.Source fault) = header_fault_text (codes "source") fault
dual_fault_text (dual.Target fault) = header_fault_text (codes "target") fault
dual_fault_text (dual.Order source target) = with_numbers (codes "order") source target
dual_fault_text (dual.Shrink source target) = with_numbers (codes "shrink") source target
dual_fault_text (dual.InclusionLength want got) = with_numbers (codes "inclusion-length") want got
dual_fault_text (dual.InclusionRoot want got) = with_digests (codes "inclusion-root") want got
dual_fault_text (dual.ConsistencyLength want got) = with_numbers (codes "consistency-length") want got
dual_fault_text (dual.ConsistencyOld want got) = with_digests (codes "consistency-old") want got
dual_fault_text (dual.ConsistencyNew want got) = with_digests (codes "consistency-new") want got
dual_fault_text (dual.LastLength want got) = with_numbers (codes "last-length") want got
dual_fault_text (dual.LastRoot want got) = with_digests (codes "last-root") want got
dual_fault_text (dual.BlAlh want got) = with_digests (codes "bl-alh") want got
dual_fault_text (dual.LinearLength want got) = with_numbers (codes "linear-length") want got
dual_fault_text (dual.LinearStart want got) = with_digests (codes "linear-start") want got
dual_fault_text (dual.LinearEnd want got) = with_digests (codes "linear-end") want got
dual_fault_text (dual.AdvanceLength want got) = with_numbers (codes "advance-length") want got
dual_fault_text (dual.AdvanceCount want got) = with_numbers (codes "advance-count") want got
dual_fault_text (dual.AdvancePathLength number want got) = with_numbers (codes "advance-path-length " ++ decimal number) want got
dual_fault_text (dual.AdvancePathRoot number want got) = with_digests (codes "advance-path-root " ++ decimal number) want got
dual_fault_text (dual.AdvanceEnd want got) = with_digests (codes "advance-end") want got

-- the check of an entry's path that failed
unfoldable pub path_fault_text : PathFault → List ℕ
path_fault_text (path.Index width got) = with_numbers (codes "path-index") width got
path_fault_text (path.Length want got) = with_numbers (codes "path-length") want got
path_fault_text (path.Root want got) = with_digests (codes "path-root") want got

-- the check of a line that failed, with its values
unfoldable pub fault_text : LineFault → List ℕ
fault_text line.Syntax = codes "syntax"
fault_text (line.State fault) = header_fault_text (codes "state") fault
fault_text (line.StateId want got) = with_numbers (codes "state-id") want got
fault_text (line.StateAlh want got) = with_digests (codes "state-alh") want got
fault_text line.NoState = codes "no-state"
fault_text (line.SourceId want got) = with_numbers (codes "source-id") want got
fault_text (line.SourceAlh want got) = with_digests (codes "source-alh") want got
fault_text (line.TargetId want got) = with_numbers (codes "target-id") want got
fault_text (line.TargetAlh want got) = with_digests (codes "target-alh") want got
fault_text (line.Dual fault) = dual_fault_text fault
fault_text line.AnchorMissing = codes "anchor-missing"
fault_text line.AnchorExtra = codes "anchor-extra"
fault_text (line.AnchorSourceId want got) = with_numbers (codes "anchor-source-id") want got
fault_text (line.AnchorTargetId want got) = with_numbers (codes "anchor-target-id") want got
fault_text (line.AnchorSourceAlh want got) = with_digests (codes "anchor-source-alh") want got
fault_text (line.AnchorTargetAlh want got) = with_digests (codes "anchor-target-alh") want got
fault_text (line.Anchor fault) = codes "anchor-" ++ dual_fault_text fault
fault_text (line.Path fault) = path_fault_text fault

-- what is written of line n where a check of it fails
unfoldable pub refused_line : ℕ → LineFault → List ℕ
refused_line n fault = codes "refused " ++ decimal n ++ codes " " ++ fault_text fault ++ codes "\n"
