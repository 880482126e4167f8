use Rattle.std.proofs.Common.{◌≡◌, ◌++◌, take}
use Rattle.std.specs.List.{flat_map}
use Rattle.im_verify.specs.Shows.{header_line}
use Rattle.im_verify.proofs.show_text.push_headers.Given as goal

abbrev pub invariant-loop-header : goal.invariant-loop-header
invariant-loop-header g l = l.out.items ≡ l.initial.out.items ++ flat_map (header_line (g.H.Hash32.digest l.hash)) (take l.header-index l.headers)
