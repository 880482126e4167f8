use Rattle.std.proofs.Common.{◌≡◌, ◌++◌, take}
use Rattle.std.specs.List.{flat_map}
use Rattle.im_verify.specs.Shows.{entry_line}
use Rattle.im_verify.proofs.show_text.push_entries.Given as goal

abbrev pub invariant-loop-fact : goal.invariant-loop-fact
invariant-loop-fact l = l.out.items ≡ l.initial.out.items ++ flat_map entry_line (take l.fact-index l.facts)
