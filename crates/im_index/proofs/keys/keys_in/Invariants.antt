use Rattle.std.proofs.Common.{◌≡◌, filter, map, take}
use Rattle.im_versions.specs.Versions.{is_shown}
use Rattle.im_index.proofs.TakenLemmas.{key_version}
use Rattle.im_index.proofs.keys.keys_in.Given as goal

abbrev pub invariant-loop-entry : goal.invariant-loop-entry
invariant-loop-entry l = l.versions.items ≡ map (key_version l.k) (filter is_shown (take l.entry-index l.entries))
