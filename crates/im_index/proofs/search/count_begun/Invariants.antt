use Rattle.std.proofs.Common.{◌≡◌, ◌≤◌, ◌+◌, ◌-◌, true, length}
use Rattle.std.specs.List.{AllWithin}
use Rattle.im_versions.specs.Versions.{begins_with}
use Rattle.im_versions.specs.declared.versions.Version.{Version}
use Rattle.im_index.proofs.search.count_begun.Given as goal

abbrev pub invariant-passing : goal.invariant-passing
invariant-passing g l = record {
  within : l.at ≤ length l.versions;
  front : AllWithin (λ (v : Version). begins_with l.prefix v.key ≡ true) l.versions 0 l.at;
  cost : l.steps ≤ l.fn.steps + l.at;
}

abbrev pub decreases-passing : goal.decreases-passing
decreases-passing g l = length l.versions - l.at
