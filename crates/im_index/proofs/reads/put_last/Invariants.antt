use Rattle.std.proofs.Common.{◌≤◌, ◌-◌, ℕ, List, ◌++◌, length, take}
use Rattle.std.specs.List.{All, filter}
use Rattle.std.specs.Prelude.{IsTrue}
use Rattle.im_versions.specs.Versions.{begins_with}
use Rattle.im_versions.specs.declared.versions.Version.{Version}
use Rattle.im_index.specs.Newest.{HasNewest}
use Rattle.im_index.proofs.NewestLemmas.{is_within}
use Rattle.im_index.proofs.reads.put_last.Given as goal

abbrev pub invariant-passing : goal.invariant-passing
invariant-passing l = record {
  within : l.at ≤ length l.versions;
  newest : (before : List Version) (prefix : List ℕ) → HasNewest before prefix l.fn.newest → All (λ (v : Version). IsTrue (begins_with prefix v.key)) l.versions
      → HasNewest (before ++ filter (is_within l.n) (take l.at l.versions)) prefix l.newest;
}

abbrev pub decreases-passing : goal.decreases-passing
decreases-passing l = length l.versions - l.at
