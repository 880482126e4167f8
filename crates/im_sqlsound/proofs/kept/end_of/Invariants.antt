use Rattle.std.proofs.Common.{◌≡◌, ◌≤◌, ◌<◌, ℕ, get_or}
use Rattle.im_versions.specs.declared.versions.Version.{Version}
use Rattle.im_sqlsound.proofs.kept.end_of.Given as goal

-- those from the place on are of its transaction
abbrev pub invariant-loop-end : goal.invariant-loop-end
invariant-loop-end l = (k : ℕ) (d : Version) → l.at ≤ k → k < l.end → (get_or l.changes k d).tx ≡ (get_or l.changes l.at d).tx
