use Rattle.std.proofs.Common.{◌≢◌, All, take}
use Rattle.im_versions.specs.declared.versions.Version.{Version}
use Rattle.im_sqlsound.proofs.marked.has_key.Given as goal

-- none so far is of it
abbrev pub invariant-loop-version : goal.invariant-loop-version
invariant-loop-version l = All (λ (v : Version). v.key ≢ l.key) (take l.version-index l.versions)
