use Rattle.std.proofs.Common.{All, take}
use Rattle.im_versions.specs.declared.versions.Version.{Version}
use Rattle.im_sqlsound.specs.Stepping.{IsKnownKey}
use Rattle.im_sqlsound.proofs.stepping.are_known.Given as goal

-- each so far has such a key
abbrev pub invariant-loop-version : goal.invariant-loop-version
invariant-loop-version l = All (λ (v : Version). IsKnownKey l.tables v.key) (take l.version-index l.own)
