-- A script within the limit.
use Rattle.std.specs.Prelude.{◌≤◌, ℕ, List, length}
use Rattle.im_script.specs.Script.{IsScript}
use Rattle.im_script.specs.declared.commands.Line.{Line}

-- these octets are a script that isn't too long, of these phases
pub record IsGiven (script : List ℕ) (phases : List (List Line)) : Type 0 where
  pub short : length script ≤ 67108864
  pub read : IsScript script phases
