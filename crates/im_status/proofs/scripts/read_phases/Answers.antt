use Rattle.std.proofs.Common.{◌≤◌, ℕ, List, length, sym, subst}
use Rattle.im_script.proofs.NameLemmas.{few-sessions}
use Rattle.im_status.proofs.scripts.read_phases.Goals as goal

-- a script has at most eight sessions
pub returns-in-Ok-read_script-clause-names : goal.returns-in-Ok-read_script-clause-names
returns-in-Ok-read_script-clause-names g c =
    let names = c.in-Ok-read_script.ensures.names in
    let few = few-sessions _ c.in-Ok-read_script.script.phases.items c.in-Ok-read_script.ensures.ok in
    (names, subst (λ (ns : List (List ℕ)). length ns ≤ 8) (sym names) few)
