use Rattle.std.proofs.Common.{ap, map, ◌∙◌}
use Rattle.im_sqlmodel.specs.Sorts.{sorted}
use Rattle.im_sqlsound.specs.Sounding.{said_by}
use Rattle.im_sqlsound.proofs.AmongLemmas.{by_key}
use Rattle.im_sqlsound.proofs.HangLemmas.{iff-same}
use Rattle.im_sqlsound.proofs.stepping.are_own_entries.Goals as goal

pub returns : goal.returns
returns g c = λ history stands few.
    iff-same c.are_said-same.result _ _ _ _ (ap (map said_by) (c.as_slice.ensures.value ∙ c.in_ok-live.ensures history stands few))
    (c.as_slice-2.ensures.value ∙ c.in_ok-sort_by_key.ensures ∙ ap (sorted by_key) c.in_ok-given.ensures) c.are_said-same.ensures
