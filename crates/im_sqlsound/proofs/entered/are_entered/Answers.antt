use Rattle.std.proofs.Common.{◌++◌, ap, map, ◌∙◌}
use Rattle.im_sqlmodel.specs.Sorts.{sorted}
use Rattle.im_sqlsound.specs.Sounding.{said_by}
use Rattle.im_sqlsound.proofs.AmongLemmas.{by_key}
use Rattle.im_sqlsound.proofs.HangLemmas.{iff-same}
use Rattle.im_sqlsound.proofs.entered.are_entered.Goals as goal

pub returns : goal.returns
returns c =
    iff-same c.are_both_said-same.result _ _ _ _ (λ i. map said_by (c.under-plain.ensures i ++ c.under-unique.ensures i))
    (c.as_slice.ensures.value ∙ c.in_ok-sort_by_key.ensures ∙ ap (sorted by_key) c.in_ok-entries.ensures) c.are_both_said-same.ensures
