use Rattle.std.proofs.Common.{List, length, ◌++◌}
use Rattle.im_draft.specs.declared.drafts.Draft.{Draft}
use Rattle.im_script.specs.Script.{AreFields}
use Rattle.im_script.proofs.sets.read_fields.Given as goal

abbrev pub invariant-loop-fields : goal.invariant-loop-fields
invariant-loop-fields l = record {
  read : (tail : List Draft) → AreFields l.rest tail → AreFields l.text (l.drafts.items ++ tail);
  refuse : ((tail : List Draft) → AreFields l.rest tail → ⊥) → (all : List Draft) → AreFields l.text all → ⊥;
}

abbrev pub decreases-loop-fields : goal.decreases-loop-fields
decreases-loop-fields l = length l.rest
