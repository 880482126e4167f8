use Rattle.std.proofs.Common.{◌∙◌}
use Rattle.im_wire.specs.Messages.{dual_proof_of}
use Rattle.im_wire.proofs.OptionLemmas.{bind-of, fails-behind}
use Rattle.im_wire.proofs.reading.records.dual_proof_from_linear.Goals as goal

pub dual_proof_from_source-requires : goal.dual_proof_from_source-requires
dual_proof_from_source-requires c = record {
  consistency = c.requires.consistency;
  inclusion = c.requires.inclusion;
  last_inclusion = c.requires.last_inclusion;
  linear = c.in-Ok.ensures;
  linear_advance = c.in-Ok-advance_proof_field.ensures;
}

pub returns-in-Ok-advance_proof_field : goal.returns-in-Ok-advance_proof_field
returns-in-Ok-advance_proof_field c = c.dual_proof_from_source.ensures

pub returns-in-Err : goal.returns-in-Err
unfolding dual_proof_of
returns-in-Err c =
    fails-behind c.in-Err.error _ _ _
    (bind-of _ _ _ c.requires.consistency ∙ bind-of _ _ _ c.requires.inclusion ∙ bind-of _ _ _ c.requires.last_inclusion)
    c.in-Err.ensures

pub returns-in-Err-advance_proof_field : goal.returns-in-Err-advance_proof_field
unfolding dual_proof_of
returns-in-Err-advance_proof_field c =
    fails-behind c.in-Err-advance_proof_field.error _ _ _
    (bind-of _ _ _ c.requires.consistency ∙ bind-of _ _ _ c.requires.inclusion ∙ bind-of _ _ _ c.requires.last_inclusion ∙ bind-of _ _ _ c.in-Ok.ensures)
    c.in-Err-advance_proof_field.ensures
