use Rattle.std.proofs.Common.{◌∙◌}
use Rattle.im_wire.specs.Messages.{dual_proof_of}
use Rattle.im_wire.proofs.OptionLemmas.{bind-of, fails-behind}
use Rattle.im_wire.proofs.reading.records.dual_proof_from_source.Goals as goal

pub dual_proof_from_alh-requires : goal.dual_proof_from_alh-requires
dual_proof_from_alh-requires c = record {
  consistency = c.requires.consistency;
  inclusion = c.requires.inclusion;
  last_inclusion = c.requires.last_inclusion;
  linear = c.requires.linear;
  linear_advance = c.requires.linear_advance;
  source = c.in-Ok.ensures;
  target = c.in-Ok-header_field.ensures;
}

pub returns-in-Ok-header_field : goal.returns-in-Ok-header_field
returns-in-Ok-header_field c = c.dual_proof_from_alh.ensures

pub returns-in-Err : goal.returns-in-Err
unfolding dual_proof_of
returns-in-Err c =
    fails-behind c.in-Err.error _ _ _
    (bind-of _ _ _ c.requires.consistency ∙ bind-of _ _ _ c.requires.inclusion ∙ bind-of _ _ _ c.requires.last_inclusion ∙ bind-of _ _ _ c.requires.linear ∙ bind-of _ _ _ c.requires.linear_advance)
    c.in-Err.ensures

pub returns-in-Err-header_field : goal.returns-in-Err-header_field
unfolding dual_proof_of
returns-in-Err-header_field c =
    fails-behind c.in-Err-header_field.error _ _ _
    (bind-of _ _ _ c.requires.consistency ∙ bind-of _ _ _ c.requires.inclusion ∙ bind-of _ _ _ c.requires.last_inclusion ∙ bind-of _ _ _ c.requires.linear ∙ bind-of _ _ _ c.requires.linear_advance ∙ bind-of _ _ _ c.in-Ok.ensures)
    c.in-Err-header_field.ensures
