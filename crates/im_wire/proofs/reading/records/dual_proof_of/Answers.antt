use Rattle.im_wire.proofs.reading.records.dual_proof_of.Goals as goal

pub dual_proof_from_linear-requires : goal.dual_proof_from_linear-requires
dual_proof_from_linear-requires c = record {
  consistency = c.in_ok-consistency.ensures;
  inclusion = c.in_ok-inclusion.ensures;
  last_inclusion = c.in_ok-last_inclusion.ensures;
}

pub returns : goal.returns
returns c = c.dual_proof_from_linear.ensures
