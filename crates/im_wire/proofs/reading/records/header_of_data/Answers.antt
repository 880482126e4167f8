use Rattle.im_wire.proofs.reading.records.header_of_data.Goals as goal

pub header_from_id-requires : goal.header_from_id-requires
header_from_id-requires c = record {
  bl_root = c.in_ok-bl_root.ensures;
  bl_tx_id = c.in_ok-bl_tx_id.ensures;
  eh = c.in_ok-eh.ensures;
}

pub returns : goal.returns
returns c = c.header_from_id.ensures
