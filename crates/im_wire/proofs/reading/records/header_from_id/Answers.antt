use Rattle.im_wire.proofs.reading.records.header_from_id.Goals as goal

pub header_from_prev_alh-requires : goal.header_from_prev_alh-requires
header_from_prev_alh-requires c = record {
  bl_root = c.requires.bl_root;
  bl_tx_id = c.requires.bl_tx_id;
  eh = c.requires.eh;
  id = c.in_ok-id.ensures;
  md = c.in_ok-md.ensures;
  nentries = c.in_ok-nentries.ensures;
}

pub returns : goal.returns
returns c = c.header_from_prev_alh.ensures
