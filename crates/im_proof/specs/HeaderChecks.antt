-- What is checked of a header, in this order.
use Rattle.std.specs.Prelude.{◌&&◌, List, [], ◌∷◌, nat_eq, nat_le, nat_lt, if◌then◌else◌}
use Rattle.im_model.specs.declared.headers.Header.{Header}
use Rattle.im_mtree.specs.Checks.{Check}
use Rattle.im_proof.specs.declared.faults.HeaderFault.{HeaderFault}
use Rattle.im_proof.specs.declared.faults.HeaderFault.TheVariants.{Version, Entries, Tree}

-- version 1, 1 to 1024 entries, and a tree of earlier transactions alone
abbrev pub header_checks : Header → List (Check HeaderFault)
header_checks header =
    (nat_eq header.version 1, Version header.version)
    ∷ (nat_le 1 header.nentries && nat_le header.nentries 1024, Entries (if nat_eq header.nentries 0 then 1 else 1024) header.nentries)
    ∷ (nat_lt header.bl_tx_id header.id, Tree header.id header.bl_tx_id)
    ∷ []
