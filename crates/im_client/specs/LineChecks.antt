-- What is checked of a message under the kept state, in this order.
use Rattle.std.specs.Prelude.{List, [], ◌∷◌, ◌++◌, ◌&&◌, not, nat_eq, nat_lt, bytes_eq, Bool, false, Option, Some, None}
use Rattle.im_digest.specs.Digests.{Hash}
use Rattle.im_model.specs.Entries.{entry_digest}
use Rattle.im_model.specs.Headers.{alh}
use Rattle.im_model.specs.declared.headers.Header.{Header}
use Rattle.im_mtree.specs.Checks.{Check}
use Rattle.im_mtree.specs.PathChecks.{path_checks}
use Rattle.im_proof.specs.HeaderChecks.{header_checks}
use Rattle.im_proof.specs.Duals.{as_faults, dual_checks}
use Rattle.im_proof.specs.declared.proofs.DualProof.{DualProof}
use Rattle.im_wire.specs.declared.messages.Message.{Message}
use Rattle.im_wire.specs.declared.messages.Message.TheVariants as says
use Rattle.im_client.specs.declared.faults.LineFault.{LineFault}
use Rattle.im_client.specs.declared.faults.LineFault.TheVariants.{State, StateId, StateAlh, NoState, SourceId, SourceAlh, TargetId, TargetAlh, Dual, AnchorMissing, AnchorExtra, AnchorSourceId, AnchorTargetId, AnchorSourceAlh, AnchorTargetAlh, Anchor, Path}

-- a state is the kept one, by its number and its Alh, where one is kept
abbrev pub same_state_checks : Hash → Option Header → Header → List (Check LineFault)
same_state_checks hash None header = []
same_state_checks hash (Some kept) header =
    (nat_eq header.id kept.id, StateId kept.id header.id)
    ∷ (bytes_eq (alh hash header) (alh hash kept), StateAlh (alh hash kept) (alh hash header))
    ∷ []

-- a state: its header, and that it is the kept one where one is kept
abbrev pub state_checks : Hash → Option Header → Header → List (Check LineFault)
state_checks hash kept header = as_faults State (header_checks header) ++ same_state_checks hash kept header

-- a dual proof: its target is the kept state, and all its checks
abbrev pub dual_line_checks : Hash → Header → DualProof → List (Check LineFault)
dual_line_checks hash kept p =
    (nat_eq p.target.id kept.id, TargetId kept.id p.target.id)
    ∷ (bytes_eq (alh hash p.target) (alh hash kept), TargetAlh (alh hash kept) (alh hash p.target))
    ∷ as_faults Dual (dual_checks hash p)

-- an advance's anchor is due where the target's tree ends behind the source's and before the source
abbrev pub is_anchored : DualProof → Bool
is_anchored p = nat_lt p.source.bl_tx_id p.target.bl_tx_id && nat_lt p.target.bl_tx_id p.source.id

-- the anchor leads from the end of the target's tree to the source
abbrev pub anchor_ends_checks : Hash → DualProof → DualProof → List (Check LineFault)
anchor_ends_checks hash p anchor =
    (nat_eq anchor.source.id p.target.bl_tx_id, AnchorSourceId p.target.bl_tx_id anchor.source.id)
    ∷ (nat_eq anchor.target.id p.source.id, AnchorTargetId p.source.id anchor.target.id)
    ∷ (bytes_eq (alh hash anchor.source) p.target_bl_tx_alh, AnchorSourceAlh p.target_bl_tx_alh (alh hash anchor.source))
    ∷ (bytes_eq (alh hash anchor.target) (alh hash p.source), AnchorTargetAlh (alh hash p.source) (alh hash anchor.target))
    ∷ []

-- the anchor of an advance: it is there exactly where it is due, and all its checks
abbrev pub anchor_checks : Hash → DualProof → Option DualProof → List (Check LineFault)
anchor_checks hash p None = (not (is_anchored p), AnchorMissing) ∷ []
anchor_checks hash p (Some anchor) =
    (is_anchored p, AnchorExtra) ∷ (anchor_ends_checks hash p anchor ++ as_faults Anchor (dual_checks hash anchor))

-- an advance: its source is the kept state, all checks of its dual proof, and its anchor
abbrev pub advance_line_checks : Hash → Header → DualProof → Option DualProof → List (Check LineFault)
advance_line_checks hash kept p anchor =
    (nat_eq p.source.id kept.id, SourceId kept.id p.source.id)
    ∷ (bytes_eq (alh hash p.source) (alh hash kept), SourceAlh (alh hash kept) (alh hash p.source))
    ∷ (as_faults Dual (dual_checks hash p) ++ anchor_checks hash p anchor)

-- the checks of a message under the kept state; where none is kept every message but a state fails. An item's entry
-- is in the source's transaction, whose header gives the width of the tree.
abbrev pub line_checks : Hash → Option Header → Message → List (Check LineFault)
line_checks hash kept (says.State header) = state_checks hash kept header
line_checks hash None (says.Dual dual) = (false, NoState) ∷ []
line_checks hash (Some kept) (says.Dual dual) = dual_line_checks hash kept dual
line_checks hash None (says.Advance dual anchor) = (false, NoState) ∷ []
line_checks hash (Some kept) (says.Advance dual anchor) = advance_line_checks hash kept dual anchor
line_checks hash None (says.Item dual entry index path) = (false, NoState) ∷ []
line_checks hash (Some kept) (says.Item dual entry index path) =
    dual_line_checks hash kept dual
    ++ as_faults Path (path_checks hash (entry_digest hash entry) index dual.source.nentries path dual.source.eh)
