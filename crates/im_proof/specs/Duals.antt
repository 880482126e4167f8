-- What is checked of a dual proof, in this order.
use Rattle.std.specs.Prelude.{ℕ, List, [], ◌∷◌, ◌++◌, map, nat_le, nat_lt, if◌then◌else◌}
use Rattle.im_digest.specs.Digests.{Hash}
use Rattle.im_model.specs.Headers.{alh}
use Rattle.im_model.specs.declared.headers.Header.{Header}
use Rattle.im_mtree.specs.Checks.{Check}
use Rattle.im_proof.specs.HeaderChecks.{header_checks}
use Rattle.im_proof.specs.TreeChecks.{inclusion_checks, consistency_checks, last_checks, bl_checks}
use Rattle.im_proof.specs.ChainChecks.{linear_checks, advance_checks}
use Rattle.im_proof.specs.declared.proofs.DualProof.{DualProof}
use Rattle.im_proof.specs.declared.faults.DualFault.{DualFault}
use Rattle.im_proof.specs.declared.faults.DualFault.TheVariants.{Source, Target, Order, Shrink}

-- checks with their faults named otherwise
abbrev pub as_faults : {F G : Type 0} → (F → G) → List (Check F) → List (Check G)
as_faults name checks = map (λ c. (c.0, name c.1)) checks

-- neither the source's number nor the size of its tree is above the target's
abbrev pub order_checks : Header → Header → List (Check DualFault)
order_checks source target =
    (nat_le source.id target.id, Order source.id target.id)
    ∷ (nat_le source.bl_tx_id target.bl_tx_id, Shrink source.bl_tx_id target.bl_tx_id)
    ∷ []

-- both headers
unfoldable pub both_headers_checks : Header → Header → List (Check DualFault)
both_headers_checks source target =
    as_faults Source (header_checks source) ++ (as_faults Target (header_checks target) ++ order_checks source target)

-- both trees, where the source has this Alh
unfoldable pub tree_checks : Hash → DualProof → List ℕ → List (Check DualFault)
tree_checks hash p source_alh =
    inclusion_checks hash p.source.id p.target.bl_tx_id p.target.bl_root source_alh p.inclusion
    ++ (consistency_checks hash p.source.bl_tx_id p.target.bl_tx_id p.source.bl_root p.target.bl_root p.consistency
    ++ (last_checks hash p.target.bl_tx_id p.target.bl_root p.target_bl_tx_alh p.last_inclusion
    ++ bl_checks p.source.id p.target.bl_tx_id source_alh p.target_bl_tx_alh))

-- the chain and the advance, where source and target have these Alh. Where the source is below the end of
-- the target's tree the chain goes from that end to the target, and the advance from the source's tree to
-- the source; else the chain goes from the source to the target, and the advance to the end of the tree.
unfoldable pub chain_checks : Hash → DualProof → List ℕ → List ℕ → List (Check DualFault)
chain_checks hash p source_alh target_alh =
    if nat_lt p.source.id p.target.bl_tx_id
    then linear_checks hash p.target.bl_tx_id p.target.id p.target_bl_tx_alh target_alh p.linear
    ++ advance_checks hash p.source.bl_tx_id p.source.id p.target.bl_tx_id p.target.bl_root source_alh p.linear_advance.terms p.linear_advance.inclusions
    else linear_checks hash p.source.id p.target.id source_alh target_alh p.linear
    ++ advance_checks hash p.source.bl_tx_id p.target.bl_tx_id p.target.bl_tx_id p.target.bl_root p.target_bl_tx_alh p.linear_advance.terms p.linear_advance.inclusions

-- all of them
abbrev pub dual_checks : Hash → DualProof → List (Check DualFault)
dual_checks hash p =
    both_headers_checks p.source p.target ++ (tree_checks hash p (alh hash p.source) ++ chain_checks hash p (alh hash p.source) (alh hash p.target))
