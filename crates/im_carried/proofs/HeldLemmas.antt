-- Where no check fails, each of them holds.
use Rattle.std.proofs.Common.{◌≡◌, ◌<◌, ◌≤◌, ◌&&◌, List, [], ◌∷◌, ◌++◌, true, Ok, nat_lt, nat_le, if◌then◌else◌}
use Rattle.std.specs.Prelude.{nat_eq}
use Rattle.std.proofs.lemmas.Bool.{ltb-true, leb-true}
use Rattle.im_model.specs.declared.headers.Header.{Header}
use Rattle.im_mtree.specs.Checks.{Check, first_fail}
use Rattle.im_proof.specs.HeaderChecks.{header_checks}
use Rattle.im_proof.specs.Duals.{as_faults, order_checks, both_headers_checks}
use Rattle.im_proof.specs.declared.faults.HeaderFault.{HeaderFault}
use Rattle.im_proof.specs.declared.faults.HeaderFault.TheVariants.{Version, Entries, Tree}
use Rattle.im_proof.specs.declared.faults.DualFault.{DualFault}
use Rattle.im_proof.specs.declared.faults.DualFault.TheVariants.{Source, Target, Order, Shrink}
use Rattle.im_mtree.proofs.CheckLemmas.{hold-step, each-holds}

-- the first holds, and so do the others
pub first-holds : {F : Type 0} → (check : Check F) (checks : List (Check F)) → first_fail (check ∷ checks) ≡ Ok tt → ((check.0) ≡ true) × (first_fail checks ≡ Ok tt)
first-holds check checks e = hold-step (check.0) (check.1) (first_fail checks) e

-- a header's tree is below its number
pub tree-below : {G : Type 0} → (name : HeaderFault → G) (h : Header) → first_fail (as_faults name (header_checks h)) ≡ Ok tt → h.bl_tx_id < h.id
tree-below {G} name h e =
    let entries : Check G = (nat_le 1 h.nentries && nat_le h.nentries 1024, name (Entries (if nat_eq h.nentries 0 then 1 else 1024) h.nentries)) in
    let tree : Check G = (nat_lt h.bl_tx_id h.id, name (Tree h.id h.bl_tx_id)) in
    let one = first-holds {F = G} (nat_eq h.version 1, name (Version h.version)) (entries ∷ tree ∷ []) e in
    let two = first-holds {F = G} entries (tree ∷ []) one.1 in
    ltb-true h.bl_tx_id h.id (first-holds {F = G} tree [] two.1).0

-- what the checks of both headers tell
pub record BothShown (source target : Header) : Type 0 where
  pub source_tree : source.bl_tx_id < source.id
  pub target_tree : target.bl_tx_id < target.id
  pub order : source.id ≤ target.id
  pub shrink : source.bl_tx_id ≤ target.bl_tx_id

pub both-shown : (source target : Header) → first_fail (both_headers_checks source target) ≡ Ok tt → BothShown source target
unfolding both_headers_checks
both-shown source target e =
    let one = each-holds {F = DualFault} (as_faults Source (header_checks source)) (as_faults Target (header_checks target) ++ order_checks source target) e in
    let two = each-holds {F = DualFault} (as_faults Target (header_checks target)) (order_checks source target) one.1 in
    let order : Check DualFault = (nat_le source.id target.id, Order source.id target.id) in
    let shrink : Check DualFault = (nat_le source.bl_tx_id target.bl_tx_id, Shrink source.bl_tx_id target.bl_tx_id) in
    let three = first-holds {F = DualFault} order (shrink ∷ []) two.1 in
    record {
      source_tree = tree-below Source source one.0;
      target_tree = tree-below Target target two.0;
      order = leb-true source.id target.id three.0;
      shrink = leb-true source.bl_tx_id target.bl_tx_id (first-holds {F = DualFault} shrink [] three.1).0;
    }
