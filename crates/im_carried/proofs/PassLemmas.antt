-- A dual proof that passes its checks shows what these are for.
use Rattle.std.proofs.Common.{◌≡◌, ◌<◌, ◌≤◌, ℕ, List, ◌++◌, Bool, Ok, arith, subst, nat_lt, if◌then◌else◌}
use Rattle.std.proofs.lemmas.Bool.{lt-ltb, le-ltb}
use Rattle.std.proofs.lemmas.List.Elements.{Contains-append_left, Contains-append_right}
use Rattle.im_digest.specs.Digests.{Hash}
use Rattle.im_model.specs.Headers.{alh, header_strings}
use Rattle.im_mtree.specs.Checks.{Check, first_fail}
use Rattle.im_proof.specs.TreeChecks.{inclusion_checks, consistency_checks, last_checks, bl_checks}
use Rattle.im_proof.specs.ChainChecks.{linear_checks, advance_checks}
use Rattle.im_proof.specs.Duals.{both_headers_checks, tree_checks, chain_checks, dual_checks}
use Rattle.im_proof.specs.declared.proofs.DualProof.{DualProof}
use Rattle.im_proof.specs.declared.faults.DualFault.{DualFault}
use Rattle.im_pairs.specs.Pairs.{AreAmong}
use Rattle.im_carried.specs.Shown.{ShowsDual}
use Rattle.im_carried.specs.Hashed.{DualFits, inclusion_strings, grown_strings, last_strings, linear_strings, advance_strings, dual_strings}
use Rattle.im_carried.proofs.HeldLemmas.{both-shown}
use Rattle.im_carried.proofs.ShowLemmas.{inclusion-shown, last-shown, grown-shown, kept-shown, tip-shown, linear-shown, advance-shown}
use Rattle.im_mtree.proofs.CheckLemmas.{each-holds}

-- the strings of each part are among those of the whole
record Parts (hash : Hash) (p : DualProof) (strings : List (List ℕ)) : Type 0 where
  source : AreAmong (header_strings hash p.source) strings
  target : AreAmong (header_strings hash p.target) strings
  inclusion : AreAmong (inclusion_strings hash p.source.id p.target.bl_tx_id (alh hash p.source) p.inclusion) strings
  grown : AreAmong (grown_strings hash p.source.bl_tx_id p.target.bl_tx_id p.consistency) strings
  last : AreAmong (last_strings hash p.target.bl_tx_id p.target_bl_tx_alh p.last_inclusion) strings
  linear : AreAmong (linear_strings hash (if nat_lt p.source.id p.target.bl_tx_id then p.target.bl_tx_id else p.source.id) p.linear) strings
  advance : AreAmong (advance_strings hash p.source.bl_tx_id p.target.bl_tx_id p.linear_advance.terms p.linear_advance.inclusions) strings

-- of two joined lists
pub left-among : (xs ys strings : List (List ℕ)) → AreAmong (xs ++ ys) strings → AreAmong xs strings
left-among xs ys strings a = λ x c. a x (Contains-append_left xs ys x c)

pub right-among : (xs ys strings : List (List ℕ)) → AreAmong (xs ++ ys) strings → AreAmong ys strings
right-among xs ys strings a = λ x c. a x (Contains-append_right xs ys x c)

parts-of : (hash : Hash) (p : DualProof) (strings : List (List ℕ)) → AreAmong (dual_strings hash p) strings → Parts hash p strings
unfolding dual_strings
parts-of hash p strings a =
    let inclusion : List (List ℕ) = inclusion_strings hash p.source.id p.target.bl_tx_id (alh hash p.source) p.inclusion in
    let grown : List (List ℕ) = grown_strings hash p.source.bl_tx_id p.target.bl_tx_id p.consistency in
    let last : List (List ℕ) = last_strings hash p.target.bl_tx_id p.target_bl_tx_alh p.last_inclusion in
    let linear : List (List ℕ) = linear_strings hash (if nat_lt p.source.id p.target.bl_tx_id then p.target.bl_tx_id else p.source.id) p.linear in
    let advance : List (List ℕ) = advance_strings hash p.source.bl_tx_id p.target.bl_tx_id p.linear_advance.terms p.linear_advance.inclusions in
    let headers : List (List ℕ) = header_strings hash p.source ++ header_strings hash p.target in
    let one = right-among headers (inclusion ++ (grown ++ (last ++ (linear ++ advance)))) strings a in
    let two = right-among inclusion (grown ++ (last ++ (linear ++ advance))) strings one in
    let three = right-among grown (last ++ (linear ++ advance)) strings two in
    let four = right-among last (linear ++ advance) strings three in
    let both = left-among headers (inclusion ++ (grown ++ (last ++ (linear ++ advance)))) strings a in
    record {
      source = left-among (header_strings hash p.source) (header_strings hash p.target) strings both;
      target = right-among (header_strings hash p.source) (header_strings hash p.target) strings both;
      inclusion = left-among inclusion (grown ++ (last ++ (linear ++ advance))) strings one;
      grown = left-among grown (last ++ (linear ++ advance)) strings two;
      last = left-among last (linear ++ advance) strings three;
      linear = left-among linear advance strings four;
      advance = right-among linear advance strings four;
    }

-- what is found of the trees
record TreesHold (hash : Hash) (p : DualProof) (source_alh : List ℕ) : Type 0 where
  inclusion : first_fail (inclusion_checks hash p.source.id p.target.bl_tx_id p.target.bl_root source_alh p.inclusion) ≡ Ok tt
  consistency : first_fail (consistency_checks hash p.source.bl_tx_id p.target.bl_tx_id p.source.bl_root p.target.bl_root p.consistency) ≡ Ok tt
  last : first_fail (last_checks hash p.target.bl_tx_id p.target.bl_root p.target_bl_tx_alh p.last_inclusion) ≡ Ok tt
  bl : first_fail (bl_checks p.source.id p.target.bl_tx_id source_alh p.target_bl_tx_alh) ≡ Ok tt

trees-hold : (hash : Hash) (p : DualProof) (source_alh : List ℕ) → first_fail (tree_checks hash p source_alh) ≡ Ok tt → TreesHold hash p source_alh
unfolding tree_checks
trees-hold hash p source_alh e =
    let inclusion : List (Check DualFault) = inclusion_checks hash p.source.id p.target.bl_tx_id p.target.bl_root source_alh p.inclusion in
    let consistency : List (Check DualFault) = consistency_checks hash p.source.bl_tx_id p.target.bl_tx_id p.source.bl_root p.target.bl_root p.consistency in
    let last : List (Check DualFault) = last_checks hash p.target.bl_tx_id p.target.bl_root p.target_bl_tx_alh p.last_inclusion in
    let bl : List (Check DualFault) = bl_checks p.source.id p.target.bl_tx_id source_alh p.target_bl_tx_alh in
    let one = each-holds {F = DualFault} inclusion (consistency ++ (last ++ bl)) e in
    let two = each-holds {F = DualFault} consistency (last ++ bl) one.1 in
    let three = each-holds {F = DualFault} last bl two.1 in
    record { inclusion = one.0; consistency = two.0; last = three.0; bl = three.1 }

-- of the chain and the advance, where the source is below the end of the target's tree
pub far-hold : (hash : Hash) (p : DualProof) (source_alh target_alh : List ℕ) → p.source.id < p.target.bl_tx_id → first_fail (chain_checks hash p source_alh target_alh) ≡ Ok tt
    → (first_fail (linear_checks hash p.target.bl_tx_id p.target.id p.target_bl_tx_alh target_alh p.linear) ≡ Ok tt)
    × (first_fail (advance_checks hash p.source.bl_tx_id p.source.id p.target.bl_tx_id p.target.bl_root source_alh p.linear_advance.terms p.linear_advance.inclusions) ≡ Ok tt)
unfolding chain_checks
far-hold hash p source_alh target_alh h e =
    let far : List (Check DualFault) = linear_checks hash p.target.bl_tx_id p.target.id p.target_bl_tx_alh target_alh p.linear in
    let far2 : List (Check DualFault) = advance_checks hash p.source.bl_tx_id p.source.id p.target.bl_tx_id p.target.bl_root source_alh p.linear_advance.terms p.linear_advance.inclusions in
    let near : List (Check DualFault) = linear_checks hash p.source.id p.target.id source_alh target_alh p.linear in
    let near2 : List (Check DualFault) = advance_checks hash p.source.bl_tx_id p.target.bl_tx_id p.target.bl_tx_id p.target.bl_root p.target_bl_tx_alh p.linear_advance.terms p.linear_advance.inclusions in
    each-holds {F = DualFault} far far2 (subst (λ (t : Bool). first_fail (if t then far ++ far2 else near ++ near2) ≡ Ok tt) (lt-ltb p.source.id p.target.bl_tx_id h) e)

-- and where it isn't
pub near-hold : (hash : Hash) (p : DualProof) (source_alh target_alh : List ℕ) → p.target.bl_tx_id ≤ p.source.id → first_fail (chain_checks hash p source_alh target_alh) ≡ Ok tt
    → (first_fail (linear_checks hash p.source.id p.target.id source_alh target_alh p.linear) ≡ Ok tt)
    × (first_fail (advance_checks hash p.source.bl_tx_id p.target.bl_tx_id p.target.bl_tx_id p.target.bl_root p.target_bl_tx_alh p.linear_advance.terms p.linear_advance.inclusions) ≡ Ok tt)
unfolding chain_checks
near-hold hash p source_alh target_alh h e =
    let far : List (Check DualFault) = linear_checks hash p.target.bl_tx_id p.target.id p.target_bl_tx_alh target_alh p.linear in
    let far2 : List (Check DualFault) = advance_checks hash p.source.bl_tx_id p.source.id p.target.bl_tx_id p.target.bl_root source_alh p.linear_advance.terms p.linear_advance.inclusions in
    let near : List (Check DualFault) = linear_checks hash p.source.id p.target.id source_alh target_alh p.linear in
    let near2 : List (Check DualFault) = advance_checks hash p.source.bl_tx_id p.target.bl_tx_id p.target.bl_tx_id p.target.bl_root p.target_bl_tx_alh p.linear_advance.terms p.linear_advance.inclusions in
    each-holds {F = DualFault} near near2 (subst (λ (t : Bool). first_fail (if t then far ++ far2 else near ++ near2) ≡ Ok tt) (le-ltb p.source.id p.target.bl_tx_id h) e)

-- all of it
pub dual-shown : (hash : Hash) (p : DualProof) (strings : List (List ℕ)) → DualFits p → first_fail (dual_checks hash p) ≡ Ok tt → AreAmong (dual_strings hash p) strings
    → ShowsDual hash p.source p.target p.target_bl_tx_alh strings
dual-shown hash p strings f e a =
    let source_alh : List ℕ = alh hash p.source in
    let target_alh : List ℕ = alh hash p.target in
    let headers = each-holds {F = DualFault} (both_headers_checks p.source p.target) (tree_checks hash p source_alh ++ chain_checks hash p source_alh target_alh) e in
    let rest = each-holds {F = DualFault} (tree_checks hash p source_alh) (chain_checks hash p source_alh target_alh) headers.1 in
    let both = both-shown p.source p.target headers.0 in
    let trees = trees-hold hash p source_alh rest.0 in
    let s = parts-of hash p strings a in
    let below : p.source.bl_tx_id < p.source.id = both.source_tree in
    let ends : p.target.bl_tx_id < p.target.id = both.target_tree in
    record {
      source_fits = f.source;
      target_fits = f.target;
      source_tree = both.source_tree;
      target_tree = both.target_tree;
      order = both.order;
      shrink = both.shrink;
      tip_long = f.tip;
      shown = (s.source, s.target);
      inclusion = λ h. inclusion-shown hash p.source.id p.target.bl_tx_id p.target.bl_root source_alh p.inclusion strings (omega arith) h f.inclusion trees.inclusion s.inclusion;
      kept = λ h same. kept-shown hash p.source.bl_tx_id p.target.bl_tx_id p.source.bl_root p.target.bl_root p.consistency h same trees.consistency;
      grown = λ h less. grown-shown hash p.source.bl_tx_id p.target.bl_tx_id p.source.bl_root p.target.bl_root p.consistency strings h less f.consistency trees.consistency s.grown;
      last = λ h. last-shown hash p.target.bl_tx_id p.target.bl_root p.target_bl_tx_alh p.last_inclusion strings h f.last trees.last s.last;
      at_tip = λ same. tip-shown p.source.id p.target.bl_tx_id source_alh p.target_bl_tx_alh (omega arith) same trees.bl;
      far = λ h. linear-shown hash p.target.bl_tx_id p.target.id p.target_bl_tx_alh target_alh p.linear strings (omega arith) (far-hold hash p source_alh target_alh h rest.1).0
          (subst (λ (t : Bool). AreAmong (linear_strings hash (if t then p.target.bl_tx_id else p.source.id) p.linear) strings) (lt-ltb p.source.id p.target.bl_tx_id h) s.linear);
      far_advance = λ h. advance-shown hash p.source.bl_tx_id p.source.id p.target.bl_tx_id p.target.bl_root source_alh p.linear_advance.terms p.linear_advance.inclusions strings
          (omega arith) f.terms f.paths (far-hold hash p source_alh target_alh h rest.1).1 s.advance;
      near = λ h. linear-shown hash p.source.id p.target.id source_alh target_alh p.linear strings both.order (near-hold hash p source_alh target_alh h rest.1).0
          (subst (λ (t : Bool). AreAmong (linear_strings hash (if t then p.target.bl_tx_id else p.source.id) p.linear) strings) (le-ltb p.source.id p.target.bl_tx_id h) s.linear);
      near_advance = λ h. advance-shown hash p.source.bl_tx_id p.target.bl_tx_id p.target.bl_tx_id p.target.bl_root p.target_bl_tx_alh p.linear_advance.terms p.linear_advance.inclusions strings
          (omega arith) f.terms f.paths (near-hold hash p source_alh target_alh h rest.1).1 s.advance;
    }
