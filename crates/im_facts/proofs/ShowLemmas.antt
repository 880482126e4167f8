-- A message that passes its line checks under a state shows what these are for.
use Rattle.std.proofs.Common.{◌≡◌, ◌<◌, ◌&&◌, ℕ, List, ◌++◌, Bool, true, false, not, nat_lt, reverse, Option, Some, None, Ok, sym, ap, ◌∙◌}
use Rattle.std.proofs.lemmas.Bool.{eqb-true, lt-ltb}
use Rattle.std.proofs.lemmas.Slice.Eq.{bytes_eq-Decides}
use Rattle.im_digest.specs.Digests.{Hash}
use Rattle.im_model.specs.Entries.{entry_digest, entry_strings}
use Rattle.im_model.specs.Headers.{alh}
use Rattle.im_model.specs.Paths.{up_strings}
use Rattle.im_model.specs.declared.entries.Entry.{Entry}
use Rattle.im_model.specs.declared.headers.Header.{Header}
use Rattle.im_mtree.specs.Checks.{first_fail}
use Rattle.im_mtree.specs.PathChecks.{path_checks}
use Rattle.im_mtree.proofs.CheckLemmas.{all-hold, each-holds, none-fails}
use Rattle.im_proof.specs.Duals.{as_faults, dual_checks}
use Rattle.im_proof.specs.HeaderChecks.{header_checks}
use Rattle.im_proof.specs.declared.proofs.DualProof.{DualProof}
use Rattle.im_pairs.specs.Pairs.{AreAmong}
use Rattle.im_pairs.specs.Leads.{Leads}
use Rattle.im_carried.specs.Hashed.{dual_strings}
use Rattle.im_carried.specs.Shown.{ShowsDual, ShowsAnchor, ShowsAdvance}
use Rattle.im_carried.proofs.HeldLemmas.{tree-below}
use Rattle.im_carried.proofs.PassLemmas.{dual-shown, left-among, right-among}
use Rattle.im_carried.proofs.ShowLemmas.{path-leads}
use Rattle.im_hashed.specs.Messages.{anchor_strings, item_strings}
use Rattle.im_hashed.proofs.FitsLemmas.{dual-fits, digests-fit}
use Rattle.im_wire.specs.Fits.{IsDualProof, IsAnchor, AreDigestOctets}
use Rattle.im_client.specs.LineChecks.{state_checks, same_state_checks, dual_line_checks, advance_line_checks, anchor_checks, anchor_ends_checks, is_anchored}
use Rattle.im_client.specs.declared.faults.LineFault.TheVariants.{State, Dual, Anchor, Path}
use Rattle.im_facts.proofs.ShownLemmas.{held-named}

-- two headers have one number and one Alh
pub record OneAlh (hash : Hash) (header state : Header) : Type 0 where
  pub id : header.id ≡ state.id
  pub alh : alh hash header ≡ alh hash state

-- a state's own tree is below it
pub state-tree : (hash : Hash) (kept : Option Header) (header : Header) → first_fail (state_checks hash kept header) ≡ Ok tt → header.bl_tx_id < header.id
state-tree hash kept header h = tree-below State header (each-holds (as_faults State (header_checks header)) (same_state_checks hash kept header) h).0

-- a state is the kept one
pub state-meets : (hash : Hash) (state header : Header) → first_fail (state_checks hash (Some state) header) ≡ Ok tt → OneAlh hash header state
state-meets hash state header h =
    let each = all-hold (same_state_checks hash (Some state) header) (each-holds (as_faults State (header_checks header)) (same_state_checks hash (Some state) header) h).1 in
    record { id = eqb-true header.id state.id each.0; alh = (bytes_eq-Decides (alh hash header) (alh hash state)).0 each.1.0 }

-- a dual proof's target is the kept state
pub dual-meets : (hash : Hash) (state : Header) (p : DualProof) → first_fail (dual_line_checks hash state p) ≡ Ok tt → OneAlh hash p.target state
dual-meets hash state p h =
    let each = all-hold (dual_line_checks hash state p) h in
    record { id = eqb-true p.target.id state.id each.0; alh = (bytes_eq-Decides (alh hash p.target) (alh hash state)).0 each.1.0 }

-- its checks hold
pub dual-checks : (hash : Hash) (state : Header) (p : DualProof) → first_fail (dual_line_checks hash state p) ≡ Ok tt → first_fail (dual_checks hash p) ≡ Ok tt
dual-checks hash state p h =
    let each = all-hold (dual_line_checks hash state p) h in
    held-named Dual (dual_checks hash p) (none-fails (as_faults Dual (dual_checks hash p)) each.1.1)

-- it shows what they are for
pub dual-line-shown : (hash : Hash) (state : Header) (p : DualProof) (strings : List (List ℕ)) → IsDualProof p → first_fail (dual_line_checks hash state p) ≡ Ok tt → AreAmong (dual_strings hash p) strings
    → ShowsDual hash p.source p.target p.target_bl_tx_alh strings
dual-line-shown hash state p strings fits h among = dual-shown hash p strings (dual-fits p fits) (dual-checks hash state p h) among

-- the checks of an item
pub record ItemHeld (hash : Hash) (state : Header) (p : DualProof) (entry : Entry) (index : ℕ) (path : List (List ℕ)) : Type 0 where
  pub dual : first_fail (dual_line_checks hash state p) ≡ Ok tt
  pub leads : first_fail (path_checks hash (entry_digest hash entry) index p.source.nentries path p.source.eh) ≡ Ok tt

pub item-held : (hash : Hash) (state : Header) (p : DualProof) (entry : Entry) (index : ℕ) (path : List (List ℕ))
    → first_fail (dual_line_checks hash state p ++ as_faults Path (path_checks hash (entry_digest hash entry) index p.source.nentries path p.source.eh)) ≡ Ok tt
    → ItemHeld hash state p entry index path
item-held hash state p entry index path h =
    let paths = path_checks hash (entry_digest hash entry) index p.source.nentries path p.source.eh in
    let both = each-holds (dual_line_checks hash state p) (as_faults Path paths) h in
    record { dual = both.0; leads = held-named Path paths both.1 }

-- its path leads from the entry to the source's root of entries
pub item-leads : (hash : Hash) (state : Header) (p : DualProof) (entry : Entry) (index : ℕ) (path strings : List (List ℕ)) → AreDigestOctets path → ItemHeld hash state p entry index path
    → AreAmong (item_strings hash entry index p.source.nentries path) strings → Leads hash p.source.nentries index (entry_digest hash entry) (reverse path) p.source.eh strings
item-leads hash state p entry index path strings fits h among =
    path-leads hash p.source.nentries index p.source.eh (entry_digest hash entry) path strings (digests-fit path fits) h.leads
    (right-among (entry_strings hash entry) (up_strings hash p.source.nentries index (entry_digest hash entry) (reverse path)) strings among)

-- what an anchor shows, if there is one
abbrev pub AnchorShown : Hash → DualProof → Option DualProof → List (List ℕ) → Type 0
AnchorShown hash p None strings = Unit {0}
AnchorShown hash p (Some anchor) strings = ShowsAnchor hash p.source p.target p.target_bl_tx_alh anchor.source anchor.target strings

-- what an advance shows
pub record AdvanceShown (hash : Hash) (state : Header) (p : DualProof) (anchor : Option DualProof) (strings : List (List ℕ)) : Type 0 where
  pub meets : OneAlh hash p.source state
  pub advance : ShowsAdvance hash p.source p.target strings
  pub dual : ShowsDual hash p.source p.target p.target_bl_tx_alh strings
  pub ends : AnchorShown hash p anchor strings

-- the checks of an advance
pub record AdvanceHeld (hash : Hash) (state : Header) (p : DualProof) (anchor : Option DualProof) : Type 0 where
  pub meets : OneAlh hash p.source state
  pub dual : first_fail (dual_checks hash p) ≡ Ok tt
  pub ends : first_fail (anchor_checks hash p anchor) ≡ Ok tt

pub advance-held : (hash : Hash) (state : Header) (p : DualProof) (anchor : Option DualProof) → first_fail (advance_line_checks hash state p anchor) ≡ Ok tt → AdvanceHeld hash state p anchor
advance-held hash state p anchor h =
    let each = all-hold (advance_line_checks hash state p anchor) h in
    let both = each-holds (as_faults Dual (dual_checks hash p)) (anchor_checks hash p anchor) (none-fails (as_faults Dual (dual_checks hash p) ++ anchor_checks hash p anchor) each.1.1) in
    record {
      meets = record { id = eqb-true p.source.id state.id each.0; alh = (bytes_eq-Decides (alh hash p.source) (alh hash state)).0 each.1.0 };
      dual = held-named Dual (dual_checks hash p) both.0;
      ends = both.1;
    }

-- an anchor that passes its checks
anchor-shown : (hash : Hash) (p anchor : DualProof) (strings : List (List ℕ)) → IsDualProof anchor → first_fail (anchor_checks hash p (Some anchor)) ≡ Ok tt → AreAmong (dual_strings hash anchor) strings
    → ShowsAnchor hash p.source p.target p.target_bl_tx_alh anchor.source anchor.target strings
anchor-shown hash p anchor strings fits h among =
    let each = all-hold (anchor_checks hash p (Some anchor)) h in
    let both = each-holds (anchor_ends_checks hash p anchor) (as_faults Anchor (dual_checks hash anchor)) (none-fails (anchor_ends_checks hash p anchor ++ as_faults Anchor (dual_checks hash anchor)) each.1) in
    let ends = all-hold (anchor_ends_checks hash p anchor) both.0 in
    record {
      from_tip = anchor.target_bl_tx_alh;
      dual = dual-shown hash anchor strings (dual-fits anchor fits) (held-named Anchor (dual_checks hash anchor) both.1) among;
      from_id = eqb-true anchor.source.id p.target.bl_tx_id ends.0;
      to_id = eqb-true anchor.target.id p.source.id ends.1.0;
      from_alh = (bytes_eq-Decides (alh hash anchor.source) p.target_bl_tx_alh).0 ends.1.1.0;
      to_alh = (bytes_eq-Decides (alh hash anchor.target) (alh hash p.source)).0 ends.1.1.1.0;
    }

-- one that is due is there
anchor-due : (hash : Hash) (p : DualProof) (anchor : Option DualProof) (strings : List (List ℕ)) → first_fail (anchor_checks hash p anchor) ≡ Ok tt → AnchorShown hash p anchor strings
    → p.source.bl_tx_id < p.target.bl_tx_id → p.target.bl_tx_id < p.source.id
    → (from : Header) × (to : Header) × ShowsAnchor hash p.source p.target p.target_bl_tx_alh from to strings
anchor-due hash p None strings h shown grows before =
    let each = all-hold (anchor_checks hash p None) h in
    let due : is_anchored p ≡ true = ap (λ (b : Bool). b && nat_lt p.target.bl_tx_id p.source.id) (lt-ltb p.source.bl_tx_id p.target.bl_tx_id grows) ∙ lt-ltb p.target.bl_tx_id p.source.id before in
    absurd (let odd : false ≡ true = ap not (sym due) ∙ each.0 in cc)
anchor-due hash p (Some anchor) strings h shown grows before = (anchor.source, anchor.target, shown)

any-anchor : (hash : Hash) (p : DualProof) (anchor : Option DualProof) (strings : List (List ℕ)) → IsAnchor anchor → first_fail (anchor_checks hash p anchor) ≡ Ok tt → AreAmong (anchor_strings hash anchor) strings
    → AnchorShown hash p anchor strings
any-anchor hash p None strings fits h among = tt
any-anchor hash p (Some anchor) strings fits h among = anchor-shown hash p anchor strings fits h among

-- an advance that passes its checks
pub advance-shown : (hash : Hash) (state : Header) (p : DualProof) (anchor : Option DualProof) (strings : List (List ℕ)) → IsDualProof p → IsAnchor anchor
    → first_fail (advance_line_checks hash state p anchor) ≡ Ok tt → AreAmong (dual_strings hash p ++ anchor_strings hash anchor) strings → AdvanceShown hash state p anchor strings
advance-shown hash state p anchor strings fits fits2 h among =
    let held = advance-held hash state p anchor h in
    let shows = dual-shown hash p strings (dual-fits p fits) held.dual (left-among (dual_strings hash p) (anchor_strings hash anchor) strings among) in
    let ends = any-anchor hash p anchor strings fits2 held.ends (right-among (dual_strings hash p) (anchor_strings hash anchor) strings among) in
    record {
      meets = held.meets;
      advance = record { tip = p.target_bl_tx_alh; dual = shows; anchor = anchor-due hash p anchor strings held.ends ends };
      dual = shows;
      ends = ends;
    }
