-- One opening of a number under a state, and what proofs open.
use Rattle.std.proofs.Common.{◌≡◌, ◌⊎◌, ◌<◌, ◌≤◌, ℕ, ◌-◌, List, refl, arith, subst, sym, inl, inr}
use Rattle.std.proofs.lemmas.Bool.{cases_lt}
use Rattle.im_digest.specs.Digests.{Hash, GivesDigests}
use Rattle.im_model.specs.Headers.{alh}
use Rattle.im_model.specs.declared.headers.Header.{Header}
use Rattle.im_pairs.specs.Pairs.{HasPair, AreAmong}
use Rattle.im_pairs.proofs.UpLemmas.{same_lead, Leads-more}
use Rattle.im_carried.specs.Opened.{Links, Lies, IsOpened}
use Rattle.im_carried.specs.Shown.{ShowsDual, ShowsAnchor}
use Rattle.im_carried.proofs.ChainLemmas.{Links-joined, Links-empty, same_source}
use Rattle.im_carried.proofs.AdvanceLemmas.{anchor-to-source, Lies-same}

-- two openings of one number under one state have one Alh, or there is a pair
pub same_opened : (hash : Hash) → GivesDigests hash → (state : Header) (t : ℕ) (a c : List ℕ) (strings : List (List ℕ))
    → IsOpened hash state t a strings → IsOpened hash state t c strings → (a ≡ c) ⊎ HasPair hash strings
same_opened hash size state t a c strings o p = elim (cases_lt state.bl_tx_id t) [
  | inl above ↦ same_source hash size a c (alh hash state) t state.id strings o.digest p.digest (o.by_chain (omega arith)) (p.by_chain (omega arith))
  | inr within ↦ (
      let l = o.by_tree within in
      let r = p.by_tree within in
      elim (same_lead hash size state.bl_tx_id (t - 1) a c l.path r.path state.bl_root strings l.leads r.leads) [
        | inl same ↦ inl same.0
        | inr pair ↦ inr pair
      ])
]

-- a state is opened under itself
pub state_opens : (hash : Hash) → GivesDigests hash → (state : Header) (strings : List (List ℕ)) → state.bl_tx_id < state.id → IsOpened hash state state.id (alh hash state) strings
state_opens hash size state strings below = record {
  given = omega arith;
  placed = omega arith;
  digest = size _;
  by_tree = λ h. absurd (omega arith);
  by_chain = λ h. Links-empty hash (alh hash state) (alh hash state) state.id strings refl;
}

-- a dual proof opens its source under its target
pub source_opens : (hash : Hash) → GivesDigests hash → (source target : Header) (tip : List ℕ) (strings : List (List ℕ)) → ShowsDual hash source target tip strings
    → IsOpened hash target source.id (alh hash source) strings
source_opens hash size source target tip strings ok =
    let below : source.bl_tx_id < source.id = ok.source_tree in
    record {
      given = omega arith;
      placed = ok.order;
      digest = size _;
      by_tree = λ h. elim (cases_lt source.id target.bl_tx_id) [
        | inl less ↦ ok.inclusion less
        | inr not ↦ (
            let same : target.bl_tx_id ≡ source.id = omega arith in
            let start : tip ≡ alh hash source = ok.at_tip (sym same) in
            subst (λ k. Lies hash target.bl_tx_id target.bl_root k (alh hash source) strings) same
            (Lies-same hash target.bl_tx_id target.bl_root target.bl_tx_id (alh hash source) tip strings (sym start) (ok.last (omega arith))))
      ];
      by_chain = λ h. ok.near h;
    }

-- an advance opens its anchor's source too, or there is a pair
pub anchor_opens : (hash : Hash) (source target : Header) (tip : List ℕ) (from to : Header) (strings : List (List ℕ)) → ShowsDual hash source target tip strings
    → ShowsAnchor hash source target tip from to strings → IsOpened hash target from.id (alh hash from) strings ⊎ HasPair hash strings
anchor_opens hash source target tip from to strings ok an =
    let some : from.bl_tx_id < from.id = an.dual.source_tree in
    let at : from.id ≡ target.bl_tx_id = an.from_id in
    let ends : to.id ≡ source.id = an.to_id in
    let before : from.id ≤ to.id = an.dual.order in
    let below : target.bl_tx_id < target.id = ok.target_tree in
    elim (anchor-to-source hash source target tip from to strings ok an) [
      | inl back ↦ (
          let opened : IsOpened hash target target.bl_tx_id tip strings = record {
            given = omega arith;
            placed = omega arith;
            digest = ok.tip_long;
            by_tree = λ h. ok.last (omega arith);
            by_chain = λ h. Links-joined hash tip (alh hash source) (alh hash target) target.bl_tx_id source.id target.id strings back (ok.near (omega arith));
          } in
          inl (subst (λ k. IsOpened hash target k (alh hash from) strings) (sym an.from_id) (subst (λ (d : List ℕ). IsOpened hash target target.bl_tx_id d strings) (sym an.from_alh) opened)))
      | inr pair ↦ inr pair
    ]

-- and its anchor's target, which is its source by number and Alh
pub anchor-target_opens : (hash : Hash) → GivesDigests hash → (source target : Header) (tip : List ℕ) (from to : Header) (strings : List (List ℕ)) → ShowsDual hash source target tip strings
    → ShowsAnchor hash source target tip from to strings → IsOpened hash target to.id (alh hash to) strings
anchor-target_opens hash size source target tip from to strings ok an =
    subst (λ k. IsOpened hash target k (alh hash to) strings) (sym an.to_id)
    (subst (λ (d : List ℕ). IsOpened hash target source.id d strings) (sym an.to_alh) (source_opens hash size source target tip strings ok))

-- more strings keep a chain
Links-more : (hash : Hash) (a : List ℕ) (t n : ℕ) (end : List ℕ) (ss ts : List (List ℕ)) → AreAmong ss ts → Links hash a t n end ss → Links hash a t n end ts
Links-more hash a t n end ss ts more l = record { inners = l.inners; long = l.long; ends = l.ends; among = λ x c. more x (l.among x c) }

-- a place in a tree
Lies-more : (hash : Hash) (size : ℕ) (root : List ℕ) (t : ℕ) (a : List ℕ) (ss ts : List (List ℕ)) → AreAmong ss ts → Lies hash size root t a ss → Lies hash size root t a ts
Lies-more hash size root t a ss ts more l = record { path = l.path; leads = Leads-more hash size (t - 1) a l.path root ss ts more l.leads }

-- and an opening
pub IsOpened-more : (hash : Hash) (state : Header) (t : ℕ) (a : List ℕ) (ss ts : List (List ℕ)) → AreAmong ss ts → IsOpened hash state t a ss → IsOpened hash state t a ts
IsOpened-more hash state t a ss ts more o = record {
  given = o.given;
  placed = o.placed;
  digest = o.digest;
  by_tree = λ h. Lies-more hash state.bl_tx_id state.bl_root t a ss ts more (o.by_tree h);
  by_chain = λ h. Links-more hash a t state.id (alh hash state) ss ts more (o.by_chain h);
}
