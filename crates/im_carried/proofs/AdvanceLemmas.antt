-- What is opened under the source of an advance is opened under its target.
use Rattle.std.proofs.Common.{◌≡◌, ◌⊎◌, ◌<◌, ◌≤◌, length, ℕ, ◌+◌, ◌-◌, List, [], ◌∷◌, arith, ap, subst, ◌∙◌, sym, inl, inr}
use Rattle.std.proofs.lemmas.Bool.{cases_lt}
use Rattle.im_digest.specs.Digests.{Hash, GivesDigests}
use Rattle.im_model.specs.Chains.{chain, chain_strings}
use Rattle.im_model.specs.Headers.{alh}
use Rattle.im_model.specs.declared.headers.Header.{Header}
use Rattle.im_pairs.specs.Pairs.{HasPair, AreAmong}
use Rattle.im_pairs.specs.Leads.{Leads}
use Rattle.im_pairs.proofs.PairLemmas.{AreAmong-tail}
use Rattle.im_pairs.proofs.HeaderLemmas.{same_header}
use Rattle.im_pathmove.proofs.CarryLemmas.{carry}
use Rattle.im_carried.specs.Opened.{Links, Lies, IsOpened}
use Rattle.im_carried.specs.Shown.{Walks, Advances, ShowsDual, ShowsAnchor, ShowsAdvance}
use Rattle.im_carried.proofs.ChainLemmas.{link, Links-joined, Links-nothing, Links-empty, same_source}

-- a value on the way of an advance, with the chain from it to the end
pub record OnWay (hash : Hash) (n : ℕ) (root : List ℕ) (t : ℕ) (e : ℕ) (end : List ℕ) (strings : List (List ℕ)) : Type 0 where
  pub value : List ℕ
  pub digest : length value ≡ 32
  pub lies : Lies hash n root t value strings
  pub links : Links hash value t e end strings

-- the chain of a walk ends where the walk does
walk-ends : (hash : Hash) (n : ℕ) (root c : List ℕ) (k : ℕ) (xs : List (List ℕ)) (end : List ℕ) (strings : List (List ℕ)) → Walks hash n root c k xs end strings → chain hash c k xs ≡ end
walk-ends hash n root c k [] end strings w = w
walk-ends hash n root c k (x ∷ xs) end strings w = walk-ends hash n root (hash (link c k x)) (k + 1) xs end strings w.1

-- each number on the way has such a value
pub on-way : (hash : Hash) → GivesDigests hash → (n : ℕ) (root c : List ℕ) (k : ℕ) (xs : List (List ℕ)) (e : ℕ) (end : List ℕ) (strings : List (List ℕ)) (t : ℕ)
    → length c ≡ 32 → k + length xs ≡ e → Walks hash n root c k xs end strings → AreAmong (chain_strings hash c k xs) strings → k ≤ t → t < e → OnWay hash n root t e end strings
unfolding chain_strings
on-way hash size n root c k [] e end strings t lc l w a p q = absurd (omega arith)
on-way hash size n root c k (x ∷ xs) e end strings t lc l w a p q =
    elim (cases_lt k t) [
      | inl further ↦ on-way hash size n root (hash (link c k x)) (k + 1) xs e end strings t (size _) (omega arith) w.1 (AreAmong-tail (link c k x) (chain_strings hash (hash (link c k x)) (k + 1) xs) strings a) (omega arith) q
      | inr reached ↦ (
          let same : k ≡ t = omega arith in
          subst (λ j. OnWay hash n root j e end strings) same
          (record { value = c; digest = lc; lies = w.0; links = record { inners = x ∷ xs; long = l; ends = walk-ends hash n root c k (x ∷ xs) end strings w; among = a } }))
    ]

-- so of an advance
pub on-advance : (hash : Hash) → GivesDigests hash → (n : ℕ) (root : List ℕ) (a e : ℕ) (end : List ℕ) (strings : List (List ℕ)) (t : ℕ)
    → Advances hash n root a e end strings → a < t → t < e → OnWay hash n root t e end strings
on-advance hash size n root a e end strings t v p q = elim v [
  | inl none ↦ absurd (omega arith)
  | inr some ↦ on-way hash size n root some.1 (a + 1) some.2 e end strings t some.3 some.4 some.5 some.6 (omega arith) q
]

-- a leaf of another digest that was found to be the same
pub Lies-same : (hash : Hash) (n : ℕ) (root : List ℕ) (t : ℕ) (a c : List ℕ) (strings : List (List ℕ)) → a ≡ c → Lies hash n root t c strings → Lies hash n root t a strings
Lies-same hash n root t a c strings e l = subst (λ (d : List ℕ). Lies hash n root t d strings) (sym e) l

-- tree to tree
tree-to-tree : (hash : Hash) → GivesDigests hash → (source target : Header) (strings : List (List ℕ)) (ok : ShowsAdvance hash source target strings) (t : ℕ) (a : List ℕ)
    → 1 ≤ t → t ≤ source.bl_tx_id → Lies hash source.bl_tx_id source.bl_root t a strings → Lies hash target.bl_tx_id target.bl_root t a strings ⊎ HasPair hash strings
tree-to-tree hash size source target strings ok t a one within l =
    let shrink : source.bl_tx_id ≤ target.bl_tx_id = ok.dual.shrink in
    elim (cases_lt source.bl_tx_id target.bl_tx_id) [
      | inl less ↦ (
          let g = ok.dual.grown (omega arith) less in
          elim (carry hash size a g.first strings g.first_long source.bl_tx_id target.bl_tx_id g.terms (omega arith) g.long g.digests g.among (t - 1) l.path (omega arith)
          l.leads.long l.leads.digests (l.leads.gives ∙ sym g.gives_old) l.leads.among) [
            | inl found ↦ inl (record { path = found.0; leads = subst (λ (r : List ℕ). Leads hash target.bl_tx_id (t - 1) a found.0 r strings) g.gives_new found.1 })
            | inr pair ↦ inr pair
          ])
      | inr not ↦ (
          let same : source.bl_tx_id ≡ target.bl_tx_id = omega arith in
          let roots : source.bl_root ≡ target.bl_root = ok.dual.kept (omega arith) same in
          inl (subst (λ n. Lies hash n target.bl_root t a strings) same (subst (λ (r : List ℕ). Lies hash source.bl_tx_id r t a strings) roots l)))
    ]

-- the chain from the tip of the target's tree to the source, by an anchor
pub anchor-to-source : (hash : Hash) (source target : Header) (tip : List ℕ) (from to : Header) (strings : List (List ℕ)) → ShowsDual hash source target tip strings
    → ShowsAnchor hash source target tip from to strings → Links hash tip target.bl_tx_id source.id (alh hash source) strings ⊎ HasPair hash strings
anchor-to-source hash source target tip from to strings ok an =
    elim (same_header hash to source strings an.dual.target_fits ok.source_fits an.to_alh an.dual.shown.1 ok.shown.0) [
      | inl same ↦ (
          let bl : to.bl_tx_id ≡ source.bl_tx_id = ap (λ (h : Header). h.bl_tx_id) same in
          let id : from.id ≡ target.bl_tx_id = an.from_id in
          let shrink : source.bl_tx_id ≤ target.bl_tx_id = ok.shrink in
          let l : Links hash (alh hash from) from.id to.id (alh hash to) strings = an.dual.near (omega arith) in
          inl (subst (λ (d : List ℕ). Links hash d target.bl_tx_id source.id (alh hash source) strings) an.from_alh
          (subst (λ k. Links hash (alh hash from) k source.id (alh hash source) strings) id
          (subst (λ k. Links hash (alh hash from) from.id k (alh hash source) strings) an.to_id
          (subst (λ (d : List ℕ). Links hash (alh hash from) from.id to.id d strings) an.to_alh l)))))
      | inr pair ↦ inr pair
    ]

-- the chain from the tip of the target's tree to the source, where the tree ends before it
pub tip-to-source : (hash : Hash) → GivesDigests hash → (source target : Header) (strings : List (List ℕ)) (ok : ShowsAdvance hash source target strings)
    → source.bl_tx_id < target.bl_tx_id → target.bl_tx_id ≤ source.id → Links hash ok.tip target.bl_tx_id source.id (alh hash source) strings ⊎ HasPair hash strings
tip-to-source hash size source target strings ok grows ends =
    elim (cases_lt target.bl_tx_id source.id) [
      | inl before ↦ (
          let an = ok.anchor grows before in
          anchor-to-source hash source target ok.tip an.0 an.1 strings ok.dual an.2)
      | inr not ↦ (
          let same : target.bl_tx_id ≡ source.id = omega arith in
          inl (subst (λ k. Links hash ok.tip target.bl_tx_id k (alh hash source) strings) same (Links-empty hash ok.tip (alh hash source) target.bl_tx_id strings (ok.dual.at_tip (sym same)))))
    ]

-- chain to tree
chain-to-tree : (hash : Hash) → GivesDigests hash → (source target : Header) (strings : List (List ℕ)) (ok : ShowsAdvance hash source target strings) (t : ℕ) (a : List ℕ)
    → length a ≡ 32 → source.bl_tx_id < t → t ≤ source.id → t ≤ target.bl_tx_id → Links hash a t source.id (alh hash source) strings → Lies hash target.bl_tx_id target.bl_root t a strings ⊎ HasPair hash strings
chain-to-tree hash size source target strings ok t a la above under within l =
    elim (cases_lt source.id target.bl_tx_id) [
      | inl far ↦ elim (cases_lt t source.id) [
        | inl less ↦ (
            let w = on-advance hash size target.bl_tx_id target.bl_root source.bl_tx_id source.id (alh hash source) strings t (ok.dual.far_advance far) above less in
            elim (same_source hash size a w.value (alh hash source) t source.id strings la w.digest l w.links) [
              | inl same ↦ inl (Lies-same hash target.bl_tx_id target.bl_root t a w.value strings same w.lies)
              | inr pair ↦ inr pair
            ])
        | inr not ↦ (
            let same : source.id ≡ t = omega arith in
            let start : a ≡ alh hash source = Links-nothing hash a (alh hash source) t strings (subst (λ k. Links hash a t k (alh hash source) strings) same l) in
            inl (subst (λ k. Lies hash target.bl_tx_id target.bl_root k a strings) same (Lies-same hash target.bl_tx_id target.bl_root source.id a (alh hash source) strings start (ok.dual.inclusion far))))
      ]
      | inr near ↦ elim (tip-to-source hash size source target strings ok (omega arith) near) [
        | inl back ↦ elim (cases_lt t target.bl_tx_id) [
          | inl less ↦ (
              let w = on-advance hash size target.bl_tx_id target.bl_root source.bl_tx_id target.bl_tx_id ok.tip strings t (ok.dual.near_advance near) above less in
              elim (same_source hash size a w.value (alh hash source) t source.id strings la w.digest l (Links-joined hash w.value ok.tip (alh hash source) t target.bl_tx_id source.id strings w.links back)) [
                | inl same ↦ inl (Lies-same hash target.bl_tx_id target.bl_root t a w.value strings same w.lies)
                | inr pair ↦ inr pair
              ])
          | inr not ↦ (
              let same : target.bl_tx_id ≡ t = omega arith in
              elim (same_source hash size a ok.tip (alh hash source) t source.id strings la ok.dual.tip_long l (subst (λ k. Links hash ok.tip k source.id (alh hash source) strings) same back)) [
                | inl start ↦ inl (subst (λ k. Lies hash target.bl_tx_id target.bl_root k a strings) same (Lies-same hash target.bl_tx_id target.bl_root target.bl_tx_id a ok.tip strings start (ok.dual.last (omega arith))))
                | inr pair ↦ inr pair
              ])
        ]
        | inr pair ↦ inr pair
      ]
    ]

-- what is opened under the source is opened under the target, or there is a pair
pub advance : (hash : Hash) → GivesDigests hash → (source target : Header) (strings : List (List ℕ)) → ShowsAdvance hash source target strings → (t : ℕ) (a : List ℕ)
    → IsOpened hash source t a strings → IsOpened hash target t a strings ⊎ HasPair hash strings
advance hash size source target strings ok t a o =
    let order : source.id ≤ target.id = ok.dual.order in
    let shrink : source.bl_tx_id ≤ target.bl_tx_id = ok.dual.shrink in
    let placed : t ≤ source.id = o.placed in
    let tree : (t ≤ target.bl_tx_id → Lies hash target.bl_tx_id target.bl_root t a strings) ⊎ HasPair hash strings =
    elim (cases_lt target.bl_tx_id t) [
      | inl past ↦ inl (λ h. absurd (omega arith))
      | inr within ↦ elim (cases_lt source.bl_tx_id t) [
        | inl above ↦ elim (chain-to-tree hash size source target strings ok t a o.digest above placed within (o.by_chain (omega arith))) [
          | inl found ↦ inl (λ h. found)
          | inr pair ↦ inr pair
        ]
        | inr below ↦ elim (tree-to-tree hash size source target strings ok t a o.given below (o.by_tree below)) [
          | inl found ↦ inl (λ h. found)
          | inr pair ↦ inr pair
        ]
      ]
    ] in
    elim tree [
      | inl found ↦ inl (record {
        given = o.given;
        placed = omega arith;
        digest = o.digest;
        by_tree = found;
        by_chain = λ h. Links-joined hash a (alh hash source) (alh hash target) t source.id target.id strings (o.by_chain (omega arith)) (ok.dual.near (omega arith));
      })
      | inr pair ↦ inr pair
    ]
