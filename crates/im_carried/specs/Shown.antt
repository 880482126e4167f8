-- What a dual proof and an advance show that pass all their checks, apart from the lists that hold it.
use Rattle.std.specs.Prelude.{◌≡◌, ◌⊎◌, ℕ, ◌<◌, ◌≤◌, ◌+◌, List, [], ◌∷◌, length}
use Rattle.im_digest.specs.Digests.{Hash}
use Rattle.im_model.specs.Growth.{IsGrowth, older, newer, grow_strings}
use Rattle.im_model.specs.Chains.{link_string, chain_strings}
use Rattle.im_model.specs.Headers.{alh, header_strings}
use Rattle.im_model.specs.declared.headers.Header.{Header}
use Rattle.im_pairs.specs.Pairs.{AreDigests, AreAmong}
use Rattle.im_pairs.specs.Ranges.{HeaderFits}
use Rattle.im_carried.specs.Opened.{Links, Lies}

-- a chain from the Alh of number k to the end, each Alh before the end in the tree
abbrev pub Walks : Hash → ℕ → List ℕ → List ℕ → ℕ → List (List ℕ) → List ℕ → List (List ℕ) → Type 0
Walks hash size root alh k [] end strings = alh ≡ end
Walks hash size root alh k (inner ∷ inners) end strings =
    Lies hash size root k alh strings × Walks hash size root (hash (link_string (k + 1) alh inner)) (k + 1) inners end strings

-- a linear advance from a to e in that tree
abbrev pub Advances : Hash → ℕ → List ℕ → ℕ → ℕ → List ℕ → List (List ℕ) → Type 0
Advances hash size root a e end strings =
    (e ≤ a + 1) ⊎ ((a + 1 < e) × (first : List ℕ) × (inners : List (List ℕ)) × (length first ≡ 32) × (a + 1 + length inners ≡ e)
    × Walks hash size root first (a + 1) inners end strings × AreAmong (chain_strings hash first (a + 1) inners) strings)

-- a consistency list from one size and root to another
pub record GrowsTree (hash : Hash) (m n : ℕ) (old_root new_root : List ℕ) (strings : List (List ℕ)) : Type 0 where
  pub first : List ℕ
  pub terms : List (List ℕ)
  pub first_long : length first ≡ 32
  pub long : IsGrowth m n terms
  pub digests : AreDigests terms
  pub gives_old : older hash m n first terms ≡ old_root
  pub gives_new : newer hash m n first terms ≡ new_root
  pub among : AreAmong (grow_strings hash m n first terms) strings

-- a dual proof from a source to a target, with this Alh at the end of the target's tree
pub record ShowsDual (hash : Hash) (source target : Header) (tip : List ℕ) (strings : List (List ℕ)) : Type 0 where
  pub source_fits : HeaderFits source
  pub target_fits : HeaderFits target
  pub source_tree : source.bl_tx_id < source.id
  pub target_tree : target.bl_tx_id < target.id
  pub order : source.id ≤ target.id
  pub shrink : source.bl_tx_id ≤ target.bl_tx_id
  pub tip_long : length tip ≡ 32
  pub shown : AreAmong (header_strings hash source) strings × AreAmong (header_strings hash target) strings
  pub inclusion : source.id < target.bl_tx_id → Lies hash target.bl_tx_id target.bl_root source.id (alh hash source) strings
  pub kept : 0 < source.bl_tx_id → source.bl_tx_id ≡ target.bl_tx_id → source.bl_root ≡ target.bl_root
  pub grown : 0 < source.bl_tx_id → source.bl_tx_id < target.bl_tx_id
      → GrowsTree hash source.bl_tx_id target.bl_tx_id source.bl_root target.bl_root strings
  pub last : 0 < target.bl_tx_id → Lies hash target.bl_tx_id target.bl_root target.bl_tx_id tip strings
  pub at_tip : source.id ≡ target.bl_tx_id → tip ≡ alh hash source
  pub far : source.id < target.bl_tx_id → Links hash tip target.bl_tx_id target.id (alh hash target) strings
  pub far_advance : source.id < target.bl_tx_id
      → Advances hash target.bl_tx_id target.bl_root source.bl_tx_id source.id (alh hash source) strings
  pub near : target.bl_tx_id ≤ source.id → Links hash (alh hash source) source.id target.id (alh hash target) strings
  pub near_advance : target.bl_tx_id ≤ source.id
      → Advances hash target.bl_tx_id target.bl_root source.bl_tx_id target.bl_tx_id tip strings

-- an anchor of an advance: a dual proof, from one header to another, of the transaction at the end of the target's
-- tree, which has this Alh, and of the source
pub record ShowsAnchor (hash : Hash) (source target : Header) (tip : List ℕ) (from to : Header) (strings : List (List ℕ)) : Type 0 where
  pub from_tip : List ℕ
  pub dual : ShowsDual hash from to from_tip strings
  pub from_id : from.id ≡ target.bl_tx_id
  pub to_id : to.id ≡ source.id
  pub from_alh : alh hash from ≡ tip
  pub to_alh : alh hash to ≡ alh hash source

-- an advance: a dual proof, with an anchor where the target's tree grew and ends below the source
pub record ShowsAdvance (hash : Hash) (source target : Header) (strings : List (List ℕ)) : Type 0 where
  pub tip : List ℕ
  pub dual : ShowsDual hash source target tip strings
  pub anchor : source.bl_tx_id < target.bl_tx_id → target.bl_tx_id < source.id
      → (from : Header) × (to : Header) × ShowsAnchor hash source target tip from to strings
