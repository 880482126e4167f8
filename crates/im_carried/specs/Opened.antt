-- Headers that are opened under a state: by a path in the state's tree, or by a chain to the state. Where a
-- definition has `strings`, each string that is hashed on the way is among these.
use Rattle.std.specs.Prelude.{◌≡◌, ℕ, ◌≤◌, ◌+◌, ◌-◌, List, length}
use Rattle.im_digest.specs.Digests.{Hash}
use Rattle.im_model.specs.Chains.{chain, chain_strings}
use Rattle.im_model.specs.Headers.{alh}
use Rattle.im_model.specs.declared.headers.Header.{Header}
use Rattle.im_pairs.specs.Pairs.{AreAmong}
use Rattle.im_pairs.specs.Leads.{Leads}

-- a chain from an Alh, that of number t, to another, that of number n
pub record Links (hash : Hash) (alh : List ℕ) (t n : ℕ) (end : List ℕ) (strings : List (List ℕ)) : Type 0 where
  pub inners : List (List ℕ)
  pub long : t + length inners ≡ n
  pub ends : chain hash alh t inners ≡ end
  pub among : AreAmong (chain_strings hash alh t inners) strings

-- leaf t, from 1, of a tree of this size and root
pub record Lies (hash : Hash) (size : ℕ) (root : List ℕ) (t : ℕ) (alh : List ℕ) (strings : List (List ℕ)) : Type 0 where
  pub path : List (List ℕ)
  pub leads : Leads hash size (t - 1) alh path root strings

-- number t with this Alh is opened under a state: up to the end of the state's tree it lies in the tree, and
-- from there on a chain leads from it to the state; at the end of the tree both
pub record IsOpened (hash : Hash) (state : Header) (t : ℕ) (a : List ℕ) (strings : List (List ℕ)) : Type 0 where
  pub given : 1 ≤ t
  pub placed : t ≤ state.id
  pub digest : length a ≡ 32
  pub by_tree : t ≤ state.bl_tx_id → Lies hash state.bl_tx_id state.bl_root t a strings
  pub by_chain : state.bl_tx_id ≤ t → Links hash a t state.id (alh hash state) strings
