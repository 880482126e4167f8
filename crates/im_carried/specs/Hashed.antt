-- The strings that are hashed in the checks of a dual proof, and what its types say of it.
use Rattle.std.specs.Prelude.{◌≡◌, ℕ, ◌+◌, ◌-◌, ◌&&◌, List, [], ◌∷◌, ◌++◌, length, drop, reverse, nat_eq, nat_lt, if◌then◌else◌, All}
use Rattle.im_digest.specs.Digests.{Hash}
use Rattle.im_model.specs.Paths.{up_strings}
use Rattle.im_model.specs.Growth.{consistency_strings}
use Rattle.im_model.specs.Chains.{link_string, chain_strings}
use Rattle.im_model.specs.Headers.{alh, header_strings}
use Rattle.im_proof.specs.ChainChecks.{first_of}
use Rattle.im_proof.specs.declared.proofs.DualProof.{DualProof}
use Rattle.im_pairs.specs.Pairs.{AreDigests}
use Rattle.im_pairs.specs.Ranges.{HeaderFits}

-- for a path of transaction k in a tree of this size, where it is due
abbrev pub path_strings : Hash → ℕ → ℕ → List ℕ → List (List ℕ) → List (List ℕ)
path_strings hash size k alh path = up_strings hash size (k - 1) alh (reverse path)

-- for the path of the source
abbrev pub inclusion_strings : Hash → ℕ → ℕ → List ℕ → List (List ℕ) → List (List ℕ)
inclusion_strings hash s size alh path = if nat_lt s size then path_strings hash size s alh path else []

-- for the consistency list
abbrev pub grown_strings : Hash → ℕ → ℕ → List (List ℕ) → List (List ℕ)
grown_strings hash m n list = if nat_lt 0 m && nat_lt m n then consistency_strings hash m n list else []

-- for the path of the last transaction in the tree
abbrev pub last_strings : Hash → ℕ → List ℕ → List (List ℕ) → List (List ℕ)
last_strings hash size alh path = if nat_lt 0 size then path_strings hash size size alh path else []

-- for linear terms
abbrev pub linear_strings : Hash → ℕ → List (List ℕ) → List (List ℕ)
linear_strings hash from terms = chain_strings hash (first_of terms) from (drop 1 terms)

-- for the paths of an advance, and the links between them
abbrev pub walk_strings : Hash → ℕ → ℕ → List ℕ → List (List ℕ) → List (List (List ℕ)) → List (List ℕ)
walk_strings hash size k alh [] paths = []
walk_strings hash size k alh (inner ∷ inners) [] = []
walk_strings hash size k alh (inner ∷ inners) (path ∷ paths) =
    path_strings hash size k alh path
    ++ (link_string (k + 1) alh inner ∷ walk_strings hash size (k + 1) (hash (link_string (k + 1) alh inner)) inners paths)

-- for an advance from a tree's end
abbrev pub advance_strings : Hash → ℕ → ℕ → List (List ℕ) → List (List (List ℕ)) → List (List ℕ)
advance_strings hash a size terms paths =
    if nat_eq (length terms) 0 then [] else walk_strings hash size (a + 1) (first_of terms) (drop 1 terms) paths

-- for all of a dual proof
unfoldable pub dual_strings : Hash → DualProof → List (List ℕ)
dual_strings hash p =
    (header_strings hash p.source ++ header_strings hash p.target)
    ++ (inclusion_strings hash p.source.id p.target.bl_tx_id (alh hash p.source) p.inclusion
    ++ (grown_strings hash p.source.bl_tx_id p.target.bl_tx_id p.consistency
    ++ (last_strings hash p.target.bl_tx_id p.target_bl_tx_alh p.last_inclusion
    ++ (linear_strings hash (if nat_lt p.source.id p.target.bl_tx_id then p.target.bl_tx_id else p.source.id) p.linear
    ++ advance_strings hash p.source.bl_tx_id p.target.bl_tx_id p.linear_advance.terms p.linear_advance.inclusions))))

-- what the types say of a dual proof
pub record DualFits (p : DualProof) : Type 0 where
  pub source : HeaderFits p.source
  pub target : HeaderFits p.target
  pub inclusion : AreDigests p.inclusion
  pub consistency : AreDigests p.consistency
  pub tip : length p.target_bl_tx_alh ≡ 32
  pub last : AreDigests p.last_inclusion
  pub linear : AreDigests p.linear
  pub terms : AreDigests p.linear_advance.terms
  pub paths : All AreDigests p.linear_advance.inclusions
