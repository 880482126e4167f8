-- A walk from the root down along a path and a consistency list. Both are read from the root down here.
use Rattle.std.specs.Prelude.{◌≡◌, ◌⊎◌, ℕ, ◌<◌, List, ◌++◌, length}
use Rattle.im_digest.specs.Digests.{Hash}
use Rattle.im_model.specs.Trees.{node, node_string}
use Rattle.im_model.specs.Paths.{IsPath, up, up_strings}
use Rattle.im_model.specs.Growth.{IsGrowth, older, newer, grow_strings}
use Rattle.im_pairs.specs.Pairs.{AreDigests}
use Rattle.im_pathmove.specs.Carried.{IsCarried}
use Rattle.im_pathmove.specs.declared.carried.Carried.{Carried}
use Rattle.im_pathmove.specs.declared.carried.Carried.TheVariants.{Pair}
use Rattle.im_pathmove.specs.declared.walks.Walked.{Walked}

-- the path is one of leaf i, from 0, of m, and the terms are those behind the first of a list from m to n
pub record HaveShape (m n i : ℕ) (path : List (List ℕ)) (first : List ℕ) (terms : List (List ℕ)) : Type 0 where
  pub some : 0 < m
  pub within : i < m
  pub path_long : IsPath m i path
  pub path_digests : AreDigests path
  pub first_digest : length first ≡ 32
  pub terms_long : IsGrowth m n terms
  pub terms_digests : AreDigests terms

-- the roots that both give, and what the path is carried to where its root is the older one
pub record IsWalked (hash : Hash) (m n i : ℕ) (leaf : List ℕ) (path : List (List ℕ)) (first : List ℕ) (terms : List (List ℕ)) (walked : Walked) : Type 0 where
  pub root : walked.root ≡ up hash m i leaf path
  pub old_root : walked.older ≡ older hash m n first terms
  pub new_root : walked.newer ≡ newer hash m n first terms
  pub carried : up hash m i leaf path ≡ older hash m n first terms
      → IsCarried hash n i leaf (newer hash m n first terms) (up_strings hash m i leaf path ++ grow_strings hash m n first terms) walked.carried

-- what is kept where something holds, and else the other
abbrev pub Picks : Type 0 → Carried → Carried → Carried → Type 0
Picks Holds kept other carried = (Holds × (carried ≡ kept)) ⊎ ((Holds → ⊥) × (carried ≡ other))

-- a path's node next to its root has children a and b, and a list's older node has c and d, and its newer
-- node c and e: what is carried is kept where both have the same children, and else the two nodes are the pair
pub record IsJoined (hash : Hash) (a b c d e : List ℕ) (kept : Carried) (walked : Walked) : Type 0 where
  pub root : walked.root ≡ node hash a b
  pub old_root : walked.older ≡ node hash c d
  pub new_root : walked.newer ≡ node hash c e
  pub carried : Picks ((a ≡ c) × (b ≡ d)) kept (Pair (node_string a b) (node_string c d)) walked.carried
