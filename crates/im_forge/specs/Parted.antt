-- Where two paths of one leaf number part. Both are read from the root down here.
use Rattle.std.specs.Prelude.{◌≡◌, ◌≢◌, ◌⊎◌, ℕ, ◌<◌, List, ◌++◌, length}
use Rattle.im_digest.specs.Digests.{Hash}
use Rattle.im_model.specs.Trees.{node, node_string}
use Rattle.im_model.specs.Paths.{IsPath, up, up_strings}
use Rattle.im_pairs.specs.Pairs.{AreDigests, IsPair}
use Rattle.im_forge.specs.declared.parts.Parted.{Parted}

-- two paths of leaf i, from 0, of n, from the leaves of two unequal digests
pub record ArePaths (n i : ℕ) (leaf leaf2 : List ℕ) (path path2 : List (List ℕ)) : Type 0 where
  pub within : i < n
  pub long : IsPath n i path
  pub long2 : IsPath n i path2
  pub digests : AreDigests path
  pub digests2 : AreDigests path2
  pub unequal : leaf ≢ leaf2
  pub size : length leaf ≡ 32
  pub size2 : length leaf2 ≡ 32

-- the roots of both, and a pair where they are one
pub record IsParted (hash : Hash) (n i : ℕ) (leaf leaf2 : List ℕ) (path path2 : List (List ℕ)) (parted : Parted) : Type 0 where
  pub ours : parted.ours ≡ up hash n i leaf path
  pub theirs : parted.theirs ≡ up hash n i leaf2 path2
  pub pair : up hash n i leaf path ≡ up hash n i leaf2 path2
      → IsPair hash parted.x parted.y (up_strings hash n i leaf path ++ up_strings hash n i leaf2 path2)

-- the nodes of children a and b, and of c and d, over what was parted: where the roots below are one its
-- strings stay, and else they are those of the two nodes
pub record IsOver (hash : Hash) (a b c d : List ℕ) (below over : Parted) : Type 0 where
  pub ours : over.ours ≡ node hash a b
  pub theirs : over.theirs ≡ node hash c d
  pub strings : ((below.ours ≡ below.theirs) × (over.x ≡ below.x) × (over.y ≡ below.y))
      ⊎ ((below.ours ≢ below.theirs) × (over.x ≡ node_string a b) × (over.y ≡ node_string c d))
