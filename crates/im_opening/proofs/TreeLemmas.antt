-- The tree of a history's Alh, while it grows.
use Rattle.std.proofs.Common.{◌≡◌, ◌≤◌, ℕ, List, length, take, sym, ◌∙◌, subst}
use Rattle.std.proofs.lemmas.List.{length-take-le}
use Rattle.im_digest.specs.Digests.{Hash}
use Rattle.im_levels.specs.Leveled.{Stored, IsLeveled}
use Rattle.im_proof.specs.Built.{headers_of}
use Rattle.im_opening.specs.Opening.{IsOneHistory}
use Rattle.im_opening.specs.Reach.{IsConsistent, txs_of}
use Rattle.im_opening.specs.declared.found.FoundHistory.{FoundHistory}
use Rattle.im_opening.proofs.RecordGrows.{consistent-records}

-- the size of the tree is the number of its leaves
pub tree-size : (hash : Hash) (alhs : List (List ℕ)) (bl : ℕ) (tree : Stored) → bl ≤ length alhs → IsLeveled hash (take bl alhs) tree → bl ≡ tree.size
tree-size hash alhs bl tree le whole = sym (whole.counted ∙ length-take-le bl alhs le)

-- what was read so far is one history's
pub consistent-found : (hash : Hash) (found : FoundHistory) (bl : ℕ) (bl_root : List ℕ) → IsConsistent hash found.records.items found.alhs.items bl bl_root found.tree
    → found.headers.items ≡ headers_of hash (txs_of found.records.items) → IsOneHistory hash found
consistent-found hash found bl bl_root h headed =
    let alhs = found.alhs.items in
    let both = consistent-records hash found.records.items alhs bl bl_root found.tree h in
    let size : bl ≡ found.tree.size = tree-size hash alhs bl found.tree h.linked h.tree_is in
    record {
      history = both.0;
      records = both.1;
      headers = headed;
      alhs = h.alhs_are;
      last = sym (h.last ∙ size);
      linked = subst (λ (n : ℕ). n ≤ length alhs) size h.linked;
      tree = subst (λ (n : ℕ). IsLeveled hash (take n alhs) found.tree) size h.tree_is;
    }
