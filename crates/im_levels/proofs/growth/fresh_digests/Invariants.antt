use Rattle.std.proofs.Common.{◌≡◌, ℕ, ◌+◌, ◌*◌, List, [], ◌∷◌, ◌++◌, length}
use Rattle.im_levels.specs.Leveled.{AreStored}
use Rattle.im_levels.proofs.FreshLemmas.{IsGrowing, IsMade}
use Rattle.im_levels.proofs.growth.fresh_digests.Given as goal

abbrev pub invariant-loop-count : goal.invariant-loop-count
invariant-loop-count g l = record {
  place : IsGrowing l.size l.count l.at l.width (length l.fresh.items);
  cost : l.steps ≡ l.fn.steps + 1 + 2 * length l.fresh.items;
  leaves : (leaves : List (List ℕ)) → l.size ≡ length leaves → AreStored (g.H.Hash32.digest l.hash) leaves l.digests
      → IsMade (g.H.Hash32.digest l.hash) (leaves ++ l.alh ∷ []) l.size l.fresh.items l.digest l.at l.width;
}

abbrev pub decreases-loop-count : goal.decreases-loop-count
decreases-loop-count g l = l.count
