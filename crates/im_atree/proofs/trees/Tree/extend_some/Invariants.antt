use Rattle.std.proofs.Common.{◌≡◌, ℕ, ◌+◌, List, ◌++◌, length, take}
use Rattle.im_levels.specs.Leveled.{IsLeveled}
use Rattle.im_atree.proofs.trees.Tree.extend_some.Given as goal

abbrev pub invariant-loop-alh : goal.invariant-loop-alh
invariant-loop-alh g l = record {
  size : l.self.size ≡ l.initial.self.size + l.alh-index;
  front : take (length l.initial.self.digests) l.self.digests ≡ l.initial.self.digests;
  leaves : (leaves : List (List ℕ)) → IsLeveled (g.H.Hash32.digest l.hash) leaves l.initial.self
      → IsLeveled (g.H.Hash32.digest l.hash) (leaves ++ take l.alh-index l.alhs) l.self;
}
