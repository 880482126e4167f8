use Rattle.std.proofs.Common.{◌≡◌, ◌<◌, ◌++◌, length}
use Rattle.im_mtree.specs.Inclusion.{inclusion}
use Rattle.im_mtree.proofs.paths.terms_down.Given as goal

abbrev pub invariant-loop-part : goal.invariant-loop-part
invariant-loop-part g l = record {
  within : l.index < length l.part;
  path : l.terms.items ++ inclusion (g.H.Hash32.digest l.hash) l.part l.index ≡ inclusion (g.H.Hash32.digest l.hash) l.digests l.i;
}

abbrev pub decreases-loop-part : goal.decreases-loop-part
decreases-loop-part g l = length l.part
