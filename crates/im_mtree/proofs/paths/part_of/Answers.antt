use Rattle.im_mtree.proofs.InclusionLemmas.{parts-left, parts-right}
use Rattle.im_mtree.proofs.paths.part_of.Goals as goal

pub returns-then-i-k-clause-path : goal.returns-then-i-k-clause-path
returns-then-i-k-clause-path c =
    parts-left _ _ _ _ _ c.requires.more c.split-k.ensures.value c.if-i-k.true c.split_at.ensures.front c.split_at.ensures.back

pub returns-else-i-k-clause-path : goal.returns-else-i-k-clause-path
returns-else-i-k-clause-path c =
    parts-right _ _ _ _ _ c.requires.more c.split-k.ensures.value c.if-i-k.false c.split_at.ensures.front c.split_at.ensures.back
