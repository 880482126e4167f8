use Rattle.im_levels.proofs.GrowthLemmas.{parts-low, parts-high}
use Rattle.im_atree.proofs.built.part_of.Goals as goal

pub returns-then-m-k-clause-first : goal.returns-then-m-k-clause-first
returns-then-m-k-clause-first c =
    λ hash. (parts-low _ _ _ _ _ c.requires.some c.requires.grows c.split-k.ensures.value c.if-m-k.true c.split_at.ensures.front c.split_at.ensures.back hash).0

pub returns-then-m-k-clause-rest : goal.returns-then-m-k-clause-rest
returns-then-m-k-clause-rest c =
    λ hash. (parts-low _ _ _ _ _ c.requires.some c.requires.grows c.split-k.ensures.value c.if-m-k.true c.split_at.ensures.front c.split_at.ensures.back hash).1

pub returns-else-m-k-clause-first : goal.returns-else-m-k-clause-first
returns-else-m-k-clause-first c =
    λ hash. (parts-high _ _ _ _ _ c.requires.some c.requires.grows c.split-k.ensures.value c.if-m-k.false c.split_at.ensures.front c.split_at.ensures.back hash).0

pub returns-else-m-k-clause-rest : goal.returns-else-m-k-clause-rest
returns-else-m-k-clause-rest c =
    λ hash. (parts-high _ _ _ _ _ c.requires.some c.requires.grows c.split-k.ensures.value c.if-m-k.false c.split_at.ensures.front c.split_at.ensures.back hash).1
