use Rattle.im_index.proofs.IndexLemmas.{index-new}
use Rattle.im_index.proofs.index.Index.new.Goals as goal

pub returns : goal.returns
returns c = index-new c.new.result.items c.new.ensures.items
