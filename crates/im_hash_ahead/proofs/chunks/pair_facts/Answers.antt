use Rattle.std.proofs.Common.{rules}
use Rattle.std.proofs.lemmas.Result.{IfOk-weaker}
use Rattle.im_hash_ahead.proofs.chunks.pair_facts.Goals as goal

-- each result is that of a call with a chunk, which says it of its facts
pub returns : goal.returns
returns g c = IfOk-weaker c.map_chunks.result _ _ (λ parts h n d lt. let k = (h n d lt).1.call in search rules) c.map_chunks.ensures.each
