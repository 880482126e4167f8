use Rattle.std.proofs.Common.{ℕ, List, ◌++◌, ap, ◌∙◌}
use Rattle.im_wire.specs.Texts.{digests_data}
use Rattle.im_wire.specs.Tokens.{tokens_of}
use Rattle.im_wire.proofs.TokenLemmas.{item_put}
use Rattle.im_wire.proofs.writing.fields.put_digest_lists.Goals as goal

pub loop-digests-preserved : goal.loop-digests-preserved
loop-digests-preserved c = record {
  tokens = item_put digests_data c.args.lists.now c.loop-digests.digests-index c.digests-item.result c.loop-digests.out.tokens c.put_digests.new.out.tokens _
      c.loop-digests-test.true
      (c.in_ok-put_digests.ensures.ok ∙ ap (λ (ds : List (List ℕ)). c.loop-digests.out.tokens ++ tokens_of (digests_data ds)) (c.as_slice.ensures ∙ c.digests-item.is))
      c.loop-digests.invariant.tokens;
  before = c.in_ok-put_digests.ensures.before ∙ c.loop-digests.invariant.before;
}
