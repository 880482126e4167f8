use Rattle.std.proofs.Common.{[], ◌∙◌}
use Rattle.im_wire.specs.Texts.{hex_data}
use Rattle.im_wire.proofs.TokenLemmas.{item_put}
use Rattle.im_wire.proofs.writing.fields.put_digests.Goals as goal

pub loop-digest-preserved : goal.loop-digest-preserved
loop-digest-preserved c = record {
  tokens = item_put hex_data c.args.digests.now c.loop-digest.digest-index [] c.loop-digest.out.tokens c.put_digest.new.out.tokens _
      c.loop-digest-test.true c.in_ok-put_digest.ensures.ok c.loop-digest.invariant.tokens;
  before = c.in_ok-put_digest.ensures.before ∙ c.loop-digest.invariant.before;
}
