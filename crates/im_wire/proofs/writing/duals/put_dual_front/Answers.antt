use Rattle.std.proofs.lemmas.Result.{on_ok_weaker}
use Rattle.std.specs.Prelude.{codes}
use Rattle.im_wire.specs.Texts.{digests_data}
use Rattle.im_wire.specs.Tokens.{field_tokens, dual_front_tokens}
use Rattle.im_wire.proofs.TokenLemmas.{added3}
use Rattle.im_wire.proofs.writing.duals.put_dual_front.Goals as goal

pub returns-clause-ok : goal.returns-clause-ok
unfolding dual_front_tokens
returns-clause-ok c =
    on_ok_weaker c.put_digests_field-3.result
    (added3 c.args.out.now.tokens _ _ _
    (field_tokens (codes "consistency") (digests_data c.args.dual.now.consistency)) (field_tokens (codes "inclusion") (digests_data c.args.dual.now.inclusion)) (field_tokens (codes "lastInclusion") (digests_data c.args.dual.now.last_inclusion))
    c.in_ok-put_digests_field.ensures.ok c.in_ok-put_digests_field-2.ensures.ok)
    c.put_digests_field-3.ensures.ok
